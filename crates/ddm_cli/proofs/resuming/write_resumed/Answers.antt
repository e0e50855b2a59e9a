use Rattle.std.proofs.Common.{◌≡◌, ◌≤◌, Err, ap, subst, arith, rules}
use Rattle.ddm_cli.specs.TreeModel.State.Values.{MachineValue}
use Rattle.ddm_cli.specs.DdmTree.Machine.{MachineState}
use Rattle.ddm_cli.specs.Causes.{CheckpointCause}
use Rattle.std.proofs.lemmas.Result.{IfErr-weaker, IfOk-weaker}
use Rattle.checkpoint.specs.Resumed.{Resumed}
use Rattle.ddm_cli.specs.AnyMachine.Any.{machine_state}
use Rattle.ddm_words.specs.Views.{resumption_from}
use Rattle.ddm_cli.proofs.Rests.{checkpoint_refused, gives_from, goes_on, rest_refused, rest_taken}
use Rattle.ddm_cli.proofs.resuming.write_resumed.Goals as goal

pub write_rest-written-requires-clause-start : goal.write_rest-written-requires-clause-start
write_rest-written-requires-clause-start g c =
    let found = c.in_ok-fresh.ensures.found in
    let more = c.in_ok-machine.ensures in
    goes_on c.in_ok-tree.tree c.in_ok-tree.ensures.tree (machine_state c.in_ok-fresh.fresh) (machine_state c.in_ok-machine.machine) c.in_ok-machine.first (found.0, found.1) more.frame more.turns more.few

pub returns-clause-written : goal.returns-clause-written
returns-clause-written g c =
    let told = g.F.Shelf.told c.args.files.now in
    let n = resumption_from c.args.resumption in
    let found = c.in_ok-fresh.ensures.found in
    let r : Resumed = record { machine = (machine_state c.in_ok-machine.machine).machine; counts = c.in_ok-machine.first } in
    let image = rw c.tree_file.ensures.same at found.2 in
    let given = rw (c.image_file.ensures.same, c.tree_file.ensures.same) at c.in_ok-machine.ensures.found in
    let gives = gives_from c.in_ok-tree.tree found.0 (machine_state c.in_ok-fresh.fresh) (told n.checkpoint) r found.1 given in
    let ran = rw (c.resumed_file.ensures.same, c.image_file.ensures.same, c.tree_file.ensures.same) at c.write_rest-written.ensures.ran in
    IfOk-weaker c.write_rest-written.result _ _ (λ w (text, ran, writes). (text, rest_taken c.in_ok-tree.tree found.0 found.1.accepted r (told n.tree) (told n.image) (told n.checkpoint) (told n.schedule) text c.in_ok-tree.ensures.found image gives ran, writes)) ran

pub returns-clause-refused : goal.returns-clause-refused
returns-clause-refused g c =
    let told = g.F.Shelf.told c.args.files.now in
    let n = resumption_from c.args.resumption in
    let found = c.in_ok-fresh.ensures.found in
    let r : Resumed = record { machine = (machine_state c.in_ok-machine.machine).machine; counts = c.in_ok-machine.first } in
    let image = rw c.tree_file.ensures.same at found.2 in
    let given = rw (c.image_file.ensures.same, c.tree_file.ensures.same) at c.in_ok-machine.ensures.found in
    let gives = gives_from c.in_ok-tree.tree found.0 (machine_state c.in_ok-fresh.fresh) (told n.checkpoint) r found.1 given in
    let before = g.F.Shelf.faults c.resumed_file.new.files n.schedule in
    let cause = rw (c.resumed_file.ensures.same, c.image_file.ensures.same, c.tree_file.ensures.same) at c.write_rest-written.ensures.cause in
    let earlier : g.F.Shelf.faults c.args.files.now n.schedule ≤ before = omega (arith, c.tree_file.ensures.later n.schedule, c.image_file.ensures.later n.schedule, c.resumed_file.ensures.later n.schedule) in
    IfErr-weaker c.write_rest-written.result _ _ (rest_refused g.F.Shelf.told g.F.Shelf.faults c.args.files.now c.write_rest-written.new.files n c.in_ok-tree.tree found.0 c.in_ok-tree.ensures.found image found.1.accepted before r gives earlier) cause

pub returns-in_err-machine-clause-refused : goal.returns-in_err-machine-clause-refused
returns-in_err-machine-clause-refused g c =
    let told = g.F.Shelf.told c.args.files.now in
    let faults = g.F.Shelf.faults in
    let n = resumption_from c.args.resumption in
    let found = c.in_ok-fresh.ensures.found in
    let status = c.in_err-machine.field-0.0 in
    let image = rw c.tree_file.ensures.same at found.2 in
    let before = faults c.image_file.new.files n.checkpoint in
    let cause = rw (c.image_file.ensures.same, c.tree_file.ensures.same) at c.in_err-machine.ensures.cause in
    let of_start = subst (λ (m : MachineValue). CheckpointCause m (told n.checkpoint) before (faults c.resumed_file.new.files n.checkpoint) status) (ap (λ (s : MachineState). s.machine) found.1.machine) cause in
    let earlier : faults c.args.files.now n.checkpoint ≤ before = omega (arith, c.tree_file.ensures.later n.checkpoint, c.image_file.ensures.later n.checkpoint) in
    let is : c.from_residual-in_err-machine.result ≡ Err status = search rules in
    rw is (checkpoint_refused g.F.Shelf.told faults c.args.files.now c.resumed_file.new.files n c.in_ok-tree.tree found.0 c.in_ok-tree.ensures.found image found.1.accepted before earlier status of_start)
