use Rattle.std.proofs.Common.{◌≤◌}
use Rattle.std.proofs.lemmas.Result.{IfErr-weaker}
use Rattle.ddm_cli.specs.AnyMachine.Any.{machine_state}
use Rattle.ddm_cli.specs.Told.{schedule_faults}
use Rattle.ddm_words.specs.Views.{run_from}
use Rattle.ddm_cli.proofs.Taken.{all_taken, later_faults, ok_besides, ran_refused}
use Rattle.ddm_cli.proofs.top.write_run.Goals as goal

pub returns-clause-written : goal.returns-clause-written
returns-clause-written g c =
    let found = c.in_ok-machine.ensures.found in
    let ran = rw (c.image_machine.ensures.same, c.tree_file.ensures.same) at c.write_ran-written.ensures.ran in
    ok_besides c.write_ran-written.result _ _ _ (λ large w (text, ran, writes). (text, all_taken c.args.prints _ _ _ c.in_ok-tree.tree found.0 (machine_state c.in_ok-machine.machine) text c.in_ok-tree.ensures.found (rw c.tree_file.ensures.same at found.2) c.in_ok-tree.ensures.tree found.1 large ran, writes)) ran c.write_ran-written.ensures.large

pub returns-clause-refused : goal.returns-clause-refused
returns-clause-refused g c =
    let n = run_from c.args.run in
    let before = schedule_faults (g.F.Shelf.faults c.image_machine.new.files) n.turns in
    let cause = rw (c.image_machine.ensures.same, c.tree_file.ensures.same) at c.write_ran-written.ensures.cause in
    let found = c.in_ok-machine.ensures.found in
    let earlier : schedule_faults (g.F.Shelf.faults c.args.files.now) n.turns ≤ before = later_faults n.turns _ _ _ c.tree_file.ensures.later c.image_machine.ensures.later in
    IfErr-weaker c.write_ran-written.result _ _ (ran_refused g.F.Shelf.told g.F.Shelf.faults c.args.files.now c.write_ran-written.new.files c.args.prints n c.in_ok-tree.tree found.0 (machine_state c.in_ok-machine.machine) before c.in_ok-tree.ensures.found (rw c.tree_file.ensures.same at found.2) found.1 earlier) cause
