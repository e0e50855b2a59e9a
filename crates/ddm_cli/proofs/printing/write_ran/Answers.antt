use Rattle.std.proofs.Common.{◌≡◌, None, ap, rules}
use Rattle.ddm_cli.specs.DdmTypes.ItemTable.{item_count}
use Rattle.ddm_cli.specs.AnyMachine.Any.{machine_state}
use Rattle.ddm_cli.specs.TextModel.Run.{no_counts}
use Rattle.ddm_cli.specs.Lists.{list_refused}
use Rattle.ddm_words.specs.Kept.{is_summary}
use Rattle.ddm_cli.specs.Told.{schedule_told}
use Rattle.ddm_words.specs.Views.{turns_from}
use Rattle.ddm_cli.proofs.LargeLists.{stay_large}
use Rattle.ddm_cli.proofs.RunsInPieces.{made_written, retired_counted, starts_on, unforgotten}
use Rattle.ddm_cli.proofs.StartNames.{start_ops}
use Rattle.ddm_cli.proofs.printing.write_ran.Goals as goal

pub turns_made-requires-clause-start : goal.turns_made-requires-clause-start
turns_made-requires-clause-start g c = starts_on c.args.tree.now c.requires.tree (machine_state c.args.machine.now) c.requires.start

pub write_made-requires-clause-large : goal.write_made-requires-clause-large
write_made-requires-clause-large g c =
    let all = c.in_ok-made.ensures.all in
    let none : list_refused c.args.prints c.args.tree.now.sizes (item_count (machine_state c.args.machine.now).machine.items) ≡ None = search rules in
    λ is.
    let has = unforgotten (is_summary c.args.prints) no_counts _ (machine_state c.args.machine.now) (machine_state c.turns_made.new.machine) c.in_ok-made.made all.turns (ap is_summary is) all.all in
    stay_large c.args.prints c.args.tree.now (machine_state c.args.machine.now) (machine_state c.turns_made.new.machine).machine all.turns c.requires.start has.machine none is

pub write_made-requires-clause-counted : goal.write_made-requires-clause-counted
write_made-requires-clause-counted g c =
    let all = c.in_ok-made.ensures.all in
    λ is. retired_counted _ (machine_state c.args.machine.now) (machine_state c.turns_made.new.machine) c.in_ok-made.made all.turns (start_ops c.args.tree.now (machine_state c.args.machine.now) c.requires.start) (unforgotten (is_summary c.args.prints) no_counts _ (machine_state c.args.machine.now) (machine_state c.turns_made.new.machine) c.in_ok-made.made all.turns is all.all)

pub returns-clause-ran : goal.returns-clause-ran
returns-clause-ran g c =
    let told = schedule_told (g.F.Shelf.told c.args.files.now) (turns_from c.args.turns) in
    let all = c.in_ok-made.ensures.all in
    made_written c.args.prints c.args.tree.now.levels told (machine_state c.args.machine.now) (machine_state c.turns_made.new.machine) c.in_ok-made.made (g.K.Sink.held c.args.out.now) (g.K.Sink.held c.write_made.new.out) c.in_ok-write_made.field-0 all c.in_ok-write_made.ensures.written
