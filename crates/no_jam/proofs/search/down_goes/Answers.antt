use Rattle.std.proofs.Common.{refl, arith, length, ◌∙◌}
use Rattle.no_jam.specs.TreeModel.State.Values.{root_of}
use Rattle.no_jam.specs.TreeModel.State.Place.{at_top}
use Rattle.no_jam.specs.TreeModel.Turns.Tree.{bus_of_number, of_dir}
use Rattle.no_jam.proofs.TreeModel.NamedNode.{read_in-is_some}
use Rattle.any_machine.specs.Any.{machine_state}
use Rattle.no_jam.proofs.search.down_goes.Goals as goal

pub would_grant-requires : goal.would_grant-requires
would_grant-requires c = record { kind = refl; named = read_in-is_some (bus_of_number c.args.bus) (of_dir (λ w d ns. length ns) 0) at_top (root_of (machine_state c.args.machine.now).machine) ∙ c.requires }
