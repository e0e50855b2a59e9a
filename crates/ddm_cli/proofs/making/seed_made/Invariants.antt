use Rattle.std.proofs.Common.{◌≡◌, ◌<◌, ◌++◌, List, length}
use Rattle.std.specs.Prelude.{vec_len}
use Rattle.ddm_cli.specs.DdmTypes.declared.turns.Turn.{Turn}
use Rattle.ddm_cli.specs.AnyMachine.Any.{machine_state}
use Rattle.ddm_cli.specs.TextModel.Run.{no_counts}
use Rattle.ddm_cli.specs.Made.{HasMade}
use Rattle.ddm_words.specs.Kept.{is_summary, is_trace}
use Rattle.ddm_cli.proofs.making.seed_made.Given as goal

-- some turns were made, and the others are left; the block has places
abbrev pub invariant-making : goal.invariant-making
invariant-making l = record {
  made : (turns : List Turn) × (turns ++ l.left.left ≡ l.initial.left.left) × HasMade no_counts (is_trace l.prints) (is_summary l.prints) (machine_state l.initial.machine) (machine_state l.machine) l.made turns;
  places : 0 < vec_len l.block;
}

abbrev pub decreases-making : goal.decreases-making
decreases-making l = length l.left.left
