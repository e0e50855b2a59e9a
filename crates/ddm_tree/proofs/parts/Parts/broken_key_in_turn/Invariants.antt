use Rattle.ddm_tree.proofs.KeysRising.{Rising}
use Rattle.ddm_tree.proofs.parts.Parts.broken_key_in_turn.Given as goal

abbrev pub invariant-loop-k : goal.invariant-loop-k
invariant-loop-k g l = Rising l.self l.k l.lasts
