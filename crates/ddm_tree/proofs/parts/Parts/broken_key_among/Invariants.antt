use Rattle.ddm_tree.proofs.KeysSeen.{Seen}
use Rattle.ddm_tree.proofs.parts.Parts.broken_key_among.Given as goal

abbrev pub invariant-loop-k : goal.invariant-loop-k
invariant-loop-k g l = Seen l.self l.k l.seen
