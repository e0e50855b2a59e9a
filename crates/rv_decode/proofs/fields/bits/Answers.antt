use Rattle.std.proofs.lemmas.Nat.{and_mask, one_shl}
use Rattle.rv_decode.proofs.fields.bits.Goals as goal

pub returns-clause-value : goal.returns-clause-value
returns-clause-value c = rw (one_shl c.args.count 32 c.requires.count) (and_mask _ _)
