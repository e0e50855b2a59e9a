use Rattle.rv_decode.proofs.Decoded.{one_word}
use Rattle.rv_decode.proofs.one_word.Goals as goal

pub returns : goal.returns
returns c = one_word
