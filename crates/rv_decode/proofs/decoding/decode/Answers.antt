use Rattle.rv_decode.proofs.Decoded.{decoded_valid}
use Rattle.rv_decode.proofs.decoding.decode.Goals as goal

pub returns-clause-valid : goal.returns-clause-valid
returns-clause-valid c = decoded_valid c.args.word c.ranges.word.fits _ c.decode_opcode.ensures
