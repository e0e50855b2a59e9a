use Rattle.std.proofs.Common.{◌≡◌, ap, ◌∙◌, rules, FitsSigned, w32}
use Rattle.std.proofs.lemmas.Int.{to_z-of_z}
use Rattle.rv_decode.specs.Table.{decode_of}
use Rattle.rv_decode.specs.Encode.{encode_of}
use Rattle.rv_decode.proofs.Encoded.{encoded}
use Rattle.rv_decode.proofs.encoding.encode.Goals as goal

pub returns-in-Immediate-clause-decoded : goal.returns-in-Immediate-clause-decoded
unfolding encode_of
returns-in-Immediate-clause-decoded c =
    let range : FitsSigned w32 c.in-Immediate.imm = search rules in
    let word : c.immediate_word.result ≡ encode_of c.args.instr.now = rw c.in-Immediate.is (simp to_z-of_z at c.immediate_word.ensures) in
    ap decode_of word ∙ encoded c.args.instr.now c.requires
