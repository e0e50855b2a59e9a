use Rattle.std.proofs.Common.{◌≡◌, ◌+◌, ◌*◌, ◌^◌, ◌<◌, arith, rules, FitsSigned, w32}
use Rattle.std.proofs.lemmas.Int.{to_z-of_z}
use Rattle.rv_decode.specs.Encode.{bits_of, immediate_funct7}
use Rattle.rv_decode.proofs.Encoded.{operation_below, operation_number}
use Rattle.rv_decode.proofs.encoding.immediate_word.Goals as goal

pub overflow_add-number : goal.overflow_add-number
overflow_add-number c =
    let range : FitsSigned w32 c.args.imm = c.ranges.imm in
    let bits : c.bits_of.result ≡ bits_of 12 c.args.imm = simp to_z-of_z at c.bits_of.ensures.value in
    let below : immediate_funct7 c.args.op * 2 ^ 5 + bits_of 12 c.args.imm < 4096 = operation_below c.args.op c.args.imm c.requires.imm in
    rw (operation_number c.args.op c.args.imm _ _ c.immediate_funct7.ensures.value bits c.requires.imm) (search (rules, below, arith))

pub i_word-requires-clause-imm : goal.i_word-requires-clause-imm
i_word-requires-clause-imm c =
    let range : FitsSigned w32 c.args.imm = c.ranges.imm in
    let bits : c.bits_of.result ≡ bits_of 12 c.args.imm = simp to_z-of_z at c.bits_of.ensures.value in
    rw (operation_number c.args.op c.args.imm _ _ c.immediate_funct7.ensures.value bits c.requires.imm) (operation_below c.args.op c.args.imm c.requires.imm)

pub returns : goal.returns
returns c =
    let range : FitsSigned w32 c.args.imm = c.ranges.imm in
    let bits : c.bits_of.result ≡ bits_of 12 c.args.imm = simp to_z-of_z at c.bits_of.ensures.value in
    let number = operation_number c.args.op c.args.imm _ _ c.immediate_funct7.ensures.value bits c.requires.imm in
    rw (← number, ← c.immediate_funct3.ensures.value) c.i_word.ensures
