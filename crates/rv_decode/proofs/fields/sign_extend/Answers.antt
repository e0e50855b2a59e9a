use Rattle.std.proofs.Common.{◌≡◌, ◌^◌, ◌≤◌, ◌*◌, ◌%◌, ◌<◌, arith}
use Rattle.std.proofs.Math.Nat.{pow-le-pow_right}
use Rattle.std.proofs.lemmas.Int.{ints}
use Rattle.std.proofs.lemmas.Nat.{one_shl}
use Rattle.rv_decode.proofs.fields.sign_extend.Goals as goal

pub overflow_sub-result : goal.overflow_sub-result
overflow_sub-result c =
    let small : 2 ^ c.args.count ≤ 2 ^ 21 = pow-le-pow_right (omega arith) c.requires.high in
    let below : c.args.count < 32 = omega arith in
    let plain : 1 * 2 ^ c.args.count % 2 ^ 32 ≡ 2 ^ c.args.count = one_shl c.args.count 32 below in
    rw plain (omega (arith, ints))
