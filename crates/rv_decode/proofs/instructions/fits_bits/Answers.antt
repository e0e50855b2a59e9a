use Rattle.std.proofs.Common.{◌≡◌, ◌^◌, ◌-◌, ◌≤◌, ◌*◌, ◌%◌, refl, arith}
use Rattle.std.proofs.lemmas.Int.{ints}
use Rattle.rv_decode.proofs.Signed.{half_is, half_small, fits_test}
use Rattle.rv_decode.proofs.instructions.fits_bits.Goals as goal

pub overflow_sub-half-2 : goal.overflow_sub-half-2
overflow_sub-half-2 c =
    let small : 2 ^ (c.args.count - 1) ≤ 2 ^ 20 = half_small c.args.count c.requires.high in
    rw (half_is c.args.count c.requires.high) (omega (arith, ints))

pub returns-then-half-number : goal.returns-then-half-number
returns-then-half-number c =
    let plain : 1 * 2 ^ (c.args.count - 1) % 2 ^ 32 ≡ 2 ^ (c.args.count - 1) = half_is c.args.count c.requires.high in
    let low = rw plain at c.if-half-number.true in
    rw plain (fits_test _ c.args.count c.args.number refl (half_small c.args.count c.requires.high) c.ranges.number low)
