use Rattle.std.proofs.Common.{refl}
use Rattle.rv_decode.proofs.Signed.{half_of, all_is, all_small, raised_fits, raised_is, cast_fits, cast_is, bits_of_small}
use Rattle.rv_decode.specs.Encode.{bits_of}
use Rattle.rv_decode.proofs.encoding.bits_of.Goals as goal

pub overflow_add-result : goal.overflow_add-result
overflow_add-result c =
    rw (all_is c.args.count c.requires.high)
    (raised_fits _ c.args.count c.args.number refl (half_of c.args.count c.requires.low) (all_small c.args.count c.requires.high) c.requires.fits c.if-number-lt0.true)

pub overflow_cast-result-then-number-lt0 : goal.overflow_cast-result-then-number-lt0
overflow_cast-result-then-number-lt0 c =
    rw (all_is c.args.count c.requires.high)
    (cast_fits _ (bits_of c.args.count c.args.number)
    (raised_is _ c.args.count c.args.number refl (half_of c.args.count c.requires.low) (all_small c.args.count c.requires.high) c.requires.fits c.if-number-lt0.true c.ranges.number)
    (bits_of_small c.args.count c.args.number c.requires.low c.requires.high c.requires.fits))

pub returns-then-number-lt0-clause-value : goal.returns-then-number-lt0-clause-value
returns-then-number-lt0-clause-value c =
    rw (all_is c.args.count c.requires.high)
    (cast_is _ (bits_of c.args.count c.args.number)
    (raised_is _ c.args.count c.args.number refl (half_of c.args.count c.requires.low) (all_small c.args.count c.requires.high) c.requires.fits c.if-number-lt0.true c.ranges.number)
    (bits_of_small c.args.count c.args.number c.requires.low c.requires.high c.requires.fits))
