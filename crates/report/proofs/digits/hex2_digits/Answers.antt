use Rattle.std.proofs.Common.{◌*◌, ◌/◌, ◌%◌, false, refl, arith, add-one}
use Rattle.std.specs.Fmt.{digit_glyph}
use Rattle.report.specs.DdmText.Hex.{hex2}
use Rattle.report.proofs.Pairs.{pair_at}
use Rattle.report.proofs.digits.hex2_digits.Goals as goal

pub returns : goal.returns
unfolding hex2
returns c = rw add-one (pair_at (λ n. digit_glyph false (n / 16)) (λ n. digit_glyph false (n % 16)) 256 0 c.args.n (2 * c.args.n) c.args.n refl c.requires (omega arith))
