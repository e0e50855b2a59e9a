use Rattle.std.proofs.Common.{take, arith}
use Rattle.std.proofs.lemmas.List.{length-take-le}
use Rattle.witness_check.proofs.FirstPlaces.{first_marked, not_marked}
use Rattle.witness_check.proofs.places.place_in_8.Goals as goal

pub returns-then-marks-eq0 : goal.returns-then-marks-eq0
returns-then-marks-eq0 c =
    not_marked c.args.separator 8 (take 8 c.args.text.now) (length-take-le 8 c.args.text.now c.requires) (omega arith) c.if-marks-eq0.true

pub returns-else-marks-eq0 : goal.returns-else-marks-eq0
returns-else-marks-eq0 c =
    first_marked c.args.separator 8 (take 8 c.args.text.now) (length-take-le 8 c.args.text.now c.requires) (omega arith) (omega (arith, c.if-marks-eq0.false))
