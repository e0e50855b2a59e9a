use Rattle.std.proofs.Common.{◌≡◌, ◌-◌, ◌<◌, ◌∙◌, length, Some, ap, sum, sym, arith}
use Rattle.std.specs.Prelude.{nat_lt, slice_get}
use Rattle.std.proofs.lemmas.Option.{slice_get_within}
use Rattle.tree_config.proofs.Counts.{leaves_of-last}
use Rattle.tree_config.proofs.shape_reading.has_too_many_leaves.Goals as goal

pub returns-in-Some : goal.returns-in-Some
returns-in-Some c =
    let levels = c.args.levels.now in
    let last : Some c.in-Some.level.now ≡ slice_get levels (length levels - 1) = c.in-Some.ensures.value in
    let within : length levels - 1 < length levels = slice_get_within levels (length levels - 1) c.in-Some.level.now (sym last) in
    let leaves = leaves_of-last levels (length levels - 1) c.in-Some.level.now (omega (arith, within)) last in
    c.is_crowded.ensures ∙ ap (nat_lt 64) (ap sum c.deref.ensures.value ∙ sym leaves)
