use Rattle.std.proofs.Common.{◌≡◌, ◌∙◌, ap, subst, ℕ, ◌∷◌, [], length, nat_lt, if◌then◌else◌, arith, length-append}
use Rattle.replacement.specs.Places.{times}
use Rattle.replacement.proofs.Placed.{times_more}
use Rattle.replacement.proofs.arrivals.numbers_below.Goals as goal

pub loop-place-preserved : goal.loop-place-preserved
loop-place-preserved c =
    let before = c.loop-place.numbers.items in
    let count = ap length c.add.ensures.items ∙ length-append before (c.loop-place.place ∷ []) in
    ((λ p. ap (times p) c.add.ensures.items ∙ times_more before c.loop-place.place c.loop-place.invariant.0 p), omega (arith, count, c.loop-place.invariant.1), omega (arith, c.add.ensures.capacity, c.loop-place.invariant.2))

pub returns-clause-once : goal.returns-clause-once
returns-clause-once c =
    let all : c.loop-place.place ≡ c.args.places = omega arith in
    subst (λ n. (p : ℕ) → times p c.loop-place.numbers.items ≡ (if nat_lt p n then 1 else 0)) all c.loop-place.invariant.0
