use Rattle.std.proofs.Common.{◌<◌, ◌≤◌, ℕ, All, subst, sym, length, length-set, ◌∙◌, arith}
use Rattle.recording_model.specs.LetBy.{Skew, skew_from}
use Rattle.seed_draws.proofs.Draws.{skew-done, skew-few, skew-more}
use Rattle.seed_draws.proofs.skewing.put_rates.Goals as goal

pub loop-place-preserved : goal.loop-place-preserved
loop-place-preserved c =
    let n = length c.args.rates.now in
    let k = c.loop-place.place in
    let i = c.loop-place.invariant in
    let all : Skew = skew_from n c.args.words.now in
    let inside : k < n = omega (arith, c.loop-place-test.true, i.0) in
    let more = skew-more c.loop-place.rates k n c.next_word.result c.loop-place.words c.next_word.new.self all inside i.0 c.next_word.ensures i.1 i.2 in
    (length-set c.loop-place.rates k _ ∙ i.0, more.0, more.1)

pub returns-clause-rates : goal.returns-clause-rates
returns-clause-rates c =
    let n = length c.args.rates.now in
    let i = c.loop-place.invariant in
    let past : n ≤ c.loop-place.place = omega (arith, c.loop-place-test.false, i.0) in
    (skew-done c.loop-place.rates c.loop-place.place n c.loop-place.words (skew_from n c.args.words.now) past i.0 i.1 i.2).0

pub returns-clause-words : goal.returns-clause-words
returns-clause-words c =
    let n = length c.args.rates.now in
    let i = c.loop-place.invariant in
    let past : n ≤ c.loop-place.place = omega (arith, c.loop-place-test.false, i.0) in
    (skew-done c.loop-place.rates c.loop-place.place n c.loop-place.words (skew_from n c.args.words.now) past i.0 i.1 i.2).1

pub returns-clause-few : goal.returns-clause-few
returns-clause-few c =
    let n = length c.args.rates.now in
    let i = c.loop-place.invariant in
    let past : n ≤ c.loop-place.place = omega (arith, c.loop-place-test.false, i.0) in
    let done = skew-done c.loop-place.rates c.loop-place.place n c.loop-place.words (skew_from n c.args.words.now) past i.0 i.1 i.2 in
    subst (All (λ (r : ℕ). r ≤ 6)) (sym done.0) (skew-few n c.args.words.now)
