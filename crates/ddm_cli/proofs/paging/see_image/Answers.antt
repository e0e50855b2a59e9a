use Rattle.std.proofs.Common.{◌<◌, ◌≤◌, List, length, subst, ap, ◌∙◌, arith}
use Rattle.std.specs.List.{AllByRecursion}
use Rattle.std.proofs.lemmas.List.{take_all}
use Rattle.ddm_cli.specs.TreeModel.Start.Sources.{ImageValue, SegmentValue}
use Rattle.film_runs.specs.ValueLaws.Values.{IsWord}
use Rattle.ddm_cli.proofs.paging.see_image.Goals as goal

pub returns : goal.returns
returns c =
    let segments = c.args.image.now.segments in
    let whole = ap (λ (l : List SegmentValue). length l) (c.deref-segment-items.ensures.value ∙ ap (λ (i : ImageValue). i.segments) c.image.view_is) in
    let past : length segments ≤ c.segments.segment-index = omega (arith, c.segments-test.false, c.segments.auto.segment-index-end, c.deref-segment-items.ensures.len, whole) in
    record {
      entry = subst IsWord (ap (λ (i : ImageValue). i.entry) c.image.view_is) c.see_word.ensures;
      bytes = subst (AllByRecursion (λ (s : SegmentValue). AllByRecursion (λ byte. byte < 256) s.bytes)) (take_all c.segments.segment-index segments past) c.segments.invariant;
    }
