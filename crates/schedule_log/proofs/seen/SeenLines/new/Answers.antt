use Rattle.std.proofs.Common.{◌≡◌, ◌++◌, All, drop, length, take, sym, subst, ap, ◌∙◌}
use Rattle.std.proofs.Math.Seq.{take-append_seam}
use Rattle.schedule_log.specs.Seen.{IsSeenAt}
use Rattle.schedule_log.proofs.seen.SeenLines.new.Goals as goal

pub invariant_of-result : goal.invariant_of-result
invariant_of-result c =
    let places = c.forget.new.places in
    let whole : c.in_ok-places.places.len ≡ length places = sym c.deref_mut.ensures.len ∙ sym c.forget.auto.places in
    let many : length places ≡ 16384 = c.forget.auto.places ∙ c.deref_mut.ensures.len ∙ c.in_ok-places.ensures.len in
    let back : take c.in_ok-places.places.len (places ++ drop (length places) c.in_ok-places.places.items) ≡ places = ap (λ n. take n (places ++ drop (length places) c.in_ok-places.places.items)) whole ∙ take-append_seam places (drop (length places) c.in_ok-places.places.items) in
    subst (λ xs. (length xs ≡ 16384) × All (IsSeenAt c.none.result) xs) (sym back) (many, c.forget.ensures c.none.result)
