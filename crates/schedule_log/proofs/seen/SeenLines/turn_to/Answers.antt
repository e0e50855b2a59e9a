use Rattle.std.proofs.Common.{◌≡◌, ◌++◌, All, drop, length, take, sym, subst, ap, ◌∙◌}
use Rattle.std.proofs.Math.Seq.{take-append_seam}
use Rattle.schedule_log.specs.Seen.{IsSeenAt}
use Rattle.schedule_log.proofs.seen.SeenLines.turn_to.Goals as goal

pub invariant_of-self : goal.invariant_of-self
invariant_of-self c =
    let places = c.forget.new.places in
    let whole : c.self.inside.places.len ≡ length places = sym c.deref_mut.ensures.len ∙ sym c.forget.auto.places in
    let many : length places ≡ 16384 = c.forget.auto.places ∙ ap length c.deref_mut.ensures.value ∙ c.self.invariant.0 in
    let back : take c.self.inside.places.len (places ++ drop (length places) c.self.inside.places.items) ≡ places = ap (λ n. take n (places ++ drop (length places) c.self.inside.places.items)) whole ∙ take-append_seam places (drop (length places) c.self.inside.places.items) in
    subst (λ xs. (length xs ≡ 16384) × All (IsSeenAt c.new-parts.result) xs) (sym back) (many, c.forget.ensures c.new-parts.result)
