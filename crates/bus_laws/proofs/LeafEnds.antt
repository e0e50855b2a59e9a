-- What stands where after an entry ended.
use Rattle.std.proofs.Common.{◌≡◌, ◌≢◌, ℕ, Bool, true, false, List, [], ◌∷◌, Option, Some, None, refl, sym, subst, ◌∙◌, inl, inr}
use Rattle.std.specs.Prelude.{not, filter, find, slice_set}
use Rattle.std.proofs.lemmas.Bool.{eqb-true}
use Rattle.std.proofs.lemmas.Bool.Decides.{eqb_tells}
use Rattle.std.proofs.lemmas.List.{length-set}
use Rattle.std.proofs.lemmas.List.Elements.{All-filter, All-weaker}
use Rattle.bus_laws.specs.TreeModel.State.Values.{WayValue, BufferValue, LeafSizes}
use Rattle.bus_laws.specs.TreeModel.State.Leaf.{way_at, buffer_item, is_buffered, entry_at, ends, ways_after, buffer_after}
use Rattle.bus_laws.proofs.Lists.{distinct-filter}
use Rattle.bus_laws.proofs.HartFacts.{StandsAside, HasEntries}
use Rattle.bus_laws.proofs.HartChanges.{way-set_other, way-set_none}

gone-step : (x : ℕ) (e : BufferValue) (es : List BufferValue) (b : Bool) → is_buffered x e ≡ b → find (is_buffered x) (filter (λ e. not (is_buffered x e)) es) ≡ None → find (is_buffered x) (filter (λ e. not (is_buffered x e)) (e ∷ es)) ≡ None
gone-step x e es true is rest = rw is rest
gone-step x e es false is rest = rw is (rw is rest)

buffered-gone : (x : ℕ) (es : List BufferValue) → find (is_buffered x) (filter (λ e. not (is_buffered x e)) es) ≡ None
buffered-gone x [] = refl
buffered-gone x (e ∷ es) = gone-step x e es (is_buffered x e) refl (buffered-gone x es)

left-step : (x y : ℕ) (e : BufferValue) (es : List BufferValue) (b c : Bool) → is_buffered x e ≡ b → is_buffered y e ≡ c → y ≢ x → find (is_buffered y) (filter (λ e. not (is_buffered x e)) es) ≡ find (is_buffered y) es → find (is_buffered y) (filter (λ e. not (is_buffered x e)) (e ∷ es)) ≡ find (is_buffered y) (e ∷ es)
left-step x y e es true true is also other rest = absurd (other (eqb-true y e.item also ∙ sym (eqb-true x e.item is)))
left-step x y e es true false is also other rest = rw (is, also) rest
left-step x y e es false true is also other rest = rw is (rw also refl)
left-step x y e es false false is also other rest = rw is (rw also rest)

buffered-left : (x y : ℕ) (es : List BufferValue) → y ≢ x → find (is_buffered y) (filter (λ e. not (is_buffered x e)) es) ≡ find (is_buffered y) es
buffered-left x y [] other = refl
buffered-left x y (e ∷ es) other = left-step x y e es (is_buffered x e) (is_buffered y e) refl refl other (buffered-left x y es other)

module _ (x : ℕ) (ways : List (Option WayValue)) (buffer : List BufferValue) where
  pub entry-ends : entry_at x (ways_after x ends ways) (buffer_after x ends ways buffer) ≡ None
  unfolding entry_at
  entry-ends = rw (way-set_none ways x, buffered-gone x buffer) refl

  pub entry-ends_other : (y : ℕ) → y ≢ x → entry_at y (ways_after x ends ways) (buffer_after x ends ways buffer) ≡ entry_at y ways buffer
  unfolding entry_at
  entry-ends_other y other = rw (way-set_other ways x y None other, buffered-left x y buffer other) refl

  way-left : (y : ℕ) (f : WayValue) → way_at y (slice_set ways x None) ≡ Some f → way_at y ways ≡ Some f
  way-left y f is =
      elim (eqb_tells y x) as (λ _. way_at y ways ≡ Some f) [
        | inl same ↦
            let none : way_at y (slice_set ways x None) ≡ None = subst (λ k. way_at k (slice_set ways x None) ≡ None) (sym same.1) (way-set_none ways x) in
            cc
        | inr other ↦ sym (way-set_other ways x y None other.1) ∙ is
      ]

  free-left : (y : ℕ) → way_at y ways ≡ None → way_at y (slice_set ways x None) ≡ None
  free-left y none =
      elim (eqb_tells y x) as (λ _. way_at y (slice_set ways x None) ≡ None) [
        | inl same ↦ subst (λ k. way_at k (slice_set ways x None) ≡ None) (sym same.1) (way-set_none ways x)
        | inr other ↦ way-set_other ways x y None other.1 ∙ none
      ]

  pub entries-end : (n : ℕ) (sizes : LeafSizes) → HasEntries n sizes ways buffer → HasEntries n sizes (ways_after x ends ways) (buffer_after x ends ways buffer)
  entries-end n sizes has = record {
    count = length-set ways x None ∙ has.count;
    fits = λ y f is. has.fits y f (way-left y f is);
    alone = λ y z f g at_y at_z set there. has.alone y z f g (way-left y f at_y) (way-left z g at_z) set there;
    aside = All-filter (λ e. not (is_buffered x e)) (StandsAside n (slice_set ways x None)) buffer (All-weaker (StandsAside n ways) (StandsAside n (slice_set ways x None)) (λ e a. record { known = a.known; alone = free-left e.item a.alone; words = a.words }) buffer has.aside);
    once = distinct-filter buffer_item (λ e. not (is_buffered x e)) buffer has.once;
  }
