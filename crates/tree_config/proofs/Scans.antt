-- One byte more of a scan over the text of a shape.
use Rattle.std.proofs.Common.{ℕ, ◌≡◌, ◌+◌, ◌<◌, ◌≤◌, ◌∙◌, cond, Bool, true, false, List, [], ◌∷◌, ◌++◌, length, get_or, drop, Some, None, ◌&&◌, ◌||◌, ap, sym, append_assoc, append-nil, inl, inr, refl}
use Rattle.std.specs.Option.{option_map_or}
use Rattle.std.specs.Prelude.{nat_eq}
use Rattle.std.specs.List.{list_any}
use Rattle.std.proofs.lemmas.List.{drop_more, drop_all}
use Rattle.std.proofs.lemmas.Bool.{cases_Bool}
use Rattle.tree_config.specs.declared.shape_text.Progress.{Progress}
use Rattle.tree_config.specs.declared.shape_text.Progress.TheVariants as progress
use Rattle.tree_config.specs.ShapeText.{leaf_byte}
use Rattle.tree_config.specs.ShapeScan.{count_after, depth_after, depths_in, ends_group, is_whole, place_from, progress_after, widths_in, with_if}

pub place_from-more : (p : Progress) (at : ℕ) (text : List ℕ) (d : ℕ) → at < length text → place_from p at (drop at text) ≡ option_map_or (λ next. place_from next (at + 1) (drop (at + 1) text)) (progress_after p (get_or text at d)) (Some at)
unfolding place_from
place_from-more p at text d h = rw (drop_more text at d h)

pub depths_in-more : (depth i : ℕ) (text : List ℕ) (d : ℕ) → i < length text
    → depths_in depth (drop i text) ≡ with_if (nat_eq (get_or text i d) leaf_byte) depth (depths_in (depth_after depth (get_or text i d)) (drop (i + 1) text))
unfolding depths_in
depths_in-more depth i text d h = rw (drop_more text i d h)

pub widths_in-more : (level depth count i : ℕ) (text : List ℕ) (d : ℕ) → i < length text
    → widths_in level depth count (drop i text) ≡ with_if (ends_group level depth (get_or text i d)) count (widths_in level (depth_after depth (get_or text i d)) (count_after level depth count (get_or text i d)) (drop (i + 1) text))
unfolding widths_in
widths_in-more level depth count i text d h = rw (drop_more text i d h)

pub is_whole-not : (p : Progress) → (p ≡ progress.Whole → ⊥) → is_whole p ≡ false
is_whole-not progress.Nothing h = refl
is_whole-not (progress.Open outer empty) h = refl
is_whole-not progress.Whole h = absurd (h refl)

module _ (p : Progress) (at : ℕ) (text : List ℕ) where
  pub place_from-stops : at < length text → progress_after p (get_or text at 0) ≡ None → place_from p at (drop at text) ≡ Some at
  place_from-stops within none = place_from-more p at text 0 within ∙ rw none

  pub place_from-goes_on : (next : Progress) → at < length text → progress_after p (get_or text at 0) ≡ Some next → place_from p at (drop at text) ≡ place_from next (at + 1) (drop (at + 1) text)
  place_from-goes_on next within some = place_from-more p at text 0 within ∙ rw some

  pub place_from-ends : length text ≤ at → place_from p at (drop at text) ≡ cond (is_whole p) None (Some at)
  unfolding place_from
  place_from-ends past = rw (drop_all at text past)

module _ (depth i : ℕ) (text : List ℕ) where
  pub depths_in-leaf : i < length text → nat_eq (get_or text i 0) leaf_byte ≡ true → depths_in depth (drop i text) ≡ depth ∷ depths_in (depth_after depth (get_or text i 0)) (drop (i + 1) text)
  depths_in-leaf within leaf = depths_in-more depth i text 0 within ∙ rw leaf

  pub depths_in-other : i < length text → nat_eq (get_or text i 0) leaf_byte ≡ false → depths_in depth (drop i text) ≡ depths_in (depth_after depth (get_or text i 0)) (drop (i + 1) text)
  depths_in-other within other = depths_in-more depth i text 0 within ∙ rw other

  pub depths_in-ends : length text ≤ i → depths_in depth (drop i text) ≡ []
  unfolding depths_in
  depths_in-ends past = rw (drop_all i text past)

-- a test of each leaf's depth
pub any_depth-more : (test : ℕ → Bool) (depth i : ℕ) (text : List ℕ) → i < length text
    → list_any test (depths_in depth (drop i text)) ≡ ((nat_eq (get_or text i 0) leaf_byte && test depth) || list_any test (depths_in (depth_after depth (get_or text i 0)) (drop (i + 1) text)))
any_depth-more test depth i text within =
    elim (cases_Bool (nat_eq (get_or text i 0) leaf_byte)) [
      | inl leaf ↦ ap (list_any test) (depths_in-leaf depth i text within leaf) ∙ rw leaf
      | inr other ↦ ap (list_any test) (depths_in-other depth i text within other) ∙ rw other
    ]

pub with_if-append : (b : Bool) (n : ℕ) (ns : List ℕ) → with_if b n [] ++ ns ≡ with_if b n ns
with_if-append true n ns = refl
with_if-append false n ns = refl

module _ (level depth count i : ℕ) (text old : List ℕ) where
  pub widths_in-step : (depth' count' : ℕ) (new : List ℕ) (e : Bool) → i < length text → e ≡ ends_group level depth (get_or text i 0) → new ≡ old ++ with_if e count []
      → depth' ≡ depth_after depth (get_or text i 0) → count' ≡ count_after level depth count (get_or text i 0)
      → new ++ widths_in level depth' count' (drop (i + 1) text) ≡ old ++ widths_in level depth count (drop i text)
  widths_in-step depth' count' new e within ends added deeper counted =
      let rest = widths_in level depth' count' (drop (i + 1) text) in
      rw added (append_assoc old (with_if e count []) rest
      ∙ ap (λ ns. old ++ ns) (with_if-append e count rest ∙ rw (ends, deeper, counted) (sym (widths_in-more level depth count i text 0 within))))

  pub widths_in-ends : length text ≤ i → old ++ widths_in level depth count (drop i text) ≡ old
  unfolding widths_in
  widths_in-ends past = rw (drop_all i text past) (append-nil old)
