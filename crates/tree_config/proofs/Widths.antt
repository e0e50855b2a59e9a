-- The widths of the buses of the levels that a loop hasn't reached.
use Rattle.std.proofs.Common.{ℕ, zero, suc, ◌∙◌, ap, sym, zero-add, vec_len, ◌≡◌, ◌+◌, ◌-◌, ◌<◌, ◌≤◌, List, [], ◌∷◌, ◌++◌, length, length-append, get_or, drop, Vec, Global, Some, refl, arith}
use Rattle.std.specs.Prelude.{slice_get}
use Rattle.std.proofs.lemmas.List.{drop_more, drop_all}
use Rattle.tree_config.specs.Lists.{lists_of}
use Rattle.tree_config.specs.Levels.{widths_of}

abbrev pub widths_from : List (Vec ℕ Global) → ℕ → List ℕ
widths_from levels i = widths_of (lists_of (drop i levels))

-- a level's widths, and those after them
pub widths_from-more : (levels : List (Vec ℕ Global)) (i : ℕ) (d : Vec ℕ Global) → i < length levels → widths_from levels i ≡ (get_or levels i d).items ++ widths_from levels (i + 1)
widths_from-more levels i d h = rw (drop_more levels i d h)

-- an element of one of two lists
pub slice_get-append_within : (xs ys : List ℕ) (i d : ℕ) → i < length xs → slice_get (xs ++ ys) i ≡ Some (get_or xs i d)
slice_get-append_within [] ys i d h = absurd (omega (arith, h))
slice_get-append_within (x ∷ xs) ys zero d h = refl
slice_get-append_within (x ∷ xs) ys (suc i) d h = slice_get-append_within xs ys i d (omega (arith, h))

pub slice_get-append_past : (xs ys : List ℕ) (i n : ℕ) → i ≡ length xs + n → slice_get (xs ++ ys) i ≡ slice_get ys n
slice_get-append_past [] ys i n h = ap (slice_get ys) (h ∙ zero-add n)
slice_get-append_past (x ∷ xs) ys zero n h = absurd (omega (arith, h))
slice_get-append_past (x ∷ xs) ys (suc i) n h = slice_get-append_past xs ys i n (omega (arith, h))

module _ (levels : List (Vec ℕ Global)) (i : ℕ) (level : Vec ℕ Global) (within : i < length levels) (is : level ≡ get_or levels i level) where
  pub widths_from-level : widths_from levels i ≡ level.items ++ widths_from levels (i + 1)
  widths_from-level = widths_from-more levels i level within ∙ ap (λ (v : Vec ℕ Global). v.items ++ widths_from levels (i + 1)) (sym is)

  pub width_found : (index w : ℕ) → index < vec_len level → w ≡ get_or level.items index w → slice_get (widths_from levels i) index ≡ Some w
  width_found index w inside here =
      let few : index < length level.items = omega (arith, inside, level.ok.0) in
      ap (λ ws. slice_get ws index) widths_from-level ∙ slice_get-append_within level.items _ index w few ∙ ap Some (sym here)

  pub width_past : (index : ℕ) → vec_len level ≤ index → slice_get (widths_from levels i) index ≡ slice_get (widths_from levels (i + 1)) (index - vec_len level)
  width_past index past =
      let same : index ≡ length level.items + (index - vec_len level) = omega (arith, past, level.ok.0) in
      ap (λ ws. slice_get ws index) widths_from-level ∙ slice_get-append_past level.items _ index (index - vec_len level) same

  pub level_counted : length (widths_from levels i) ≡ vec_len level + length (widths_from levels (i + 1))
  level_counted =
      let all : length (level.items ++ widths_from levels (i + 1)) ≡ length level.items + length (widths_from levels (i + 1)) = length-append level.items _ in
      ap length widths_from-level ∙ omega (arith, all, level.ok.0)

-- behind the last level there is none
pub widths_from-end : (levels : List (Vec ℕ Global)) (i : ℕ) → length levels ≤ i → widths_from levels i ≡ []
widths_from-end levels i past = rw (drop_all i levels past)
