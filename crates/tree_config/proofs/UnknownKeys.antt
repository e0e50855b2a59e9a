-- The first unknown key of a table is the least one.
use Rattle.std.proofs.Common.{ℕ, ◌≡◌, ◌∙◌, false, cond, List, [], ◌∷◌, Option, Some, None, String, Global, Less, string_bytes, ap, refl, inl, inr}
use Rattle.std.specs.List.{AllByRecursion}
use Rattle.std.specs.List.Sorted.{IsStrictlySortedBy}
use Rattle.std.specs.Map.{keys_of}
use Rattle.std.specs.String.{string_cmp}
use Rattle.std.proofs.lemmas.Bool.{cases_Bool}
use Rattle.toml.specs.View.{members_view}
use Rattle.toml.specs.declared.value.Value.{Value}
use Rattle.tree_config.specs.TreeFile.{is_known, least_unknown, lesser}

-- the first of some keys that isn't known
abbrev pub first_unknown : List (String Global) → Option (List ℕ)
first_unknown [] = None
first_unknown (k ∷ ks) = cond (is_known (string_bytes k)) (first_unknown ks) (Some (string_bytes k))

lesser-first : (k : String Global) (ks : List (String Global)) → AllByRecursion (λ y. string_cmp k y ≡ Less) ks → lesser (string_bytes k) (first_unknown ks) ≡ Some (string_bytes k)
lesser-first k [] h = refl
lesser-first k (y ∷ ys) h =
    elim (cases_Bool (is_known (string_bytes y))) [
      | inl known ↦ rw known (lesser-first k ys h.1)
      | inr unknown ↦ rw (unknown, h.0)
    ]

pub least_unknown-first : (es : List (String Global × Value)) → IsStrictlySortedBy string_cmp (keys_of es) → first_unknown (keys_of es) ≡ least_unknown (members_view es)
unfolding IsStrictlySortedBy
least_unknown-first [] h = refl
least_unknown-first (e ∷ es) h =
    elim (cases_Bool (is_known (string_bytes e.0))) [
      | inl known ↦ rw known (least_unknown-first es h.1)
      | inr unknown ↦ rw (unknown, ← least_unknown-first es h.1, lesser-first e.0 (keys_of es) h.0)
    ]

pub first_unknown-found : (names : List (String Global)) (k : String Global) (ks : List (String Global)) → names ≡ k ∷ ks → is_known (string_bytes k) ≡ false → first_unknown names ≡ Some (string_bytes k)
first_unknown-found names k ks first unknown = ap first_unknown first ∙ rw unknown
