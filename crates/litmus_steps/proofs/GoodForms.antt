-- The fences of the tables are 12 bits.
use Rattle.std.proofs.Common.{◌≡◌, ℕ, List, [], ◌∷◌, refl}
use Rattle.std.specs.Prelude.{Bool, true, false, ◌&&◌, bytes_eq, Some, IfSome, if◌then◌else◌}
use Rattle.std.specs.List.{list_all}
use Rattle.litmus_model.specs.declared.test.Form.{Form}
use Rattle.litmus_model.specs.Mnemonics.{Named, fence_rows, jump_rows, meaning_in, plain_rows}
use Rattle.litmus_steps.specs.Made.{is_form}

left : (a b : Bool) → (a && b) ≡ true → a ≡ true
left true b both = refl
left false b both = both

right : (a b : Bool) → (a && b) ≡ true → b ≡ true
right true b both = both
right false true both = refl
right false false both = both

all_forms : (rows : List (Named Form)) (w : List ℕ) → list_all (λ (r : Named Form). is_form r.meaning) rows ≡ true → IfSome (meaning_in rows w) (λ form. is_form form ≡ true)
all_forms [] w all = tt
all_forms (r ∷ rows) w all =
    elim (bytes_eq w r.name) as (λ b. IfSome (if b then Some r.meaning else meaning_in rows w) (λ form. is_form form ≡ true)) [
      | true ↦ left (is_form r.meaning) (list_all (λ (s : Named Form). is_form s.meaning) rows) all
      | false ↦ all_forms rows w (right (is_form r.meaning) (list_all (λ (s : Named Form). is_form s.meaning) rows) all)
    ]

pub plain_forms : (w : List ℕ) → IfSome (meaning_in plain_rows w) (λ form. is_form form ≡ true)
unfolding plain_rows
plain_forms w = all_forms plain_rows w refl

pub jump_forms : (w : List ℕ) → IfSome (meaning_in jump_rows w) (λ form. is_form form ≡ true)
unfolding jump_rows
jump_forms w = all_forms jump_rows w refl

pub fence_forms : (w : List ℕ) → IfSome (meaning_in fence_rows w) (λ form. is_form form ≡ true)
unfolding fence_rows
fence_forms w = all_forms fence_rows w refl
