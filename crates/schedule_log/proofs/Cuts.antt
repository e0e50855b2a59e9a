-- A text cut at the first place of a byte.
use Rattle.std.proofs.Common.{◌≡◌, ℕ, zero, suc, ◌+◌, ◌-◌, ◌<◌, ◌≤◌, Bool, false, not, ◌&&◌, nat_eq, List, [], ◌∷◌, ◌++◌, length, take, drop, get_or, Option, Some, None, Ok, refl, ap, ◌∙◌, arith}
use Rattle.std.specs.Prelude.{position}
use Rattle.std.specs.List.{list_all, position_or_len}
use Rattle.std.proofs.lemmas.Grind.{common_steps}
use Rattle.std.proofs.lemmas.List.Sums.{fails_before_first}
use Rattle.std.proofs.lemmas.Bool.{eqb-true}
use Rattle.std.proofs.lemmas.List.{get_or-take, length-take, length-drop, take_all}
use Rattle.std.proofs.lemmas.List.Quantifiers.{position-Some}
use Rattle.text_model.specs.Schedule.{pieces_at}
use Rattle.schedule_log.specs.DdmText.Numbers.{number_of, number_stop, value_of, at_most, unless_stopped}
use Rattle.std.proofs.lemmas.Bool.Decides.{nat_tests}
use Rattle.text_model.specs.Lines.{Lacks}
use Rattle.text_model.proofs.Pieces.{pieces_at-whole, pieces_at-append}

-- the test for a byte
abbrev pub is_byte : ℕ → ℕ → Bool
is_byte separator byte = nat_eq byte separator

pub lacks_from : (separator : ℕ) (text : List ℕ) → ((k : ℕ) → k < length text → nat_eq (get_or text k 0) separator ≡ false) → Lacks separator text
lacks_from separator [] none = refl
lacks_from separator (byte ∷ text) none =
    ap (λ b. not b && list_all (λ b. not (nat_eq b separator)) text) (none 0 (omega arith))
    ∙ lacks_from separator text (λ k h. none (suc k) (omega arith))

pub split_at : (text : List ℕ) (i : ℕ) → i < length text → text ≡ take i text ++ get_or text i 0 ∷ drop (suc i) text
split_at [] i inside = absurd (omega arith)
split_at (byte ∷ text) zero inside = refl
split_at (byte ∷ text) (suc i) inside = ap (λ more. byte ∷ more) (split_at text i (omega arith))

-- the text is cut here
pub record IsCut (separator : ℕ) (text : List ℕ) (i : ℕ) : Type 0 where
  pub inside : i < length text
  pub here : get_or text i 0 ≡ separator
  pub lacks : Lacks separator (take i text)
  pub is : text ≡ take i text ++ separator ∷ drop (i + 1) text

pub cut_of : (separator : ℕ) (text : List ℕ) (i : ℕ) → position (λ byte. nat_eq byte separator) text ≡ Some i → IsCut separator text i
cut_of separator text i found =
    let facts = position-Some (λ byte. nat_eq byte separator) text i 0 found in
    let one_more : suc i ≡ i + 1 = omega arith in
    record {
      inside = facts.0;
      here = eqb-true (get_or text i 0) separator facts.1;
      lacks = lacks_from separator (take i text) (λ k h. let below : k < i = omega (arith, length-take i text) in ap (λ b. nat_eq b separator) (get_or-take i text k 0 below) ∙ facts.2 k below);
      is = split_at text i facts.0 ∙ ap (λ b. take i text ++ b ∷ drop (suc i) text) (eqb-true (get_or text i 0) separator facts.1) ∙ ap (λ (n : ℕ). take i text ++ separator ∷ drop n text) one_more;
    }

pub uncut_of : (separator : ℕ) (text : List ℕ) → position (λ byte. nat_eq byte separator) text ≡ None → Lacks separator text
uncut_of separator text none =
    let past : length text ≤ position_or_len (λ byte. nat_eq byte separator) text = grind (arith, common_steps) in
    lacks_from separator text (λ k h. fails_before_first (λ byte. nat_eq byte separator) text k 0 (omega arith))

-- ---- words

pub last_word : (text : List ℕ) → position (λ byte. nat_eq byte 32) text ≡ None → pieces_at 32 text ≡ text ∷ []
last_word text none = pieces_at-whole 32 text (uncut_of 32 text none)

pub first_word : (text : List ℕ) (i : ℕ) → position (λ byte. nat_eq byte 32) text ≡ Some i → pieces_at 32 text ≡ take i text ∷ pieces_at 32 (drop (i + 1) text)
first_word text i found =
    let cut = cut_of 32 text i found in
    ap (λ t. pieces_at 32 t) cut.is ∙ pieces_at-append 32 (take i text) (drop (i + 1) text) refl cut.lacks

-- ---- numbers

small_by : (o : Option ℕ) (most v n : ℕ) → unless_stopped o (at_most most v) ≡ Ok n → n ≤ most
small_by None most v n e = grind (arith, nat_tests)
small_by (Some place) most v n e = absurd (cc e)

-- a number isn't above its limit
pub small_number : (bytes : List ℕ) (most n : ℕ) → number_of bytes most ≡ Ok n → n ≤ most
unfolding number_of
small_number bytes most n e = small_by (number_stop bytes) most (value_of bytes) n e

-- ---- slices

-- the bytes from a place on, as a slice has them
pub tail_is : (text : List ℕ) (k : ℕ) → take (length text - k) (drop k text) ≡ drop k text
tail_is text k = take_all (length text - k) (drop k text) (omega (arith, length-drop k text))
