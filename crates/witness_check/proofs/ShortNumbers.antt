-- Up to nine digits are a number that isn't too large.
use Rattle.std.proofs.Common.{◌≡◌, ℕ, zero, suc, ◌+◌, ◌-◌, ◌*◌, ◌<◌, ◌≤◌, Bool, true, false, not, cond, ◌&&◌, nat_eq, List, [], ◌∷◌, length, take, get_or, Some, None, Ok, Err, refl, sym, ap, ◌∙◌, arith}
use Rattle.std.specs.Prelude.{◌||◌, is_some, nat_le, nat_lt, position}
use Rattle.std.proofs.lemmas.Grind.{common_steps}
use Rattle.std.proofs.lemmas.Bool.Decides.{nat_tests}
use Rattle.std.proofs.lemmas.List.Sums.{prefix_len-le-length}
use Rattle.std.specs.List.{list_all, position_or_len}
use Rattle.std.proofs.lemmas.Bool.{eqb-false, eqb-true, le-leb, leb-true}
use Rattle.witness_check.specs.DdmText.Numbers.{is_digit, number_of, number_stop, stop_after_zero, unless_stopped, at_most, value_from, value_of}
use Rattle.witness_check.specs.DdmText.declared.reading.NumberRefusal.TheVariants.{TooLarge}
use Rattle.text_model.specs.Schedule.{pieces_at, place_in}
use Rattle.text_model.proofs.Pieces.{both, Lacks-AreDigits}
use Rattle.text_model.specs.Lines.{Lacks}
use Rattle.std.specs.Result.{result_ok}
use Rattle.witness_check.proofs.FirstPlaces.{nowhere}
use Rattle.witness_check.proofs.Numbers.{at_end, at_stop, rest_of}
use Rattle.std.proofs.lemmas.List.{get_or-take, length-take-le}

abbrev AreDigits : List ℕ → Type 0
AreDigits text = list_all is_digit text ≡ true

-- ---- where they stop

all_digits : (text : List ℕ) → AreDigits text → position_or_len (λ byte. not (is_digit byte)) text ≡ length text
all_digits [] digits = refl
all_digits (byte ∷ text) digits =
    let parts = both (is_digit byte) (list_all is_digit text) digits in
    let rest = all_digits text parts.1 in
    let same : 1 + position_or_len (λ byte. not (is_digit byte)) text ≡ suc (length text) = omega arith in
    ap (λ d. cond (not (not d)) (1 + position_or_len (λ byte. not (is_digit byte)) text) 0) parts.0 ∙ same

goes_on : (text : List ℕ) → AreDigits text → 0 < length text → (get_or text 0 0 ≡ 48 → length text ≡ 1) → number_stop text ≡ None
unfolding number_stop
goes_on [] digits some alone = absurd (omega arith)
goes_on (byte ∷ text) digits some alone = by (nat_eq byte 48) refl text digits alone where
  by : (d : Bool) → nat_eq byte 48 ≡ d → (text : List ℕ) → AreDigits (byte ∷ text) → (byte ≡ 48 → suc (length text) ≡ 1) → cond d (stop_after_zero text) (position (λ b. not (is_digit b)) (byte ∷ text)) ≡ None
  by true is [] digits alone = refl
  by true is (next ∷ text) digits alone = let one = alone (eqb-true byte 48 is) in absurd (omega arith)
  by false is text digits alone = nowhere (λ b. not (is_digit b)) (byte ∷ text) (all_digits (byte ∷ text) digits)

-- ---- their value

-- ten times as much, so often
abbrev tens : ℕ → ℕ → ℕ
tens zero m = m
tens (suc k) m = tens k (10 * m)

grows : (k m : ℕ) → m ≤ tens k m
grows zero m = omega arith
grows (suc k) m = omega (arith, grows k (10 * m))

below : (k : ℕ) (text : List ℕ) (n m : ℕ) → AreDigits text → length text ≤ k → n < m → value_from n text < tens k m
below k [] n m digits few less = omega (arith, grows k m)
below zero (byte ∷ text) n m digits few less = absurd (omega arith)
below (suc k) (byte ∷ text) n m digits few less =
    let parts = both (is_digit byte) (list_all is_digit text) digits in
    let range = both (nat_le 48 byte) (nat_le byte 57) parts.0 in
    let most : byte ≤ 57 = leb-true byte 57 range.1 in
    below k text (n * 10 + (byte - 48)) (10 * m) parts.1 (omega arith) (omega arith)

pub short_number : (text : List ℕ) → AreDigits text → 0 < length text → length text ≤ 9 → (get_or text 0 0 ≡ 48 → length text ≡ 1) → is_some (place_in text) ≡ true
unfolding number_of
short_number text digits some few alone =
    let least : value_of text < 1000000000 = below 9 text 0 1 digits few (omega arith) in
    ap (λ o. is_some (result_ok (unless_stopped o (at_most 4294967295 (value_of text))))) (goes_on text digits some alone)
    ∙ ap (λ d. is_some (result_ok (cond d (Ok (value_of text)) (Err TooLarge)))) (le-leb (value_of text) 4294967295 (omega arith))

pub short_front : (end : ℕ) (text : List ℕ) → AreDigits (take end text) → end ≤ length text → 0 < end → end ≤ 9 → (get_or text 0 0 ≡ 48 → end ≡ 1) → is_some (place_in (take end text)) ≡ true
short_front end text digits inside some few alone =
    let size = length-take-le end text inside in
    short_number (take end text) digits (omega arith) (omega arith)
    (λ e. size ∙ alone (sym (get_or-take end text 0 0 some) ∙ e))

-- ---- where the digits in front end

abbrev is_other : ℕ → Bool
is_other byte = not (is_digit byte)

pub front_length : (text : List ℕ) → None ≡ position is_other text → length text ≡ position_or_len is_other text
front_length text none =
    let past : length text ≤ position_or_len is_other text = grind (arith, common_steps) in
    omega (arith, past, prefix_len-le-length (λ byte. not (is_other byte)) text)

pub front_place : (text : List ℕ) (place : ℕ) → Some place ≡ position is_other text → place ≡ position_or_len is_other text
front_place text place found = by (nat_lt (position_or_len is_other text) (length text)) found where
  by : (d : Bool) → Some place ≡ cond d (Some (position_or_len is_other text)) None → place ≡ position_or_len is_other text
  by true found = cc found
  by false found = absurd (cc found)

pub front_inside : (text : List ℕ) (end : ℕ) → end ≡ position_or_len is_other text → end ≤ length text
front_inside text end is = omega (arith, is, prefix_len-le-length (λ byte. not (is_other byte)) text)

front_digits : (text : List ℕ) → AreDigits (take (position_or_len is_other text) text)
front_digits [] = refl
front_digits (byte ∷ text) = by (is_digit byte) refl (front_digits text) where
  by : (d : Bool) → is_digit byte ≡ d → AreDigits (take (position_or_len is_other text) text) → AreDigits (take (cond (not (not d)) (1 + position_or_len is_other text) 0) (byte ∷ text))
  by true is rest =
      let one_more : 1 + position_or_len is_other text ≡ suc (position_or_len is_other text) = omega arith in
      ap (λ (n : ℕ). list_all is_digit (take n (byte ∷ text))) one_more ∙ ap (λ b. b && list_all is_digit (take (position_or_len is_other text) text)) is ∙ rest
  by false is rest = refl

short_by : (text : List ℕ) (end : ℕ) → (nat_eq end 1 || nat_le 2 end && nat_le end 9 && not (nat_eq (get_or text 0 0) 48)) ≡ true → (0 < end) × (end ≤ 9) × (get_or text 0 0 ≡ 48 → end ≡ 1)
short_by text end short = (grind (arith, nat_tests), grind (arith, nat_tests), λ e. grind (arith, nat_tests))

stopped : (text : List ℕ) (end : ℕ) → end ≤ length text → Lacks 46 (take end text) → (nat_eq end (length text) || nat_eq (get_or text end 0) 46) ≡ true → pieces_at 46 text ≡ take end text ∷ rest_of end text
stopped text end inside lacks stop = by (nat_eq end (length text)) refl stop where
  by : (d : Bool) → nat_eq end (length text) ≡ d → (d || nat_eq (get_or text end 0) 46) ≡ true → pieces_at 46 text ≡ take end text ∷ rest_of end text
  by true ends stop = at_end end text lacks (eqb-true end (length text) ends)
  by false goes stop =
      let other : (end ≡ length text → ⊥) = eqb-false end (length text) goes in
      at_stop end text lacks (omega (arith, inside, other)) (eqb-true (get_or text end 0) 46 stop)

pub short_end : (text : List ℕ) (end : ℕ) → end ≡ position_or_len is_other text
    → (nat_eq end 1 || nat_le 2 end && nat_le end 9 && not (nat_eq (get_or text 0 0) 48)) ≡ true → (nat_eq end (length text) || nat_eq (get_or text end 0) 46) ≡ true
    → (end ≤ length text) × (is_some (place_in (take end text)) ≡ true) × (pieces_at 46 text ≡ take end text ∷ rest_of end text)
short_end text end is short stop =
    let inside = front_inside text end is in
    let digits : AreDigits (take end text) = ap (λ (n : ℕ). list_all is_digit (take n text)) is ∙ front_digits text in
    let facts = short_by text end short in
    (inside, short_front end text digits inside facts.0 facts.1 facts.2, stopped text end inside (Lacks-AreDigits 46 (take end text) refl digits) stop)

pub one_digit : (word : List ℕ) → length word ≡ 1 → is_digit (get_or word 0 0) ≡ true → Some (get_or word 0 0 - 48) ≡ place_in word
unfolding number_of
one_digit [] one digit = absurd (omega arith)
one_digit (byte ∷ next ∷ more) one digit = absurd (omega arith)
one_digit (byte ∷ []) one digit =
    let range = both (nat_le 48 byte) (nat_le byte 57) digit in
    let most : byte ≤ 57 = leb-true byte 57 range.1 in
    let value : 0 * 10 + (byte - 48) ≡ byte - 48 = omega arith in
    sym (ap (λ o. result_ok (unless_stopped o (at_most 4294967295 (value_of (byte ∷ []))))) (goes_on (byte ∷ []) (ap (λ b. b && true) digit) (omega arith) (λ e. refl))
    ∙ ap (λ d. result_ok (cond d (Ok (value_of (byte ∷ []))) (Err TooLarge))) (le-leb (value_of (byte ∷ [])) 4294967295 (omega arith))
    ∙ ap (λ (n : ℕ). Some n) value)
