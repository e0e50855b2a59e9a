-- The first place of a byte, looked for in a text's first bytes and then in the others.
use Rattle.std.proofs.Common.{◌≡◌, ℕ, suc, ◌+◌, ◌-◌, ◌*◌, ◌<◌, ◌≤◌, ◌%◌, ◌^◌, Bool, true, false, not, cond, nat_eq, List, [], ◌∷◌, length, map, replicate, take, drop, get_or, Option, Some, None, refl, sym, ap, ◌∙◌, arith, w8, ⊎_elim}
use Rattle.std.specs.Prelude.{option_map, position}
use Rattle.std.specs.List.{position_or_len}
use Rattle.std.specs.Simd.Lanes.{mask_l, zip2, top}
use Rattle.std.proofs.lemmas.Grind.{common_steps}
use Rattle.std.proofs.lemmas.Bool.{lt-ltb, le-ltb, cases_lt}
use Rattle.std.proofs.lemmas.List.{get_or-take, get_or-drop, length-drop, length-take-le, drop-drop}
use Rattle.std.proofs.lemmas.List.Sums.{fails_before_first, position_or_len_is}
use Rattle.std.proofs.lemmas.List.Quantifiers.{position-Some}
use Rattle.std.proofs.lemmas.Simd.{bitmask_splat, leading_from_mask_l, trailing_mask_l}
use lib.Count.{count_trailing_zeros}

-- ---- by any test

module _ (p : ℕ → Bool) where
  at_place : (xs : List ℕ) (i : ℕ) → position_or_len p xs ≡ i → i < length xs → position p xs ≡ Some i
  at_place xs i is inside =
      let less : position_or_len p xs < length xs = omega arith in
      ap (λ d. cond d (Some (position_or_len p xs)) None) (lt-ltb (position_or_len p xs) (length xs) less) ∙ ap (λ (k : ℕ). Some k) is

  pub nowhere : (xs : List ℕ) → position_or_len p xs ≡ length xs → position p xs ≡ None
  nowhere xs is =
      ap (λ d. cond d (Some (position_or_len p xs)) None) (le-ltb (position_or_len p xs) (length xs) (omega arith))

  fails : (xs : List ℕ) (k : ℕ) → position p xs ≡ None → k < length xs → p (get_or xs k 0) ≡ false
  fails xs k none inside =
      let past : length xs ≤ position_or_len p xs = grind (arith, common_steps) in
      fails_before_first p xs k 0 (omega arith)

  -- a place in the first bytes
  pub within_first : (n i : ℕ) (text : List ℕ) → n ≤ length text → position p (take n text) ≡ Some i → position p text ≡ Some i
  within_first n i text some found =
      let facts = position-Some p (take n text) i 0 found in
      let below : i < n = omega (arith, facts.0, length-take-le n text some) in
      let first = position_or_len_is p text i 0 (omega arith)
      (λ k h. sym (ap p (get_or-take n text k 0 (omega arith))) ∙ facts.2 k h)
      (λ h. sym (ap p (get_or-take n text i 0 below)) ∙ facts.1) in
      at_place text i first (omega arith)

  before : (n k : ℕ) (text : List ℕ) → n ≤ length text → position p (take n text) ≡ None → k < n → p (get_or text k 0) ≡ false
  before n k text some none below =
      sym (ap p (get_or-take n text k 0 below)) ∙ fails (take n text) k none (omega (arith, length-take-le n text some))

  -- none in the first bytes
  pub behind_first : (n : ℕ) (text : List ℕ) → n ≤ length text → position p (take n text) ≡ None → position p text ≡ option_map (λ place. n + place) (position p (drop n text))
  behind_first n text some none = by (position p (drop n text)) refl where
    by : (o : Option ℕ) → position p (drop n text) ≡ o → position p text ≡ option_map (λ place. n + place) o
    by None rest =
        let all = λ (k : ℕ) (h : k < length text). ⊎_elim (λ l. before n k text some none l)
        (λ g. let same : n + (k - n) ≡ k = omega arith in
        ap (λ (j : ℕ). p (get_or text j 0)) (sym same) ∙ sym (ap p (get_or-drop n text (k - n) 0)) ∙ fails (drop n text) (k - n) rest (omega (arith, length-drop n text))) (cases_lt k n) in
        nowhere text (position_or_len_is p text (length text) 0 (omega arith) all (λ h. absurd (omega arith)))
    by (Some place) rest =
        let facts = position-Some p (drop n text) place 0 rest in
        let inside : n + place < length text = omega (arith, facts.0, length-drop n text) in
        let all = λ (k : ℕ) (h : k < n + place). ⊎_elim (λ l. before n k text some none l)
        (λ g. let same : n + (k - n) ≡ k = omega arith in
        ap (λ (j : ℕ). p (get_or text j 0)) (sym same) ∙ sym (ap p (get_or-drop n text (k - n) 0)) ∙ facts.2 (k - n) (omega arith)) (cases_lt k n) in
        at_place text (n + place) (position_or_len_is p text (n + place) 0 (omega arith) all (λ h. sym (ap p (get_or-drop n text place 0)) ∙ facts.1)) inside

  -- a mark is before the end
  some_marked : (xs : List ℕ) → 0 < mask_l (map p xs) → position_or_len p xs < length xs
  some_marked [] some = absurd (omega arith)
  some_marked (x ∷ xs) some = by (p x) refl some (some_marked xs) where
    by : (d : Bool) → p x ≡ d → 0 < cond d 1 0 + 2 * mask_l (map p xs) → (0 < mask_l (map p xs) → position_or_len p xs < length xs) → position_or_len p (x ∷ xs) < suc (length xs)
    by true is more later = let none : position_or_len p (x ∷ xs) ≡ 0 = ap (λ d. cond (not d) (1 + position_or_len p xs) 0) is in omega arith
    by false is more later =
        let one_more : position_or_len p (x ∷ xs) ≡ 1 + position_or_len p xs = ap (λ d. cond (not d) (1 + position_or_len p xs) 0) is in
        omega (arith, later (omega arith))

-- ---- by the marks of lanes

abbrev marks_of : ℕ → ℕ → List ℕ → ℕ
marks_of separator n xs = mask_l (map (top 7) (zip2 (λ a b. cond (nat_eq a b) 255 0) xs (replicate n separator))) % 2 ^ 64

marks_are : (separator n : ℕ) (xs : List ℕ) → length xs ≡ n → n ≤ 64 → marks_of separator n xs ≡ mask_l (map (λ byte. nat_eq byte separator) xs)
marks_are separator n xs long few = bitmask_splat w8 nat_eq xs n separator long few

pub not_marked : (separator n : ℕ) (xs : List ℕ) → length xs ≡ n → n ≤ 64 → marks_of separator n xs ≡ 0 → None ≡ position (λ byte. nat_eq byte separator) xs
not_marked separator n xs long few zero_is =
    sym (nowhere (λ byte. nat_eq byte separator) xs (leading_from_mask_l (λ byte. nat_eq byte separator) xs (sym (marks_are separator n xs long few) ∙ zero_is)))

pub first_marked : (separator n : ℕ) (xs : List ℕ) → length xs ≡ n → n ≤ 64 → 0 < marks_of separator n xs → Some (count_trailing_zeros 64 (marks_of separator n xs)) ≡ position (λ byte. nat_eq byte separator) xs
first_marked separator n xs long few more =
    let p : ℕ → Bool = λ byte. nat_eq byte separator in
    let is = marks_are separator n xs long few in
    let some : 0 < mask_l (map p xs) = omega arith in
    ap (λ (m : ℕ). Some (count_trailing_zeros 64 m)) is
    ∙ sym (at_place p xs (count_trailing_zeros 64 (mask_l (map p xs))) (sym (trailing_mask_l p 64 xs (omega arith) some)) (omega (arith, trailing_mask_l p 64 xs (omega arith) some, some_marked p xs some)))

-- ---- while blocks are looked at

abbrev pub from_on : ℕ → ℕ → List ℕ → Option ℕ
from_on separator from text = option_map (λ place. from + place) (position (λ byte. nat_eq byte separator) (drop from text))

more_behind : (from n : ℕ) (o : Option ℕ) → option_map (λ place. from + place) (option_map (λ place. n + place) o) ≡ option_map (λ place. from + n + place) o
more_behind from n None = refl
more_behind from n (Some place) = let same : from + (n + place) ≡ from + n + place = omega arith in ap (λ (k : ℕ). Some k) same

pub all_behind : (separator : ℕ) (text : List ℕ) → position (λ byte. nat_eq byte separator) text ≡ from_on separator 0 text
all_behind separator text = by (position (λ byte. nat_eq byte separator) text) where
  by : (o : Option ℕ) → o ≡ option_map (λ place. 0 + place) o
  by None = refl
  by (Some place) = let same : place ≡ 0 + place = omega arith in ap (λ (k : ℕ). Some k) same

-- a block without the byte is left behind
pub block_behind : (separator from n : ℕ) (text rest : List ℕ) → rest ≡ drop from text → from + n ≤ length text → None ≡ position (λ byte. nat_eq byte separator) (take n rest)
    → from_on separator from text ≡ from_on separator (from + n) text
block_behind separator from n text rest is some none =
    let p : ℕ → Bool = λ byte. nat_eq byte separator in
    let none_in : position p (take n (drop from text)) ≡ None = ap (λ t. position p (take n t)) (sym is) ∙ sym none in
    ap (λ o. option_map (λ place. from + place) o) (behind_first p n (drop from text) (omega (arith, length-drop from text)) none_in)
    ∙ more_behind from n (position p (drop n (drop from text)))
    ∙ ap (λ t. option_map (λ place. from + n + place) (position p t)) (drop-drop n from text)

-- a block with the byte ends the search
pub block_ends : (separator from n place : ℕ) (text rest : List ℕ) → rest ≡ drop from text → from + n ≤ length text → Some place ≡ position (λ byte. nat_eq byte separator) (take n rest)
    → Some (from + place) ≡ from_on separator from text
block_ends separator from n place text rest is some found =
    let p : ℕ → Bool = λ byte. nat_eq byte separator in
    let found_in : position p (take n (drop from text)) ≡ Some place = ap (λ t. position p (take n t)) (sym is) ∙ sym found in
    sym (ap (λ o. option_map (λ place. from + place) o) (within_first p n place (drop from text) (omega (arith, length-drop from text)) found_in))

pub block_inside : (separator from n place : ℕ) (text rest : List ℕ) → rest ≡ drop from text → from + n ≤ length text → Some place ≡ position (λ byte. nat_eq byte separator) (take n rest)
    → from + place < length text
block_inside separator from n place text rest is some found =
    let p : ℕ → Bool = λ byte. nat_eq byte separator in
    let facts = position-Some p (take n rest) place 0 (sym found) in
    let size : length rest ≡ length text - from = ap (λ (t : List ℕ). length t) is ∙ length-drop from text in
    omega (arith, facts.0, length-take-le n rest (omega arith))
