-- A text cut at the first place of a byte.
use Rattle.std.proofs.Common.{◌≡◌, ℕ, zero, suc, ◌+◌, ◌-◌, ◌<◌, ◌≤◌, true, false, not, ◌&&◌, nat_eq, List, [], ◌∷◌, ◌++◌, length, take, drop, get_or, Some, None, refl, ap, ◌∙◌, arith}
use Rattle.std.specs.Prelude.{position}
use Rattle.std.specs.List.{list_all, position_or_len}
use Rattle.std.proofs.Math.Seq.{take-suc}
use Rattle.std.proofs.lemmas.Grind.{common_steps}
use Rattle.std.proofs.lemmas.List.Sums.{fails_before_first}
use Rattle.std.proofs.lemmas.Bool.{eqb-true}
use Rattle.std.proofs.lemmas.List.{get_or-take, length-take, length-drop, take_all}
use Rattle.std.proofs.lemmas.List.Quantifiers.{position-Some}
use Rattle.text_model.specs.Schedule.{pieces_at}
use Rattle.text_model.specs.Lines.{Lacks}
use Rattle.text_model.proofs.Pieces.{pieces_at-whole, pieces_at-append}

pub lacks_from : (separator : ℕ) (text : List ℕ) → ((k : ℕ) → k < length text → nat_eq (get_or text k 0) separator ≡ false) → Lacks separator text
lacks_from separator [] none = refl
lacks_from separator (byte ∷ text) none =
    ap (λ b. not b && list_all (λ b. not (nat_eq b separator)) text) (none 0 (omega arith))
    ∙ lacks_from separator text (λ k h. none (suc k) (omega arith))

pub split_at : (text : List ℕ) (i : ℕ) → i < length text → text ≡ take i text ++ get_or text i 0 ∷ drop (suc i) text
split_at [] i inside = absurd (omega arith)
split_at (byte ∷ text) zero inside = refl
split_at (byte ∷ text) (suc i) inside = ap (λ more. byte ∷ more) (split_at text i (omega arith))

-- a text without the separator is one word
pub last_word : (separator : ℕ) (text : List ℕ) → position (λ byte. nat_eq byte separator) text ≡ None → pieces_at separator text ≡ text ∷ []
last_word separator text none =
    let past : length text ≤ position_or_len (λ byte. nat_eq byte separator) text = grind (arith, common_steps) in
    pieces_at-whole separator text (lacks_from separator text (λ k h. fails_before_first (λ byte. nat_eq byte separator) text k 0 (omega arith)))

-- the separator's first place ends the first word
pub first_word : (separator : ℕ) (text : List ℕ) (i : ℕ) → nat_eq separator separator ≡ true → position (λ byte. nat_eq byte separator) text ≡ Some i
    → pieces_at separator text ≡ take i text ∷ pieces_at separator (drop (i + 1) text)
first_word separator text i same found =
    let facts = position-Some (λ byte. nat_eq byte separator) text i 0 found in
    let one_more : suc i ≡ i + 1 = omega arith in
    let lacks = lacks_from separator (take i text) (λ k h. let below : k < i = omega (arith, length-take i text) in ap (λ b. nat_eq b separator) (get_or-take i text k 0 below) ∙ facts.2 k below) in
    let is = split_at text i facts.0 ∙ ap (λ b. take i text ++ b ∷ drop (suc i) text) (eqb-true (get_or text i 0) separator facts.1) ∙ ap (λ (n : ℕ). take i text ++ separator ∷ drop n text) one_more in
    ap (λ t. pieces_at separator t) is ∙ pieces_at-append separator (take i text) (drop (i + 1) text) same lacks

-- where it is
pub inside : (separator : ℕ) (text : List ℕ) (i : ℕ) → position (λ byte. nat_eq byte separator) text ≡ Some i → i < length text
inside separator text i found = (position-Some (λ byte. nat_eq byte separator) text i 0 found).0

-- the bytes from a place on, as a slice has them
pub tail_is : (text : List ℕ) (k : ℕ) → take (length text - k) (drop k text) ≡ drop k text
tail_is text k = take_all (length text - k) (drop k text) (omega (arith, length-drop k text))

-- before the separator's first place there is none, and with it the text goes on
pub no_separator : (separator : ℕ) (text : List ℕ) → position (λ byte. nat_eq byte separator) text ≡ None → Lacks separator text
no_separator separator text none =
    let past : length text ≤ position_or_len (λ byte. nat_eq byte separator) text = grind (arith, common_steps) in
    lacks_from separator text (λ k h. fails_before_first (λ byte. nat_eq byte separator) text k 0 (omega arith))

pub none_before : (separator : ℕ) (text : List ℕ) (i : ℕ) → position (λ byte. nat_eq byte separator) text ≡ Some i → Lacks separator (take i text)
none_before separator text i found =
    let facts = position-Some (λ byte. nat_eq byte separator) text i 0 found in
    lacks_from separator (take i text) (λ k h. let below : k < i = omega (arith, length-take i text) in ap (λ b. nat_eq b separator) (get_or-take i text k 0 below) ∙ facts.2 k below)

pub up_to : (separator : ℕ) (text : List ℕ) (i : ℕ) → position (λ byte. nat_eq byte separator) text ≡ Some i → take (i + 1) text ≡ take i text ++ separator ∷ []
up_to separator text i found =
    let facts = position-Some (λ byte. nat_eq byte separator) text i 0 found in
    let one_more : i + 1 ≡ suc i = omega arith in
    ap (λ (n : ℕ). take n text) one_more ∙ take-suc text i 0 facts.0 ∙ ap (λ b. take i text ++ b ∷ []) (eqb-true (get_or text i 0) separator facts.1)
