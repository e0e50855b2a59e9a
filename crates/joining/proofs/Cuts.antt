-- A text cut at the first place of a byte.
use Rattle.std.proofs.Common.{◌≡◌, ℕ, zero, suc, ◌+◌, ◌-◌, ◌<◌, ◌≤◌, not, ◌&&◌, nat_eq, true, false, List, [], ◌∷◌, ◌++◌, length, take, drop, get_or, Some, None, refl, ap, ◌∙◌, arith}
use Rattle.std.specs.Prelude.{position}
use Rattle.std.specs.List.{list_all, position_or_len}
use Rattle.std.proofs.lemmas.Grind.{common_steps}
use Rattle.std.proofs.lemmas.List.Sums.{fails_before_first}
use Rattle.std.proofs.lemmas.Bool.{eqb-true}
use Rattle.std.proofs.lemmas.List.{get_or-take, length-drop, length-take, take_all}
use Rattle.std.proofs.lemmas.List.Quantifiers.{position-Some}
use Rattle.join_model.specs.TextModel.Lines.{Lacks}
use Rattle.joining.specs.TextModel.Schedule.{pieces_at}
use Rattle.join_model.proofs.TextModel.Pieces.{pieces_at-whole, pieces_at-append}

lacks-from : (separator : ℕ) (text : List ℕ) → ((k : ℕ) → k < length text → nat_eq (get_or text k 0) separator ≡ false) → Lacks separator text
lacks-from separator [] none = refl
lacks-from separator (byte ∷ text) none =
    ap (λ b. not b && list_all (λ b. not (nat_eq b separator)) text) (none 0 (omega arith))
    ∙ lacks-from separator text (λ k h. none (suc k) (omega arith))

drop-at : (text : List ℕ) (i : ℕ) → i < length text → drop i text ≡ get_or text i 0 ∷ drop (suc i) text
drop-at [] i inside = absurd (omega arith)
drop-at (byte ∷ text) zero inside = refl
drop-at (byte ∷ text) (suc i) inside = drop-at text i (omega arith)

split-at : (text : List ℕ) (i : ℕ) → i < length text → text ≡ take i text ++ drop i text
split-at [] i inside = absurd (omega arith)
split-at (byte ∷ text) zero inside = refl
split-at (byte ∷ text) (suc i) inside = ap (λ more. byte ∷ more) (split-at text i (omega arith))

-- the separator is there
pub cut-here : (separator : ℕ) (text : List ℕ) (i : ℕ) → position (λ byte. nat_eq byte separator) text ≡ Some i → drop i text ≡ separator ∷ drop (i + 1) text
cut-here separator text i found =
    let facts = position-Some (λ byte. nat_eq byte separator) text i 0 found in
    let one_more : suc i ≡ i + 1 = omega arith in
    drop-at text i facts.0 ∙ ap (λ b. b ∷ drop (suc i) text) (eqb-true (get_or text i 0) separator facts.1) ∙ ap (λ (n : ℕ). separator ∷ drop n text) one_more

pub first-piece : (separator : ℕ) (text : List ℕ) (i : ℕ) → nat_eq separator separator ≡ true → position (λ byte. nat_eq byte separator) text ≡ Some i → pieces_at separator text ≡ take i text ∷ pieces_at separator (drop (i + 1) text)
first-piece separator text i same found =
    let facts = position-Some (λ byte. nat_eq byte separator) text i 0 found in
    let lacks : Lacks separator (take i text) = lacks-from separator (take i text) (λ k h. let below : k < i = omega (arith, length-take i text) in ap (λ b. nat_eq b separator) (get_or-take i text k 0 below) ∙ facts.2 k below) in
    ap (pieces_at separator) (split-at text i facts.0 ∙ ap (λ more. take i text ++ more) (cut-here separator text i found))
    ∙ pieces_at-append separator (take i text) (drop (i + 1) text) same lacks

pub last-piece : (separator : ℕ) (text : List ℕ) → position (λ byte. nat_eq byte separator) text ≡ None → pieces_at separator text ≡ text ∷ []
last-piece separator text none =
    let past : length text ≤ position_or_len (λ byte. nat_eq byte separator) text = grind (arith, common_steps) in
    pieces_at-whole separator text (lacks-from separator text (λ k h. fails_before_first (λ byte. nat_eq byte separator) text k 0 (omega arith)))

-- the bytes from a place on, as a slice has them
pub tail-is : (text : List ℕ) (k : ℕ) → take (length text - k) (drop k text) ≡ drop k text
tail-is text k = take_all (length text - k) (drop k text) (omega (arith, length-drop k text))
