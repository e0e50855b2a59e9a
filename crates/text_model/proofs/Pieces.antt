-- The pieces of a text that is put together from pieces.
use Rattle.std.proofs.Common.{◌≡◌, ℕ, ◌^◌, ◌<◌, Bool, true, false, not, cond, ◌&&◌, nat_eq, List, [], ◌∷◌, ◌++◌, decimal, refl, sym, ap, ◌∙◌}
use Rattle.std.specs.List.{list_all}
use Rattle.std.proofs.lemmas.Bool.{eqb-true}
use Rattle.std.proofs.lemmas.List.Folds.{list_all-append}
use Rattle.ddm_text.specs.Numbers.{is_digit}
use Rattle.ddm_text.proofs.Spellings.{AreDigits, AreDigits-decimal}
use Rattle.text_model.specs.Schedule.{with_byte_before, pieces_at}
use Rattle.text_model.specs.Lines.{Lacks}

pub both : (a b : Bool) → (a && b) ≡ true → (a ≡ true) × (b ≡ true)
both true b e = (refl, e)
both false b e = absurd (cc e)

pub Lacks-append : (separator : ℕ) (xs ys : List ℕ) → Lacks separator xs → Lacks separator ys → Lacks separator (xs ++ ys)
Lacks-append separator xs ys lacks lacks' =
    list_all-append (λ byte. not (nat_eq byte separator)) xs ys
    ∙ ap (λ b. b && list_all (λ byte. not (nat_eq byte separator)) ys) lacks ∙ lacks'

other_byte : (d : Bool) (separator byte : ℕ) → nat_eq byte separator ≡ d → is_digit separator ≡ false → is_digit byte ≡ true → not d ≡ true
other_byte true separator byte same nondigit isdigit = absurd (cc (sym nondigit ∙ ap is_digit (sym (eqb-true byte separator same)) ∙ isdigit))
other_byte false separator byte other nondigit isdigit = refl

-- digits lack what isn't a digit
pub Lacks-AreDigits : (separator : ℕ) (text : List ℕ) → is_digit separator ≡ false → AreDigits text → Lacks separator text
Lacks-AreDigits separator [] nondigit digits = refl
Lacks-AreDigits separator (byte ∷ text) nondigit digits =
    let parts = both (is_digit byte) (list_all is_digit text) digits in
    ap (λ b. b && list_all (λ byte. not (nat_eq byte separator)) text) (other_byte (nat_eq byte separator) separator byte refl nondigit parts.0)
    ∙ Lacks-AreDigits separator text nondigit parts.1

pub Lacks-decimal : (separator n : ℕ) → is_digit separator ≡ false → n < 2 ^ 64 → Lacks separator (decimal n)
Lacks-decimal separator n nondigit small = Lacks-AreDigits separator (decimal n) nondigit (AreDigits-decimal n small)

-- there is always a first piece
first_piece : (separator byte : ℕ) (pieces : List (List ℕ)) → (piece : List ℕ) × (more : List (List ℕ)) × (with_byte_before separator byte pieces ≡ piece ∷ more)
first_piece separator byte [] = (byte ∷ [], [], refl)
first_piece separator byte (piece ∷ pieces) = by (nat_eq byte separator) where
  by : (d : Bool) → (first : List ℕ) × (more : List (List ℕ)) × (cond d ([] ∷ piece ∷ pieces) ((byte ∷ piece) ∷ pieces) ≡ first ∷ more)
  by true = ([], piece ∷ pieces, refl)
  by false = (byte ∷ piece, pieces, refl)

pub some_piece : (separator : ℕ) (text : List ℕ) → (piece : List ℕ) × (more : List (List ℕ)) × (pieces_at separator text ≡ piece ∷ more)
unfolding pieces_at
some_piece separator [] = ([], [], refl)
some_piece separator (byte ∷ text) = first_piece separator byte (pieces_at separator text)

-- a byte that doesn't separate
pub goes_on : (d : Bool) (byte : ℕ) (piece : List ℕ) (pieces : List (List ℕ)) → not d ≡ true → cond d ([] ∷ piece ∷ pieces) ((byte ∷ piece) ∷ pieces) ≡ (byte ∷ piece) ∷ pieces
goes_on true byte piece pieces e = absurd (cc e)
goes_on false byte piece pieces e = refl

with_other_before : (separator byte : ℕ) (piece : List ℕ) (pieces : List (List ℕ)) → not (nat_eq byte separator) ≡ true → with_byte_before separator byte (piece ∷ pieces) ≡ (byte ∷ piece) ∷ pieces
with_other_before separator byte piece pieces other = goes_on (nat_eq byte separator) byte piece pieces other

-- a text that lacks the separator is one piece
pub pieces_at-whole : (separator : ℕ) (text : List ℕ) → Lacks separator text → pieces_at separator text ≡ text ∷ []
unfolding pieces_at
pieces_at-whole separator [] lacks = refl
pieces_at-whole separator (byte ∷ text) lacks =
    let parts = both (not (nat_eq byte separator)) (list_all (λ b. not (nat_eq b separator)) text) lacks in
    ap (λ pieces. with_byte_before separator byte pieces) (pieces_at-whole separator text parts.1)
    ∙ with_other_before separator byte text [] parts.0

-- a separator before a text begins a piece
pub pieces_at-separator : (separator : ℕ) (text : List ℕ) → nat_eq separator separator ≡ true → pieces_at separator (separator ∷ text) ≡ [] ∷ pieces_at separator text
unfolding pieces_at
pieces_at-separator separator text same =
    let some = some_piece separator text in
    ap (λ pieces. with_byte_before separator separator pieces) some.2
    ∙ ap (λ d. cond d ([] ∷ some.0 ∷ some.1) ((separator ∷ some.0) ∷ some.1)) same
    ∙ ap (λ pieces. [] ∷ pieces) (sym some.2)

-- a text that lacks the separator, then the separator
pub pieces_at-append : (separator : ℕ) (text more : List ℕ) → nat_eq separator separator ≡ true → Lacks separator text → pieces_at separator (text ++ separator ∷ more) ≡ text ∷ pieces_at separator more
unfolding pieces_at
pieces_at-append separator [] more same lacks = pieces_at-separator separator more same
pieces_at-append separator (byte ∷ text) more same lacks =
    let parts = both (not (nat_eq byte separator)) (list_all (λ b. not (nat_eq b separator)) text) lacks in
    ap (λ pieces. with_byte_before separator byte pieces) (pieces_at-append separator text more same parts.1)
    ∙ with_other_before separator byte text (pieces_at separator more) parts.0
