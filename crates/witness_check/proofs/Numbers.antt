-- The numbers that a word has: where the first ends, and how many make a key.
use Rattle.std.proofs.Common.{◌≡◌, ℕ, suc, ◌+◌, Bool, false, cond, ◌||◌, nat_eq, ◌≤◌, ◌<◌, List, [], ◌∷◌, ◌++◌, length, take, drop, get_or, Option, Some, None, refl, sym, ap, subst, ◌∙◌, arith}
use Rattle.std.specs.Prelude.{option_map, option_and_then, is_some, position}
use Rattle.std.proofs.lemmas.Bool.Decides.{nat_tests}
use Rattle.std.proofs.lemmas.Bool.{eq-eqb, ne_eqb}
use Rattle.std.proofs.lemmas.List.{take_all}
use Rattle.text_model.specs.Lines.{Lacks}
use Rattle.text_model.proofs.Pieces.{pieces_at-append, pieces_at-whole}
use Rattle.text_model.specs.Schedule.{pieces_at}
use Rattle.witness_check.proofs.Cuts.{first_word, inside, no_separator, split_at}
use Rattle.witness_check.specs.Lines.{key_of_numbers}

-- ---- the first number's end

-- what is behind a first piece
abbrev pub rest_of : ℕ → List ℕ → List (List ℕ)
rest_of end text = cond (nat_eq end (length text)) [] (pieces_at 46 (drop (end + 1) text))

pub at_end : (end : ℕ) (text : List ℕ) → Lacks 46 (take end text) → end ≡ length text → pieces_at 46 text ≡ take end text ∷ rest_of end text
at_end end text lacks is =
    let whole : take end text ≡ text = take_all end text (omega arith) in
    let P : List ℕ → Type 0 = λ t. Lacks 46 t in
    pieces_at-whole 46 text (subst P whole lacks)
    ∙ ap (λ (t : List ℕ). t ∷ []) (sym whole)
    ∙ ap (λ d. take end text ∷ cond d [] (pieces_at 46 (drop (end + 1) text))) (sym (eq-eqb end (length text) is))

before_end : (end : ℕ) (text : List ℕ) → end < length text → nat_eq end (length text) ≡ false
before_end end text inside = ne_eqb end (length text) (λ e. omega arith)

pub at_stop : (end : ℕ) (text : List ℕ) → Lacks 46 (take end text) → end < length text → get_or text end 0 ≡ 46 → pieces_at 46 text ≡ take end text ∷ rest_of end text
at_stop end text lacks inside is =
    let one_more : suc end ≡ end + 1 = omega arith in
    ap (λ t. pieces_at 46 t) (split_at text end inside ∙ ap (λ b. take end text ++ b ∷ drop (suc end) text) is ∙ ap (λ (n : ℕ). take end text ++ 46 ∷ drop n text) one_more)
    ∙ pieces_at-append 46 (take end text) (drop (end + 1) text) refl lacks
    ∙ ap (λ d. take end text ∷ cond d [] (pieces_at 46 (drop (end + 1) text))) (sym (before_end end text inside))

pub no_stop : (text : List ℕ) → None ≡ position (λ byte. nat_eq byte 46) text → pieces_at 46 text ≡ take (length text) text ∷ rest_of (length text) text
no_stop text none =
    let P : List ℕ → Type 0 = λ t. Lacks 46 t in
    at_end (length text) text (subst P (sym (take_all (length text) text (omega arith))) (no_separator 46 text (sym none))) refl

pub first_stop : (end : ℕ) (text : List ℕ) → Some end ≡ position (λ byte. nat_eq byte 46) text → pieces_at 46 text ≡ take end text ∷ rest_of end text
first_stop end text found =
    first_word 46 text end refl (sym found)
    ∙ ap (λ d. take end text ∷ cond d [] (pieces_at 46 (drop (end + 1) text))) (sym (before_end end text (inside 46 text end (sym found))))

-- ---- keys

-- how many numbers a key has
abbrev pub is_key_count : ℕ → Bool
is_key_count n = nat_eq n 3 || nat_eq n 5 || nat_eq n 7 || nat_eq n 9

key_count : (ns : List ℕ) → is_some (key_of_numbers ns) ≡ is_key_count (length ns)
key_count [] = refl
key_count (a ∷ []) = refl
key_count (a ∷ b ∷ []) = refl
key_count (a ∷ b ∷ i ∷ []) = refl
key_count (a ∷ b ∷ c ∷ d ∷ []) = refl
key_count (a ∷ b ∷ c ∷ d ∷ i ∷ []) = refl
key_count (a ∷ b ∷ c ∷ d ∷ e ∷ f ∷ []) = refl
key_count (a ∷ b ∷ c ∷ d ∷ e ∷ f ∷ i ∷ []) = refl
key_count (a ∷ b ∷ c ∷ d ∷ e ∷ f ∷ g ∷ h ∷ []) = refl
key_count (a ∷ b ∷ c ∷ d ∷ e ∷ f ∷ g ∷ h ∷ i ∷ []) = refl
key_count (a ∷ b ∷ c ∷ d ∷ e ∷ f ∷ g ∷ h ∷ i ∷ j ∷ more) = past (length (a ∷ b ∷ c ∷ d ∷ e ∷ f ∷ g ∷ h ∷ i ∷ j ∷ more)) (omega arith) where
  past : (n : ℕ) → 10 ≤ n → false ≡ is_key_count n
  past n large = grind (arith, nat_tests)

pub key_by_count : (numbers : Option (List ℕ)) (n : ℕ) → Some n ≡ option_map (λ ns. length ns) numbers → is_some (option_and_then key_of_numbers numbers) ≡ is_key_count n
key_by_count None n e = absurd (cc e)
key_by_count (Some ns) n e = let same : length ns ≡ n = cc e in key_count ns ∙ ap is_key_count same

pub no_key : (numbers : Option (List ℕ)) → None ≡ option_map (λ ns. length ns) numbers → is_some (option_and_then key_of_numbers numbers) ≡ false
no_key None e = refl
no_key (Some ns) e = absurd (cc e)
