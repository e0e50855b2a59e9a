-- Words that are spelled, read: each step takes its words from the front and leaves those behind them.
-- Letters: k is the number of the next word, ws are the words from it on.
use Rattle.std.specs.Prelude.{◌≡◌, ℕ, zero, suc, ◌+◌, ◌≤◌, Bool, true, List, [], ◌∷◌, ◌++◌, length, Result, Ok, Err, refl, if◌then◌else◌}
use Rattle.std.specs.List.{flat_map, list_all}
use Rattle.std.proofs.Common.{sym, ◌∙◌, ap, append_assoc, append-nil, length-append, arith}
use Rattle.std.proofs.lemmas.Bool.{and_parts, le-leb}
use Rattle.spelling_laws.specs.StateReading.declared.StateRefusal.{StateRefusal}
use Rattle.spelling_laws.specs.StateReading.declared.StateRefusal.TheVariants.{BadWord}
use Rattle.spelling_laws.specs.StateReading.Reading.{Read, and_then, given, times, word_that, words_that}
use Rattle.spelling_laws.specs.StateReading.Parts.{listed}
use Rattle.spelling_laws.specs.StateWords.Parts.{counted}
use Rattle.spelling_laws.specs.Spells.{Spells}
use Rattle.spelling_laws.proofs.Steps.{is_to}

-- words with anything behind them are read as this, and nothing more is taken
abbrev pub Takes : {A : Type 0} → (ℕ → List ℕ → Result (Read A) StateRefusal) → List ℕ → A → Type 0
Takes read words a = (k at : ℕ) (ws rest : List ℕ) → Spells k ws words at rest → read k ws ≡ Ok (record { value = a; at = at; rest = rest })

-- what begins with some words: those behind them
pub split : {k at : ℕ} {ws rest : List ℕ} (a b : List ℕ) → Spells k ws (a ++ b) at rest → Spells k ws a (k + length a) (b ++ rest) × Spells (k + length a) (b ++ rest) b at rest
split {k} {at} {ws} {rest} a b s = (record { words_are = s.words_are ∙ append_assoc a b rest; next = refl }, record { words_are = refl; next = omega (arith, s.next, length-append a b) })

-- nothing is left of the words
pub taken-all : {A : Type 0} (a : A) (k at : ℕ) (ws rest : List ℕ) → Spells k ws [] at rest → given a k ws ≡ Ok (record { value = a; at = at; rest = rest })
taken-all a k at ws rest s =
    let here : k ≡ at = omega (arith, s.next) in
    let same : ws ≡ rest = s.words_are in
    ap (λ k. given a k ws) here ∙ ap (λ ws. given a at ws) same

module _ {A B : Type 0} where
  pub take : (first : Result (Read A) StateRefusal) (f : A → ℕ → List ℕ → Result (Read B) StateRefusal) (end : Result (Read B) StateRefusal) (q : Read A) → first ≡ Ok q → f q.value q.at q.rest ≡ end → and_then first f ≡ end
  take first f end q is e = ap (λ r. and_then r f) is ∙ e

  -- a part, and the words behind it
  pub take-part : (read : ℕ → List ℕ → Result (Read A) StateRefusal) (k : ℕ) (ws : List ℕ) (f : A → ℕ → List ℕ → Result (Read B) StateRefusal) (end : Result (Read B) StateRefusal) (words : List ℕ) (a : A) → Takes read words a
      → (more : List ℕ) (at : ℕ) (rest : List ℕ) → Spells k ws (words ++ more) at rest → ((k1 : ℕ) (ws1 : List ℕ) → Spells k1 ws1 more at rest → f a k1 ws1 ≡ end) → and_then (read k ws) f ≡ end
  take-part read k ws f end words a takes more at rest s go =
      let parts = split words more s in
      take (read k ws) f end (record { value = a; at = k + length words; rest = more ++ rest }) (takes k (k + length words) ws (more ++ rest) parts.0) (go (k + length words) (more ++ rest) parts.1)

pub word-taken : (ok : ℕ → Bool) (w : ℕ) → ok w ≡ true → Takes (word_that ok) (w ∷ []) w
word-taken ok w pass k at ws rest s =
    let next : k + 1 ≡ at = omega (arith, s.next) in
    ap (word_that ok k) s.words_are ∙ ap (λ b. if b then given w (k + 1) rest else Err (BadWord k)) pass ∙ ap (λ j. given w j rest) next

module _ {B : Type 0} where
  pub take-word : (ok : ℕ → Bool) (k : ℕ) (ws : List ℕ) (f : ℕ → ℕ → List ℕ → Result (Read B) StateRefusal) (end : Result (Read B) StateRefusal) (w : ℕ) → ok w ≡ true
      → (more : List ℕ) (at : ℕ) (rest : List ℕ) → Spells k ws (w ∷ more) at rest → ((k1 : ℕ) (ws1 : List ℕ) → Spells k1 ws1 more at rest → f w k1 ws1 ≡ end) → and_then (word_that ok k ws) f ≡ end
  take-word ok k ws f end w pass more at rest s go = take-part (word_that ok) k ws f end (w ∷ []) w (word-taken ok w pass) more at rest s go

pub words-taken : (ok : ℕ → Bool) (n : ℕ) (us : List ℕ) → length us ≡ n → list_all ok us ≡ true → Takes (words_that ok n) us us
unfolding words_that
words-taken ok zero [] size pass k at ws rest s = taken-all [] k at ws rest s
words-taken ok zero (u ∷ us) size pass k at ws rest s = absurd (omega (arith, size))
words-taken ok (suc n) [] size pass k at ws rest s = absurd (omega (arith, size))
words-taken ok (suc n) (u ∷ us) size pass k at ws rest s =
    let p = and_parts (ok u) (list_all ok us) pass in
    take-word ok k ws _ _ u p.0 us at rest s (λ k1 ws1 s1.
    take (words_that ok n k1 ws1) _ _ (record { value = us; at = at; rest = rest }) (words-taken ok n us (omega (arith, size)) p.1 k1 at ws1 rest s1) refl)

-- ---- lists, to which each step adds an entry

module _ {X : Type 0} (words : X → List ℕ) (read : List X → ℕ → List ℕ → Result (Read (List X)) StateRefusal) where
  -- each of them is taken behind those before it
  abbrev pub AllTaken : List X → List X → Type 0
  AllTaken es [] = Unit {0}
  AllTaken es (x ∷ xs) = Takes (read es) (words x) (es ++ x ∷ []) × AllTaken (es ++ x ∷ []) xs

  pub times-taken : (es xs : List X) → AllTaken es xs → Takes (times read (length xs) es) (flat_map words xs) (es ++ xs)
  unfolding times
  times-taken es [] all k at ws rest s = taken-all es k at ws rest s ∙ ap (λ l. given l at rest) (sym (append-nil es))
  times-taken es (x ∷ xs) all k at ws rest s =
      take-part (read es) k ws _ _ (words x) (es ++ x ∷ []) all.0 (flat_map words xs) at rest s (λ k1 ws1 s1.
      times-taken (es ++ x ∷ []) xs all.1 k1 at ws1 rest s1 ∙ ap (λ l. given l at rest) (append_assoc es (x ∷ []) xs))

  pub list-taken : (room : ℕ) (xs : List X) → length xs ≤ room → AllTaken [] xs → Takes (listed room read) (counted words xs) xs
  list-taken room xs fits all k at ws rest s =
      take-word (is_to room) k ws _ _ (length xs) (le-leb _ _ fits) (flat_map words xs) at rest s (λ k1 ws1 s1. times-taken [] xs all k1 at ws1 rest s1)
