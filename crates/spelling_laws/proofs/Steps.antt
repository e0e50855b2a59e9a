-- Reading taken apart: what went on was read step by step, and the words of the steps stand one behind the other.
-- Letters: k is the number of the next word, ws are the words from it on, q is what was read.
use Rattle.std.specs.Prelude.{◌≡◌, ℕ, zero, suc, ◌+◌, Bool, true, false, ◌&&◌, ◌||◌, nat_eq, nat_lt, nat_le, List, [], ◌∷◌, ◌++◌, length, Result, Ok, Err, refl, if◌then◌else◌}
use Rattle.std.specs.List.{flat_map}
use Rattle.std.proofs.Common.{sym, ◌∙◌, ap, subst, append_assoc, append-nil, length-append, arith}
use Rattle.spelling_laws.specs.StateReading.declared.StateRefusal.{StateRefusal}
use Rattle.spelling_laws.specs.StateReading.declared.StateRefusal.TheVariants.{BadWord}
use Rattle.spelling_laws.specs.StateReading.Reading.{Read, and_then, given, times, word_that, words_that}
use Rattle.spelling_laws.specs.StateReading.Parts.{most_counted, listed}
use Rattle.spelling_laws.specs.StateWords.Parts.{counted}
use Rattle.spelling_laws.specs.Spells.{Spells}

-- ---- one step

module _ {A B P : Type 0} where
  -- what went on read its first part, and then the rest
  pub step : (first : Result (Read A) StateRefusal) (f : A → ℕ → List ℕ → Result (Read B) StateRefusal) (end : Read B) → and_then first f ≡ Ok end
      → ((q : Read A) → first ≡ Ok q → f q.value q.at q.rest ≡ Ok end → P) → P
  step (Ok q) f end e go = go q refl e
  step (Err r) f end e go = cc

-- what holds of what is given holds of the end
pub ended : {A : Type 0} (P : Read A → Type 0) (q end : Read A) → P q → given q.value q.at q.rest ≡ Ok end → P end
ended P q end holds e =
    let same : q ≡ end = cc in
    subst P same holds

pub spells-none : (k : ℕ) (ws : List ℕ) → Spells k ws [] k ws
spells-none k ws = record { words_are = refl; next = omega arith }

pub spells-both : {k at end : ℕ} {ws vs us a b : List ℕ} → Spells k ws a at vs → Spells at vs b end us → Spells k ws (a ++ b) end us
spells-both {k} {at} {end} {ws} {vs} {us} {a} {b} first second = record {
  words_are = first.words_are ∙ ap (λ l. a ++ l) second.words_are ∙ sym (append_assoc a b us);
  next = omega (arith, first.next, second.next, length-append a b);
}

pub spells-as : {k at : ℕ} {ws vs a b : List ℕ} → a ≡ b → Spells k ws a at vs → Spells k ws b at vs
spells-as {k} {at} {ws} {vs} same s = subst (λ l. Spells k ws l at vs) same s

-- ---- words

-- what a word has to pass
abbrev pub is_count : ℕ → Bool
is_count w = nat_le w most_counted

abbrev pub is_to : ℕ → ℕ → Bool
is_to most w = nat_le w most

abbrev pub is_below : ℕ → ℕ → Bool
is_below bound w = nat_lt w bound

abbrev pub is_from_1 : ℕ → ℕ → Bool
is_from_1 most w = nat_le 1 w && nat_le w most

abbrev pub is_if : Bool → ℕ → Bool
is_if means w = means || nat_eq w 0

pub record OneRead (ok : ℕ → Bool) (k : ℕ) (ws : List ℕ) (q : Read ℕ) : Type 0 where
  pub word : Spells k ws (q.value ∷ []) q.at q.rest
  pub passes : ok q.value ≡ true

pub one-read : (ok : ℕ → Bool) (k : ℕ) (ws : List ℕ) (q : Read ℕ) → word_that ok k ws ≡ Ok q → OneRead ok k ws q
one-read ok k [] q e = cc
one-read ok k (w ∷ ws) q e =
    elim (ok w) as (λ b. ok w ≡ b → (if b then given w (k + 1) ws else Err (BadWord k)) ≡ Ok q → OneRead ok k (w ∷ ws) q) [
      | true ↦ λ pass e. ended (OneRead ok k (w ∷ ws)) (record { value = w; at = k + 1; rest = ws }) q (record { word = record { words_are = refl; next = refl }; passes = pass }) e
      | false ↦ λ pass e. cc
    ] refl e

module _ {B P : Type 0} where
  pub word-step : (ok : ℕ → Bool) (k : ℕ) (ws : List ℕ) (f : ℕ → ℕ → List ℕ → Result (Read B) StateRefusal) (end : Read B) → and_then (word_that ok k ws) f ≡ Ok end
      → ((w at : ℕ) (rest : List ℕ) → Spells k ws (w ∷ []) at rest → ok w ≡ true → f w at rest ≡ Ok end → P) → P
  word-step ok k ws f end e go = step (word_that ok k ws) f end e (λ q is e. let o = one-read ok k ws q is in go q.value q.at q.rest o.word o.passes e)

pub many-read : (ok : ℕ → Bool) (n k : ℕ) (ws : List ℕ) (q : Read (List ℕ)) → words_that ok n k ws ≡ Ok q → Spells k ws q.value q.at q.rest
unfolding words_that
many-read ok zero k ws q e = ended (λ q. Spells k ws q.value q.at q.rest) (record { value = []; at = k; rest = ws }) q (spells-none k ws) e
many-read ok (suc n) k ws q e =
    word-step ok k ws _ q e (λ w at rest word pass e.
    step (words_that ok n at rest) _ q e (λ more is e.
    ended (λ q. Spells k ws q.value q.at q.rest) (record { value = w ∷ more.value; at = more.at; rest = more.rest }) q (spells-both word (many-read ok n at rest more is)) e))

-- ---- lists, to which each step adds an entry

module _ {X : Type 0} (words : X → List ℕ) where
  pub record Added (es : List X) (k : ℕ) (ws : List ℕ) (q : Read (List X)) : Type 0 where
    pub entry : X
    pub value : q.value ≡ es ++ entry ∷ []
    pub spells : Spells k ws (words entry) q.at q.rest

  pub record AllAdded (n : ℕ) (es : List X) (k : ℕ) (ws : List ℕ) (q : Read (List X)) : Type 0 where
    pub added : List X
    pub value : q.value ≡ es ++ added
    pub many : length added ≡ n
    pub spells : Spells k ws (flat_map words added) q.at q.rest

  module _ (read : List X → ℕ → List ℕ → Result (Read (List X)) StateRefusal) (each : (es : List X) (k : ℕ) (ws : List ℕ) (q : Read (List X)) → read es k ws ≡ Ok q → Added es k ws q) where
    pub all-added : (n : ℕ) (es : List X) (k : ℕ) (ws : List ℕ) (q : Read (List X)) → times read n es k ws ≡ Ok q → AllAdded n es k ws q
    unfolding times
    all-added zero es k ws q e =
        ended (AllAdded zero es k ws) (record { value = es; at = k; rest = ws }) q (record { added = []; value = sym (append-nil es); many = refl; spells = spells-none k ws }) e
    all-added (suc n) es k ws q e =
        step (read es k ws) _ q e (λ one is e.
        let a = each es k ws one is in
        let b = all-added n one.value one.at one.rest q e in record {
          added = a.entry ∷ b.added;
          value = b.value ∙ ap (λ l. l ++ b.added) a.value ∙ append_assoc es (a.entry ∷ []) b.added;
          many = omega (arith, b.many);
          spells = spells-both a.spells b.spells;
        })

    -- a list from its first entry on
    pub listed-read : (n k : ℕ) (ws : List ℕ) (q : Read (List X)) → times read n [] k ws ≡ Ok q → (length q.value ≡ n) × Spells k ws (flat_map words q.value) q.at q.rest
    listed-read n k ws q e =
        let a = all-added n [] k ws q e in
        (ap length a.value ∙ a.many, spells-as (ap (flat_map words) (sym a.value)) a.spells)

    pub list-read : (room k : ℕ) (ws : List ℕ) (q : Read (List X)) → listed room read k ws ≡ Ok q → Spells k ws (counted words q.value) q.at q.rest
    list-read room k ws q e =
        word-step (is_to room) k ws (λ count k ws. times read count [] k ws) q e (λ count at rest word pass e.
        let l = listed-read count at rest q e in
        spells-as (ap (λ n. n ∷ flat_map words q.value) (sym l.0)) (spells-both word l.1))
