-- Entries of code in order of address: look-ups, and that the look-ups determine the list.
use Rattle.std.proofs.Common.{◌≡◌, ◌≢◌, ℕ, ◌+◌, ◌<◌, ◌≤◌, eqb, ltb, List, [], ◌∷◌, ◌++◌, Option, Some, None, refl, sym, ◌∙◌, ap, inl, inr, arith, get_or, zero, suc, length}
use Rattle.std.specs.Option.{option_or}
use Rattle.std.specs.List.{fold}
use Rattle.std.proofs.lemmas.Bool.{cases_order, cases_eq, cond-true, cond-false, eq-eqb, ne_eqb, lt-ltb, le-ltb}
use Rattle.ddm_types.specs.CodeMap.{CodeWord, word_at, with_word, code_of, IsCodeOf}

-- each address is n or above
abbrev pub AreFrom : ℕ → List CodeWord → Type 0
AreFrom n [] = Unit {0}
AreFrom n (e ∷ es) = (n ≤ e.address) × AreFrom n es

-- the addresses ascend, and none comes twice
abbrev pub IsAscending : List CodeWord → Type 0
IsAscending [] = Unit {0}
IsAscending (e ∷ es) = AreFrom (e.address + 1) es × IsAscending es

-- ---- look-ups

pub word_at-nil : (pc : ℕ) → word_at [] pc ≡ None
unfolding word_at
word_at-nil pc = refl

pub word_at-same : (e : CodeWord) (es : List CodeWord) (pc : ℕ) → e.address ≡ pc → word_at (e ∷ es) pc ≡ Some e.word
unfolding word_at
word_at-same e es pc h = cond-true (eqb e.address pc) (Some e.word) (word_at es pc) (eq-eqb e.address pc h)

pub word_at-other : (e : CodeWord) (es : List CodeWord) (pc : ℕ) → e.address ≢ pc → word_at (e ∷ es) pc ≡ word_at es pc
unfolding word_at
word_at-other e es pc h = cond-false (eqb e.address pc) (Some e.word) (word_at es pc) (ne_eqb e.address pc h)

pub option_or-none : (o : Option ℕ) → option_or o None ≡ o
option_or-none None = refl
option_or-none (Some x) = refl

pub option_or_assoc : (a b c : Option ℕ) → option_or (option_or a b) c ≡ option_or a (option_or b c)
option_or_assoc None b c = refl
option_or_assoc (Some x) b c = refl

pub word_at-append : (xs ys : List CodeWord) (pc : ℕ) → word_at (xs ++ ys) pc ≡ option_or (word_at xs pc) (word_at ys pc)
word_at-append [] ys pc = rw word_at-nil refl
word_at-append (e ∷ es) ys pc =
    elim (cases_eq e.address pc) [
      | inl h ↦ rw (word_at-same e (es ++ ys) pc h, word_at-same e es pc h) refl
      | inr h ↦ rw (word_at-other e (es ++ ys) pc h, word_at-other e es pc h) (word_at-append es ys pc)
    ]

-- ---- bounds

pub from-weaker : (m n : ℕ) (es : List CodeWord) → m ≤ n → AreFrom n es → AreFrom m es
from-weaker m n [] h a = tt
from-weaker m n (e ∷ es) h a = (omega (arith, a.0), from-weaker m n es h a.1)

pub from-append : (n : ℕ) (xs ys : List CodeWord) → AreFrom n xs → AreFrom n ys → AreFrom n (xs ++ ys)
from-append n [] ys a b = b
from-append n (x ∷ xs) ys a b = (a.0, from-append n xs ys a.1 b)

pub word_at_below : (n : ℕ) (es : List CodeWord) (pc : ℕ) → pc < n → AreFrom n es → word_at es pc ≡ None
word_at_below n [] pc h a = word_at-nil pc
word_at_below n (e ∷ es) pc h a =
    let ne : e.address ≢ pc = omega (arith, a.0) in
    word_at-other e es pc ne ∙ word_at_below n es pc h a.1

-- ---- the look-ups determine an ascending list

none_some : (w : ℕ) → None ≡ Some w → ⊥
none_some w e = cc

some_same : (v w : ℕ) → Some v ≡ Some w → v ≡ w
some_same v w e = cc

abbrev SameLookups : List CodeWord → List CodeWord → Type 0
SameLookups xs ys = (pc : ℕ) → word_at xs pc ≡ word_at ys pc

-- a first entry that the other list can't have
not_first : (x : CodeWord) (xs ys : List CodeWord) → AreFrom (x.address + 1) ys → SameLookups (x ∷ xs) ys → ⊥
not_first x xs ys above same =
    let mine : word_at (x ∷ xs) x.address ≡ Some x.word = word_at-same x xs x.address refl in
    let other : word_at ys x.address ≡ None = word_at_below (x.address + 1) ys x.address (omega arith) above in
    none_some x.word (sym other ∙ sym (same x.address) ∙ mine)

abbrev entry : ℕ → ℕ → CodeWord
entry a w = record { address = a; word = w }

same_entry : (x y : CodeWord) → x.address ≡ y.address → x.word ≡ y.word → x ≡ y
same_entry x y e f = ap (λ (a : ℕ). entry a x.word) e ∙ ap (λ (w : ℕ). entry y.address w) f

-- below the first one's own address a list has no entry
rest_same : (x y : CodeWord) (xs ys : List CodeWord) → x.address ≡ y.address → AreFrom (x.address + 1) xs → AreFrom (y.address + 1) ys → SameLookups (x ∷ xs) (y ∷ ys) → SameLookups xs ys
rest_same x y xs ys e a b same pc =
    elim (cases_eq x.address pc) [
      | inl h ↦ word_at_below (x.address + 1) xs pc (omega arith) a ∙ sym (word_at_below (y.address + 1) ys pc (omega arith) b)
      | inr h ↦
          let other : y.address ≢ pc = λ f. h (e ∙ f) in
          sym (word_at-other x xs pc h) ∙ same pc ∙ word_at-other y ys pc other
    ]

pub same_from_lookups : (xs ys : List CodeWord) → IsAscending xs → IsAscending ys → ((pc : ℕ) → word_at xs pc ≡ word_at ys pc) → xs ≡ ys
same_from_lookups [] [] a b same = refl
same_from_lookups [] (y ∷ ys) a b same = absurd (not_first y ys [] tt (λ pc. sym (same pc)))
same_from_lookups (x ∷ xs) [] a b same = absurd (not_first x xs [] tt same)
same_from_lookups (x ∷ xs) (y ∷ ys) a b same =
    elim (cases_order x.address y.address) [
      | inl e ↦
          let v : x.word ≡ y.word = some_same x.word y.word (sym (word_at-same x xs x.address refl) ∙ same x.address ∙ word_at-same y ys x.address (sym e)) in
          let heads = same_entry x y e v in
          let tails = same_from_lookups xs ys a.1 b.1 (rest_same x y xs ys e a.0 b.0 same) in
          cc
      | inr (inl h) ↦
          let far : x.address + 1 ≤ y.address = omega arith in
          absurd (not_first x xs (y ∷ ys) (far, from-weaker (x.address + 1) (y.address + 1) ys (omega arith) b.0) same)
      | inr (inr h) ↦
          let far : y.address + 1 ≤ x.address = omega arith in
          absurd (not_first y ys (x ∷ xs) (far, from-weaker (y.address + 1) (x.address + 1) xs (omega arith) a.0) (λ pc. sym (same pc)))
    ]

-- ---- the entries in order

with_word-same : (x e : CodeWord) (xs : List CodeWord) → e.address ≡ x.address → with_word (x ∷ xs) e ≡ x ∷ xs
unfolding with_word
with_word-same x e xs h = cond-true (eqb e.address x.address) _ _ (eq-eqb e.address x.address h)

with_word-below : (x e : CodeWord) (xs : List CodeWord) → e.address < x.address → with_word (x ∷ xs) e ≡ e ∷ x ∷ xs
unfolding with_word
with_word-below x e xs h =
    cond-false (eqb e.address x.address) _ _ (ne_eqb e.address x.address (λ q. omega arith)) ∙
    cond-true (ltb e.address x.address) _ _ (lt-ltb e.address x.address h)

with_word-above : (x e : CodeWord) (xs : List CodeWord) → x.address < e.address → with_word (x ∷ xs) e ≡ x ∷ with_word xs e
unfolding with_word
with_word-above x e xs h =
    cond-false (eqb e.address x.address) _ _ (ne_eqb e.address x.address (λ q. omega arith)) ∙
    cond-false (ltb e.address x.address) _ _ (le-ltb e.address x.address (omega arith))

with_word-nil : (e : CodeWord) → with_word [] e ≡ e ∷ []
unfolding with_word
with_word-nil e = refl

from-with_word : (n : ℕ) (es : List CodeWord) (e : CodeWord) → n ≤ e.address → AreFrom n es → AreFrom n (with_word es e)
from-with_word n [] e h a = rw with_word-nil (h, tt)
from-with_word n (x ∷ xs) e h a =
    elim (cases_order e.address x.address) [
      | inl q ↦ rw (with_word-same x e xs q) a
      | inr (inl q) ↦ rw (with_word-below x e xs q) (h, a)
      | inr (inr q) ↦ rw (with_word-above x e xs q) (a.0, from-with_word n xs e h a.1)
    ]

ascending-with_word : (es : List CodeWord) (e : CodeWord) → IsAscending es → IsAscending (with_word es e)
ascending-with_word [] e a = rw with_word-nil (tt, tt)
ascending-with_word (x ∷ xs) e a =
    elim (cases_order e.address x.address) [
      | inl q ↦ rw (with_word-same x e xs q) a
      | inr (inl q) ↦
          let near : e.address + 1 ≤ x.address = omega arith in
          rw (with_word-below x e xs q) ((near, from-weaker (e.address + 1) (x.address + 1) xs (omega arith) a.0), a)
      | inr (inr q) ↦ rw (with_word-above x e xs q) (from-with_word (x.address + 1) xs e (omega arith) a.0, ascending-with_word xs e a.1)
    ]

one_lookup-other : (e : CodeWord) (pc : ℕ) → e.address ≢ pc → word_at (e ∷ []) pc ≡ None
one_lookup-other e pc h = word_at-other e [] pc h ∙ word_at-nil pc

word_at-with_word : (es : List CodeWord) (e : CodeWord) (pc : ℕ) → IsAscending es → word_at (with_word es e) pc ≡ option_or (word_at es pc) (word_at (e ∷ []) pc)
word_at-with_word [] e pc a = rw (with_word-nil, word_at-nil) refl
word_at-with_word (x ∷ xs) e pc a =
    elim (cases_order e.address x.address) [
      | inl q ↦ rw (with_word-same x e xs q) (at_same q)
      | inr (inl q) ↦ rw (with_word-below x e xs q) (at_below q)
      | inr (inr q) ↦ rw (with_word-above x e xs q) (at_above (word_at-with_word xs e pc a.1) q)
    ] where
      at_same : e.address ≡ x.address → word_at (x ∷ xs) pc ≡ option_or (word_at (x ∷ xs) pc) (word_at (e ∷ []) pc)
      at_same q =
          elim (cases_eq x.address pc) [
            | inl h ↦ rw (word_at-same x xs pc h) refl
            | inr h ↦ rw (one_lookup-other e pc (λ f. h (sym q ∙ f))) (sym (option_or-none (word_at (x ∷ xs) pc)))
          ]

      at_below : e.address < x.address → word_at (e ∷ x ∷ xs) pc ≡ option_or (word_at (x ∷ xs) pc) (word_at (e ∷ []) pc)
      at_below q =
          elim (cases_eq e.address pc) [
            | inl h ↦
                let near : x.address ≤ x.address = omega arith in
                let none : word_at (x ∷ xs) pc ≡ None = word_at_below x.address (x ∷ xs) pc (omega arith) (near, from-weaker x.address (x.address + 1) xs (omega arith) a.0) in
                rw (none, word_at-same e (x ∷ xs) pc h, word_at-same e [] pc h) refl
            | inr h ↦ rw (word_at-other e (x ∷ xs) pc h, one_lookup-other e pc h) (sym (option_or-none (word_at (x ∷ xs) pc)))
          ]

      at_above : word_at (with_word xs e) pc ≡ option_or (word_at xs pc) (word_at (e ∷ []) pc) → x.address < e.address → word_at (x ∷ with_word xs e) pc ≡ option_or (word_at (x ∷ xs) pc) (word_at (e ∷ []) pc)
      at_above rest q =
          elim (cases_eq x.address pc) [
            | inl h ↦ rw (word_at-same x (with_word xs e) pc h, word_at-same x xs pc h) refl
            | inr h ↦ rw (word_at-other x (with_word xs e) pc h, word_at-other x xs pc h) rest
          ]

fold-ascending : (acc ws : List CodeWord) → IsAscending acc → IsAscending (fold with_word acc ws)
fold-ascending acc [] a = a
fold-ascending acc (w ∷ ws) a = fold-ascending (with_word acc w) ws (ascending-with_word acc w a)

fold-lookup : (acc ws : List CodeWord) (pc : ℕ) → IsAscending acc → word_at (fold with_word acc ws) pc ≡ option_or (word_at acc pc) (word_at ws pc)
fold-lookup acc [] pc a = rw word_at-nil (sym (option_or-none (word_at acc pc)))
fold-lookup acc (w ∷ ws) pc a =
    let first = fold-lookup (with_word acc w) ws pc (ascending-with_word acc w a) in
    let put = word_at-with_word acc w pc a in
    let split = word_at-append (w ∷ []) ws pc in
    let group = option_or_assoc (word_at acc pc) (word_at (w ∷ []) pc) (word_at ws pc) in
    cc

-- the code is in order of address
pub code_of-ascending : (ws : List CodeWord) → IsAscending (code_of ws)
unfolding code_of
code_of-ascending ws = fold-ascending [] ws tt

-- the code has at an address what the entries have there first
pub word_at-code_of : (ws : List CodeWord) (pc : ℕ) → word_at (code_of ws) pc ≡ word_at ws pc
unfolding code_of
word_at-code_of ws pc = fold-lookup [] ws pc tt ∙ rw word_at-nil refl

-- an ascending list with the look-ups of some entries is their code
pub code_of-unique : (es ws : List CodeWord) → IsAscending es → ((pc : ℕ) → word_at es pc ≡ word_at ws pc) → es ≡ code_of ws
code_of-unique es ws a same = same_from_lookups es (code_of ws) a (code_of-ascending ws) (λ pc. same pc ∙ sym (word_at-code_of ws pc))

-- ---- the rule of the code

from-at : (m : ℕ) (es : List CodeWord) (k : ℕ) (d : CodeWord) → AreFrom m es → k < length es → m ≤ (get_or es k d).address
from-at m [] k d f l = absurd (omega arith)
from-at m (e ∷ es) zero d f l = f.0
from-at m (e ∷ es) (suc k) d f l = from-at m es k d f.1 (omega arith)

ascending-pairs : (es : List CodeWord) → IsAscending es → (i j : ℕ) (d : CodeWord) → i < j → j < length es → (get_or es i d).address + 1 ≤ (get_or es j d).address
ascending-pairs [] a i j d h l = absurd (omega arith)
ascending-pairs (e ∷ es) a zero zero d h l = absurd (omega arith)
ascending-pairs (e ∷ es) a zero (suc j) d h l = from-at (e.address + 1) es j d a.0 (omega arith)
ascending-pairs (e ∷ es) a (suc i) zero d h l = absurd (omega arith)
ascending-pairs (e ∷ es) a (suc i) (suc j) d h l = ascending-pairs es a.1 i j d (omega arith) (omega arith)

-- the code that the definition computes from entries keeps the rule
pub code_of-rule : (ws : List CodeWord) → IsCodeOf ws (code_of ws)
code_of-rule ws = record {
  words = word_at-code_of ws;
  in_order = λ i j d h l.
      let up = ascending-pairs (code_of ws) (code_of-ascending ws) i j d h l in
      omega (arith, up);
}
