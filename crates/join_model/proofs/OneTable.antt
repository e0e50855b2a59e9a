-- Runs in which no seed gave two outcomes have one table.
-- Letters: o is an outcome, k, l and m are lines, s and t are tables.
use Rattle.std.proofs.Common.{◌≡◌, ℕ, ◌≤◌, ◌⊎◌, inl, inr, true, false, ◌||◌, List, [], ◌∷◌, refl, sym, ap, subst, ◌∙◌, arith}
use Rattle.std.specs.Prelude.{nat_eq}
use Rattle.std.specs.List.{AllByRecursion, list_any}
use Rattle.std.specs.Cmp.Lexicographic.{pointwise}
use Rattle.outcome_model.specs.Table.{OutcomeLine, is_outcome, stands_before}
use Rattle.outcome_model.specs.TableLaws.{AreDifferent, AreInOrder}
use Rattle.outcome_model.proofs.TableLaws.{not-before, or-none, own-text, same-text}
use Rattle.join_model.specs.JoinLaws.{HasOneOutcome, IsLineOf, IsTableOf, OneTable, Ran, SeedRun, times_of}

-- a line is one of these
abbrev pub In : OutcomeLine → List OutcomeLine → Type 0
In l [] = ⊥
In l (k ∷ ks) = (k ≡ l) ⊎ In l ks

line-of : (P : OutcomeLine → Type 0) (l : OutcomeLine) (ls : List OutcomeLine) → AllByRecursion P ls → In l ls → P l
line-of P l [] all h = absurd h
line-of P l (k ∷ ks) all (inl same) = subst P same all.0
line-of P l (k ∷ ks) all (inr later) = line-of P l ks all.1 later

-- lines with the same numbers and text are one
same-line : (k l : OutcomeLine) → k.times ≡ l.times → k.seed ≡ l.seed → k.outcome ≡ l.outcome → k ≡ l
same-line k l times seed outcome = rw (times, seed, outcome) refl

-- the line that has an outcome
record Having (o : List ℕ) (ls : List OutcomeLine) : Type 0 where
  line : OutcomeLine
  inside : In line ls
  outcome : line.outcome ≡ o

having : (o : List ℕ) (ls : List OutcomeLine) → list_any (is_outcome o) ls ≡ true → Having o ls
having o [] h = let wrong : ⊥ = cc in absurd wrong
having o (l ∷ ls) h =
    elim (is_outcome o l) as (λ b. is_outcome o l ≡ b → (b || list_any (is_outcome o) ls) ≡ true → Having o (l ∷ ls)) [
      | true ↦ λ here e. record { line = l; inside = inl refl; outcome = same-text l.outcome o here }
      | false ↦ λ elsewhere e. (let found = having o ls e in record { line = found.line; inside = inr found.inside; outcome = found.outcome })
    ] refl h

module _ (runs : List SeedRun) where
  -- two lines of one outcome are one
  one-line : (k l : OutcomeLine) → IsLineOf runs k → IsLineOf runs l → k.outcome ≡ l.outcome → k ≡ l
  one-line k l a b same =
      let up : k.seed ≤ l.seed = a.smallest l.seed (subst (λ o. Ran runs l.seed o) (sym same) b.seed) in
      let down : l.seed ≤ k.seed = b.smallest k.seed (subst (λ o. Ran runs k.seed o) same a.seed) in
      same-line k l (a.times ∙ ap (times_of runs) same ∙ sym b.times) (omega (arith, up, down)) same

  -- a line of the one table is one of the other
  in-other : (s t : List OutcomeLine) → IsTableOf runs s → IsTableOf runs t → (l : OutcomeLine) → In l s → In l t
  in-other s t a b l there =
      let is : IsLineOf runs l = line-of (IsLineOf runs) l s a.lines there in
      let other = having l.outcome t (b.listed l.seed l.outcome is.seed) in
      subst (λ k. In k t) (one-line other.line l (line-of (IsLineOf runs) other.line t b.lines other.inside) is other.outcome) other.inside

  module _ (one : HasOneOutcome runs) where
    -- of two lines neither of which is to stand before the other, both are the same
    level : (k l : OutcomeLine) → IsLineOf runs k → IsLineOf runs l → stands_before k l ≡ false → stands_before l k ≡ false → k ≡ l
    level k l a b first second =
        let x = not-before k l first in
        let y = not-before l k second in
        let times : k.times ≡ l.times = omega (arith, x.fewer, y.fewer) in
        let low = x.later times in
        let high = y.later (sym times) in
        let seed : k.seed ≡ l.seed = omega (arith, low, high) in
        same-line k l times seed (one l.seed k.outcome l.outcome (subst (λ n. Ran runs n k.outcome) seed a.seed) b.seed)

    abbrev Lines : List OutcomeLine → Type 0
    Lines ls = AllByRecursion (IsLineOf runs) ls

    -- the first lines of tables that have the same lines
    first-same : (k l : OutcomeLine) (ks ls : List OutcomeLine) → Lines (k ∷ ks) → Lines (l ∷ ls) → AreInOrder (k ∷ ks) → AreInOrder (l ∷ ls) → In k (l ∷ ls) → In l (k ∷ ks) → k ≡ l
    first-same k l ks ls a b p q (inl same) there = sym same
    first-same k l ks ls a b p q (inr later) (inl same) = same
    first-same k l ks ls a b p q (inr later) (inr behind) =
        level k l a.0 b.0 (line-of (λ m. stands_before m l ≡ false) k ls q.0 later) (line-of (λ m. stands_before m k ≡ false) l ks p.0 behind)

    -- no later line is the first one
    not-twice : (l m : OutcomeLine) (ls : List OutcomeLine) → list_any (is_outcome l.outcome) ls ≡ false → In m ls → l ≡ m → ⊥
    not-twice l m [] none there same = there
    not-twice l m (k ∷ ks) none (inl here) same =
        let parts = or-none (is_outcome l.outcome k) (list_any (is_outcome l.outcome) ks) none in
        let own : is_outcome l.outcome k ≡ true = subst (λ (j : OutcomeLine). pointwise nat_eq j.outcome l.outcome ≡ true) (same ∙ sym here) (own-text l.outcome) in
        cc
    not-twice l m (k ∷ ks) none (inr later) same = not-twice l m ks (or-none (is_outcome l.outcome k) (list_any (is_outcome l.outcome) ks) none).1 later same

    same-lines : (s t : List OutcomeLine) → Lines s → Lines t → AreInOrder s → AreInOrder t → AreDifferent s → AreDifferent t → ((l : OutcomeLine) → In l s → In l t) → ((l : OutcomeLine) → In l t → In l s) → s ≡ t
    same-lines [] [] a b p q u v to from = refl
    same-lines [] (l ∷ ls) a b p q u v to from = absurd (from l (inl refl))
    same-lines (k ∷ ks) [] a b p q u v to from = absurd (to k (inl refl))
    same-lines (k ∷ ks) (l ∷ ls) a b p q u v to from =
        let first : k ≡ l = first-same k l ks ls a b p q (to k (inl refl)) (from l (inl refl)) in
        let rest : ks ≡ ls = same-lines ks ls a.1 b.1 p.1 q.1 u.1 v.1
        (λ m there. elim (to m (inr there)) [ inl here ↦ absurd (not-twice k m ks u.0 there (first ∙ here)) | inr later ↦ later ])
        (λ m there. elim (from m (inr there)) [ inl here ↦ absurd (not-twice l m ls v.0 there (sym first ∙ here)) | inr later ↦ later ]) in
        rw (first, rest) refl

pub one-table : OneTable
one-table runs one s t a b = same-lines runs one s t a.lines b.lines a.ordered b.ordered a.different b.different (in-other runs s t a b) (in-other runs t s b a)
