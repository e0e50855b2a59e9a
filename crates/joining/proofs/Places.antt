-- A line more at the place of its outcome.
-- Letters: o is an outcome, k and l are lines.
use Rattle.std.proofs.Common.{◌≡◌, ◌∙◌, ap, sym, subst, refl, ℕ, zero, suc, ◌+◌, ◌<◌, ◌≤◌, Bool, true, false, not, cond, ◌||◌, List, [], ◌∷◌, ◌++◌, length, map, get_or, set, take, Some, None, arith}
use Rattle.std.specs.Prelude.{nat_eq, nat_lt, position, sum_by}
use Rattle.std.proofs.lemmas.Bool.{ltb-false, ltb-true}
use Rattle.std.specs.List.{list_any, position_or_len}
use Rattle.std.specs.Cmp.Lexicographic.{pointwise}
use Rattle.std.proofs.lemmas.List.Sums.{sum_by-cons}
use Rattle.joining.specs.OutcomeModel.Table.{OutcomeLine, is_outcome}
use Rattle.joining.specs.Said.{times}
use Rattle.join_model.proofs.OutcomeModel.TableLaws.{other-text, own-text, same-text}
use Rattle.join_model.specs.Joined.{with_line, with_more, with_table}

abbrev pub outcome_of : OutcomeLine → List ℕ
outcome_of l = l.outcome

-- ---- places among outcomes

turned : (a b : List ℕ) → pointwise nat_eq a b ≡ pointwise nat_eq b a
turned a b =
    elim (pointwise nat_eq a b) as (λ d. pointwise nat_eq a b ≡ d → d ≡ pointwise nat_eq b a) [
      | true ↦ λ same. sym (subst (λ c. pointwise nat_eq c a ≡ true) (same-text a b same) (own-text a))
      | false ↦ λ other. sym (other-text a b other)
    ] refl

-- the place of an outcome among lists that are their lines' outcomes
module _ {X : Type 0} (text : X → List ℕ) where
  pub same-length : (keys : List X) (ls : List OutcomeLine) → map text keys ≡ map outcome_of ls → length keys ≡ length ls
  same-length [] [] is = refl
  same-length [] (l ∷ ls) is = absurd (cc is)
  same-length (k ∷ ks) [] is = absurd (cc is)
  same-length (k ∷ ks) (l ∷ ls) is = ap suc (same-length ks ls (cc is))

  pub same-place : (o : List ℕ) (keys : List X) (ls : List OutcomeLine) → map text keys ≡ map outcome_of ls → position_or_len (λ k. pointwise nat_eq o (text k)) keys ≡ position_or_len (is_outcome o) ls
  same-place o [] [] is = refl
  same-place o [] (l ∷ ls) is = absurd (cc is)
  same-place o (k ∷ ks) [] is = absurd (cc is)
  same-place o (k ∷ ks) (l ∷ ls) is =
      let head : text k ≡ l.outcome = cc is in
      let test : pointwise nat_eq o (text k) ≡ is_outcome o l = ap (pointwise nat_eq o) head ∙ turned o l.outcome in
      ap (λ b. cond (not b) (1 + position_or_len (λ j. pointwise nat_eq o (text j)) ks) 0) test
      ∙ ap (λ n. cond (not (is_outcome o l)) (1 + n) 0) (same-place o ks ls (cc is))

-- what `position` says of the place
pub place-found : {X : Type 0} (p : X → Bool) (xs : List X) (i : ℕ) → Some i ≡ position p xs → (position_or_len p xs ≡ i) × (i < length xs)
place-found p xs i is =
    elim (nat_lt (position_or_len p xs) (length xs)) as (λ b. nat_lt (position_or_len p xs) (length xs) ≡ b → Some i ≡ cond b (Some (position_or_len p xs)) None → (position_or_len p xs ≡ i) × (i < length xs)) [
      | true ↦ λ inside e. (let same : i ≡ position_or_len p xs = cc e in (sym same, (let below = ltb-true (position_or_len p xs) (length xs) inside in omega (arith, same, below))))
      | false ↦ λ past e. absurd (cc e)
    ] refl is

pub place-none : {X : Type 0} (p : X → Bool) (xs : List X) → None ≡ position p xs → length xs ≤ position_or_len p xs
place-none p xs is =
    elim (nat_lt (position_or_len p xs) (length xs)) as (λ b. nat_lt (position_or_len p xs) (length xs) ≡ b → None ≡ cond b (Some (position_or_len p xs)) None → length xs ≤ position_or_len p xs) [
      | true ↦ λ inside e. absurd (cc e)
      | false ↦ λ past e. ltb-false (position_or_len p xs) (length xs) past
    ] refl is

-- where no element passes, none is found
pub none-any : {X : Type 0} (p : X → Bool) (xs : List X) → length xs ≤ position_or_len p xs → list_any p xs ≡ false
none-any p [] past = refl
none-any p (x ∷ xs) past =
    elim (p x) as (λ b. suc (length xs) ≤ cond (not b) (1 + position_or_len p xs) 0 → (b || list_any p xs) ≡ false) [
      | true ↦ λ h. absurd (omega (arith, h))
      | false ↦ λ h. none-any p xs (omega (arith, h))
    ] past

-- ---- a line more

pub line-found : (l : OutcomeLine) (ls : List OutcomeLine) (d : OutcomeLine) → position_or_len (is_outcome l.outcome) ls < length ls
    → with_line l ls ≡ set ls (position_or_len (is_outcome l.outcome) ls) (with_more l (get_or ls (position_or_len (is_outcome l.outcome) ls) d))
unfolding with_line
line-found l [] d found = absurd (omega (arith, found))
line-found l (k ∷ ks) d found =
    let at : ℕ = position_or_len (is_outcome l.outcome) ks in
    elim (is_outcome l.outcome k) as (λ b. cond (not b) (1 + at) 0 < suc (length ks) → cond b (with_more l k ∷ ks) (k ∷ with_line l ks) ≡ set (k ∷ ks) (cond (not b) (1 + at) 0) (with_more l (get_or (k ∷ ks) (cond (not b) (1 + at) 0) d))) [
      | true ↦ λ within. refl
      | false ↦ λ within. let next : 1 + at ≡ suc at = omega arith in rw next (ap (λ xs. k ∷ xs) (line-found l ks d (omega (arith, within))))
    ] found

pub line-new : (l : OutcomeLine) (ls : List OutcomeLine) → length ls ≤ position_or_len (is_outcome l.outcome) ls → with_line l ls ≡ ls ++ l ∷ []
unfolding with_line
line-new l [] past = refl
line-new l (k ∷ ks) past =
    let at : ℕ = position_or_len (is_outcome l.outcome) ks in
    elim (is_outcome l.outcome k) as (λ b. suc (length ks) ≤ cond (not b) (1 + at) 0 → cond b (with_more l k ∷ ks) (k ∷ with_line l ks) ≡ k ∷ (ks ++ l ∷ [])) [
      | true ↦ λ behind. absurd (omega (arith, behind))
      | false ↦ λ behind. ap (λ xs. k ∷ xs) (line-new l ks (omega (arith, behind)))
    ] past

-- ---- runs

pub times-within : (ls : List OutcomeLine) (i : ℕ) (d : OutcomeLine) → i < length ls → (get_or ls i d).times ≤ sum_by times ls
times-within [] i d inside = absurd (omega (arith, inside))
times-within (l ∷ ls) zero d inside = (let total = sum_by-cons times l ls in omega (arith, total))
times-within (l ∷ ls) (suc i) d inside = (let total = sum_by-cons times l ls in let rest = times-within ls i d (omega (arith, inside)) in omega (arith, total, rest))

pub line-times : (l : OutcomeLine) (ls : List OutcomeLine) → sum_by times (with_line l ls) ≡ sum_by times ls + l.times
unfolding with_line
line-times l [] = (let one = sum_by-cons times l [] in omega (arith, one))
line-times l (k ∷ ks) =
    elim (is_outcome l.outcome k) as (λ b. sum_by times (cond b (with_more l k ∷ ks) (k ∷ with_line l ks)) ≡ sum_by times (k ∷ ks) + l.times) [
      | true ↦ (let old = sum_by-cons times k ks in let new = sum_by-cons times (with_more l k) ks in omega (arith, old, new))
      | false ↦ (let old = sum_by-cons times k ks in let new = sum_by-cons times k (with_line l ks) in let rest = line-times l ks in omega (arith, old, new, rest))
    ]

pub table-times : (t ls : List OutcomeLine) → sum_by times (with_table t ls) ≡ sum_by times ls + sum_by times t
unfolding with_table
table-times [] ls = omega arith
table-times (l ∷ t) ls = (let one = line-times l ls in let total = sum_by-cons times l t in let rest = table-times t (with_line l ls) in omega (arith, one, total, rest))

-- ---- outcomes stay

pub outcomes-set : (l : OutcomeLine) (ls : List OutcomeLine) (i : ℕ) (d : OutcomeLine) → map outcome_of (set ls i (with_more l (get_or ls i d))) ≡ map outcome_of ls
outcomes-set l [] i d = refl
outcomes-set l (k ∷ ks) zero d = refl
outcomes-set l (k ∷ ks) (suc i) d = ap (λ os. k.outcome ∷ os) (outcomes-set l ks i d)

-- ---- the first lines of a table

pub table-push : (t : List OutcomeLine) (l : OutcomeLine) (ls : List OutcomeLine) → with_table (t ++ l ∷ []) ls ≡ with_line l (with_table t ls)
unfolding with_table
table-push [] l ls = refl
table-push (k ∷ t) l ls = table-push t l (with_line k ls)

pub take-push : (t : List OutcomeLine) (i : ℕ) (d : OutcomeLine) → i < length t → take (i + 1) t ≡ take i t ++ get_or t i d ∷ []
take-push [] i d inside = absurd (omega (arith, inside))
take-push (l ∷ t) zero d inside = refl
take-push (l ∷ t) (suc i) d inside = let next : suc i + 1 ≡ suc (i + 1) = omega arith in rw next (ap (λ xs. l ∷ xs) (take-push t i d (omega (arith, inside))))

-- a line more of those that come
pub table-more : (t ls : List OutcomeLine) (i : ℕ) (d : OutcomeLine) → i < length t → with_table (take (i + 1) t) ls ≡ with_line (get_or t i d) (with_table (take i t) ls)
table-more t ls i d inside = ap (λ xs. with_table xs ls) (take-push t i d inside) ∙ table-push (take i t) (get_or t i d) ls

times-take : (t : List OutcomeLine) (i : ℕ) → sum_by times (take i t) ≤ sum_by times t
times-take t zero = omega arith
times-take [] (suc i) = omega arith
times-take (l ∷ t) (suc i) = (let whole = sum_by-cons times l t in let part = sum_by-cons times l (take i t) in let rest = times-take t i in omega (arith, whole, part, rest))

-- the runs of the first lines and of the next one
pub few-more : (t ls : List OutcomeLine) (i : ℕ) (d : OutcomeLine) → i < length t → sum_by times (with_table (take i t) ls) + (get_or t i d).times ≤ sum_by times ls + sum_by times t
few-more t ls i d inside =
    let first = table-times (take i t) ls in
    let next = line-times (get_or t i d) (with_table (take i t) ls) in
    let whole = table-times (take (i + 1) t) ls in
    let more : sum_by times (with_table (take (i + 1) t) ls) ≡ sum_by times (with_line (get_or t i d) (with_table (take i t) ls)) = ap (sum_by times) (table-more t ls i d inside) in
    let part = times-take t (i + 1) in
    omega (arith, first, next, whole, more, part)

pub no-lines : (t ls : List OutcomeLine) → with_table (take 0 t) ls ≡ ls
unfolding with_table
no-lines t ls = refl
