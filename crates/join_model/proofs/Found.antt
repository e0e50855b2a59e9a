-- The line of an outcome among lines, and how it changes where more lines come.
-- Letters: o and p are outcomes, k and l are lines, t is a table.
use Rattle.std.proofs.Common.{◌≡◌, ℕ, Bool, true, false, cond, ◌||◌, List, [], ◌∷◌, Option, Some, None, refl, sym, ap, subst, ◌∙◌}
use Rattle.std.specs.Prelude.{nat_eq}
use Rattle.std.specs.List.{list_any}
use Rattle.std.specs.Cmp.Lexicographic.{pointwise}
use Rattle.outcome_model.specs.Table.{OutcomeLine, is_outcome}
use Rattle.outcome_model.specs.TableLaws.{AreDifferent}
use Rattle.outcome_model.proofs.TableLaws.{none-or, or-none, or-past, or-twice, other-text, same-text}
use Rattle.join_model.specs.Joined.{with_line, with_more, with_table}

-- the line of an outcome, if it has one
unfoldable pub found : List ℕ → List OutcomeLine → Option OutcomeLine
found o [] = None
found o (l ∷ ls) = cond (is_outcome o l) (Some l) (found o ls)

-- the two lines of an outcome as one
abbrev pub merged : Option OutcomeLine → Option OutcomeLine → Option OutcomeLine
merged None b = b
merged (Some k) None = Some k
merged (Some k) (Some l) = Some (with_more l k)

-- ---- one line more

same-merge : (b : Bool) (k l : OutcomeLine) (rest : Option OutcomeLine) → cond b (Some (with_more l k)) rest ≡ cond b (merged (cond b (Some k) rest) (Some l)) (cond b (Some k) rest)
same-merge true k l rest = refl
same-merge false k l rest = refl

-- an outcome that isn't that of the line
unlike : (o : List ℕ) (k l : OutcomeLine) → is_outcome o k ≡ true → is_outcome l.outcome k ≡ false → is_outcome o l ≡ false
unlike o k l here other = subst (λ p. pointwise nat_eq l.outcome p ≡ false) (same-text k.outcome o here) (other-text k.outcome l.outcome other)

pub found-line : (o : List ℕ) (l : OutcomeLine) (ls : List OutcomeLine) → found o (with_line l ls) ≡ cond (is_outcome o l) (merged (found o ls) (Some l)) (found o ls)
unfolding found with_line
found-line o l [] = refl
found-line o l (k ∷ ks) =
    elim (is_outcome l.outcome k) as (λ b. is_outcome l.outcome k ≡ b → found o (cond b (with_more l k ∷ ks) (k ∷ with_line l ks)) ≡ cond (is_outcome o l) (merged (cond (is_outcome o k) (Some k) (found o ks)) (Some l)) (cond (is_outcome o k) (Some k) (found o ks))) [
      | true ↦ λ own.
          let alike : is_outcome o k ≡ is_outcome o l = ap (λ p. pointwise nat_eq p o) (same-text k.outcome l.outcome own) in
          same-merge (is_outcome o k) k l (found o ks)
          ∙ ap (λ b. cond b (merged (cond (is_outcome o k) (Some k) (found o ks)) (Some l)) (cond (is_outcome o k) (Some k) (found o ks))) alike
      | false ↦ λ other.
          elim (is_outcome o k) as (λ b. is_outcome o k ≡ b → cond b (Some k) (found o (with_line l ks)) ≡ cond (is_outcome o l) (merged (cond b (Some k) (found o ks)) (Some l)) (cond b (Some k) (found o ks))) [
            | true ↦ λ here. ap (λ b. cond b (Some (with_more l k)) (Some k)) (sym (unlike o k l here other))
            | false ↦ λ elsewhere. found-line o l ks
          ] refl
    ] refl

-- ---- a table more

pub none-found : (o : List ℕ) (ls : List OutcomeLine) → list_any (is_outcome o) ls ≡ false → found o ls ≡ None
unfolding found
none-found o [] h = refl
none-found o (l ∷ ls) h =
    let parts = or-none (is_outcome o l) (list_any (is_outcome o) ls) h in
    ap (λ b. cond b (Some l) (found o ls)) parts.0 ∙ none-found o ls parts.1

merged-none : (a : Option OutcomeLine) → merged a None ≡ a
merged-none None = refl
merged-none (Some k) = refl

pub found-table : (o : List ℕ) (t ls : List OutcomeLine) → AreDifferent t → found o (with_table t ls) ≡ merged (found o ls) (found o t)
unfolding found with_table
found-table o [] ls different = sym (merged-none (found o ls))
found-table o (l ∷ t) ls different =
    found-table o t (with_line l ls) different.1
    ∙ ap (λ a. merged a (found o t)) (found-line o l ls)
    ∙ elim (is_outcome o l) as (λ b. is_outcome o l ≡ b → merged (cond b (merged (found o ls) (Some l)) (found o ls)) (found o t) ≡ merged (found o ls) (cond b (Some l) (found o t))) [
      | true ↦ λ here.
          let none : found o t ≡ None = none-found o t (subst (λ p. list_any (is_outcome p) t ≡ false) (same-text l.outcome o here) different.0) in
          ap (λ a. merged (merged (found o ls) (Some l)) a) none ∙ merged-none (merged (found o ls) (Some l))
      | false ↦ λ elsewhere. refl
    ] refl

-- ---- that lines differ

line-any : (p : List ℕ) (l : OutcomeLine) (ls : List OutcomeLine) → list_any (is_outcome p) (with_line l ls) ≡ (is_outcome p l || list_any (is_outcome p) ls)
unfolding with_line
line-any p l [] = refl
line-any p l (k ∷ ks) =
    elim (is_outcome l.outcome k) as (λ b. is_outcome l.outcome k ≡ b → list_any (is_outcome p) (cond b (with_more l k ∷ ks) (k ∷ with_line l ks)) ≡ (is_outcome p l || (is_outcome p k || list_any (is_outcome p) ks))) [
      | true ↦ λ own.
          let alike : is_outcome p k ≡ is_outcome p l = ap (λ q. pointwise nat_eq q p) (same-text k.outcome l.outcome own) in
          or-twice (is_outcome p k) (list_any (is_outcome p) ks) ∙ ap (λ b. b || (is_outcome p k || list_any (is_outcome p) ks)) alike
      | false ↦ λ other. ap (λ b. is_outcome p k || b) (line-any p l ks) ∙ or-past (is_outcome p l) (is_outcome p k) (list_any (is_outcome p) ks)
    ] refl

line-different : (l : OutcomeLine) (ls : List OutcomeLine) → AreDifferent ls → AreDifferent (with_line l ls)
unfolding with_line
line-different l [] different = (refl, tt)
line-different l (k ∷ ks) different =
    elim (is_outcome l.outcome k) as (λ b. is_outcome l.outcome k ≡ b → AreDifferent (cond b (with_more l k ∷ ks) (k ∷ with_line l ks))) [
      | true ↦ λ own. different
      | false ↦ λ other. (line-any k.outcome l ks ∙ none-or (is_outcome k.outcome l) (list_any (is_outcome k.outcome) ks) (other-text k.outcome l.outcome other) different.0, line-different l ks different.1)
    ] refl

pub table-different : (t ls : List OutcomeLine) → AreDifferent ls → AreDifferent (with_table t ls)
unfolding with_table
table-different [] ls different = different
table-different (l ∷ t) ls different = table-different t (with_line l ls) (line-different l ls different)
