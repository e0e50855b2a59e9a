-- Stamps are in order just where each may stand behind the one before it: the order of their numbers is transitive, so the last
-- one so far is the greatest.
-- Letters: a, b and d are stamps, e and f entries of a down list, l the last stamp so far.
use Rattle.std.proofs.Common.{◌≡◌, ℕ, zero, suc, ◌+◌, ◌-◌, Bool, true, false, true≢false, not, ◌&&◌, ◌⊎◌, inl, inr, List, [], ◌∷◌, drop, Option, Some, None, refl, sym, ap, ◌∙◌, length, ◌<◌, ◌≤◌, arith, if◌then◌else◌}
use Rattle.std.specs.Prelude.{slice_get}
use Rattle.std.proofs.lemmas.Bool.{and_parts}
use Rattle.std.proofs.lemmas.List.{drop_all}
use Rattle.std.specs.Cmp.Derive.{both_true}
use Rattle.directory.specs.DdmTypes.declared.answers.TxKind.{TxKind}
use Rattle.directory.specs.DdmTypes.declared.keys.Stamp.{Stamp}
use Rattle.directory.specs.DdmTypes.Keys.{stamp_numbers, numbers_less}
use Rattle.directory.proofs.DdmTypes.KeyOrder.{numbers_less-transitive, numbers_less-total}
use Rattle.directory.specs.TreeModel.State.Values.{DownValue, DirValue}
use Rattle.directory.specs.TreeRules.Statements.{test_of, each, each_pair}
use Rattle.directory.specs.TreeRules.Order.Time.{comes_later}
use Rattle.directory.specs.Stamps.{stamp_before, stands_between, may_follow, may_come, may_come_all, stamps_fit}

-- ---- lists of numbers, where one isn't less than another

most_transitive : (a b c : List ℕ) → numbers_less b a ≡ false → numbers_less c b ≡ false → numbers_less c a ≡ false
most_transitive a b c h k = go (numbers_less c a) refl (numbers_less-total a b) where
  go : (t : Bool) → numbers_less c a ≡ t → (a ≡ b) ⊎ ((numbers_less a b ≡ true) ⊎ (numbers_less b a ≡ true)) → t ≡ false
  go false e order = refl
  go true e (inl same) = sym e ∙ ap (numbers_less c) same ∙ k
  go true e (inr (inl less)) = sym (numbers_less-transitive c a b e less) ∙ k
  go true e (inr (inr less)) = sym less ∙ h

most_less : (a b c : List ℕ) → numbers_less b a ≡ false → numbers_less b c ≡ true → numbers_less a c ≡ true
most_less a b c h k = go (numbers_less-total a b) where
  go : (a ≡ b) ⊎ ((numbers_less a b ≡ true) ⊎ (numbers_less b a ≡ true)) → numbers_less a c ≡ true
  go (inl same) = ap (λ x. numbers_less x c) same ∙ k
  go (inr (inl less)) = numbers_less-transitive a b c less k
  go (inr (inr less)) = absurd (true≢false (sym less ∙ h))

-- ---- one entry behind a stamp

not-true : (b : Bool) → not b ≡ true → b ≡ false
not-true true h = absurd (true≢false (sym h))
not-true false h = refl

-- where the first is more, the parts may be told apart or not
mixed : (p q a b r c : Bool) → (q ≡ true → b ≡ true → r ≡ true) → (p && q) && (a && (b && c)) ≡ (p && a) && ((q && r) && (b && c))
mixed false q a b r c more = refl
mixed true false true b r c more = refl
mixed true false false b r c more = refl
mixed true true false b r c more = refl
mixed true true true false r c more = both-false r
  where
    both-false : (r : Bool) → false ≡ r && false
    both-false true = refl
    both-false false = refl
mixed true true true true r c more = rw (more refl refl) refl

module _ (above : ℕ) (taken present : Stamp) where
  abbrev behind : Stamp → DownValue → Bool
  behind l e = not (stamp_before above e.stamp l) && (if comes_later e.kind then stamp_before above l e.stamp else true)

  abbrev between : DownValue → Bool
  between e = not (stamp_before above e.stamp taken) && not (stamp_before above present e.stamp)

  -- each of them stands behind this stamp
  abbrev all_behind : Stamp → List DownValue → Bool
  all_behind l [] = true
  all_behind l (e ∷ es) = behind l e && all_behind l es

  behind-further : (l d : Stamp) (e : DownValue) → not (stamp_before above d l) ≡ true → behind d e ≡ true → behind l e ≡ true
  behind-further l d e h k =
      let low : stamp_before above d l ≡ false = not-true _ h in
      let parts = and_parts (not (stamp_before above e.stamp d)) (if comes_later e.kind then stamp_before above d e.stamp else true) k in
      let falls_not : stamp_before above e.stamp l ≡ false = most_transitive (stamp_numbers above l) (stamp_numbers above d) (stamp_numbers above e.stamp) low (not-true _ parts.0) in
      both_true (ap not falls_not) (go (comes_later e.kind) low parts.1)
    where
      go : (later : Bool) → stamp_before above d l ≡ false → (if later then stamp_before above d e.stamp else true) ≡ true → (if later then stamp_before above l e.stamp else true) ≡ true
      go true low k = most_less (stamp_numbers above l) (stamp_numbers above d) (stamp_numbers above e.stamp) low k
      go false low k = refl

  all_behind-further : (l d : Stamp) (es : List DownValue) → not (stamp_before above d l) ≡ true → all_behind d es ≡ true → all_behind l es ≡ true
  all_behind-further l d [] h k = refl
  all_behind-further l d (e ∷ es) h k =
      let parts = and_parts (behind d e) (all_behind d es) k in
      both_true (behind-further l d e h parts.0) (all_behind-further l d es h parts.1)

  -- ---- the list

  abbrev all_between : List DownValue → Bool
  all_between es = test_of (each (stands_between above taken present) es)

  abbrev pairs : List DownValue → Bool
  pairs es = test_of (each_pair (may_follow above) es)

  follows-behind : (e : DownValue) (es : List DownValue) → test_of (each (may_follow above e) es) ≡ all_behind e.stamp es
  follows-behind e [] = refl
  follows-behind e (f ∷ es) = ap (λ rest. behind e.stamp f && rest) (follows-behind e es)

  come-behind : (l : Stamp) (es : List DownValue) → may_come_all above taken present (Some l) es ≡ all_between es && (all_behind l es && pairs es)
  come-behind l [] = refl
  come-behind l (e ∷ es) =
      let more : behind l e ≡ true → all_behind e.stamp es ≡ true → all_behind l es ≡ true = λ h k. all_behind-further l e.stamp es (and_parts (not (stamp_before above e.stamp l)) _ h).0 k in
      ap (λ rest. (between e && behind l e) && rest) (come-behind e.stamp es) ∙ mixed (between e) (behind l e) (all_between es) (all_behind e.stamp es) (all_behind l es) (pairs es) more ∙ ap (λ first. (between e && all_between es) && ((behind l e && all_behind l es) && (first && pairs es))) (sym (follows-behind e es))

  and-assoc : (a b c : Bool) → a && (b && c) ≡ (a && b) && c
  and-assoc true b c = refl
  and-assoc false b c = refl

  pub come-in_order : (es : List DownValue) → may_come_all above taken present None es ≡ all_between es && pairs es
  come-in_order [] = refl
  come-in_order (e ∷ es) = ap (λ rest. between e && rest) (come-behind e.stamp es ∙ ap (λ first. all_between es && (first && pairs es)) (sym (follows-behind e es))) ∙ and-assoc (between e) (all_between es) (pairs (e ∷ es))

  -- ---- while a loop goes over the list

  pub come-next : (last : Option Stamp) (es : List DownValue) (i : ℕ) (e : DownValue) → slice_get es i ≡ Some e → may_come_all above taken present last (drop i es) ≡ may_come above taken present last e.kind e.stamp && may_come_all above taken present (Some e.stamp) (drop (i + 1) es)
  come-next last [] i e h = cc
  come-next last (f ∷ es) zero e h =
      let same : f ≡ e = cc in
      rw same refl
  come-next last (f ∷ es) (suc i) e h =
      let at : suc (i + 1) ≡ suc i + 1 = omega arith in
      come-next last es i e h ∙ ap (λ n. may_come above taken present last e.kind e.stamp && may_come_all above taken present (Some e.stamp) (drop n (f ∷ es))) at

  module _ (last : Option Stamp) (es : List DownValue) (i : ℕ) (e : DownValue) (there : slice_get es i ≡ Some e) (kind : TxKind) (stamp : Stamp) (same_kind : kind ≡ e.kind) (same_stamp : stamp ≡ e.stamp) (all : Bool) (so_far : may_come_all above taken present last (drop i es) ≡ all) where
    told : may_come above taken present last kind stamp && may_come_all above taken present (Some stamp) (drop (i + 1) es) ≡ all
    told = rw (same_kind, same_stamp) (sym (come-next last es i e there) ∙ so_far)

    pub come-ends : may_come above taken present last kind stamp ≡ false → false ≡ all
    come-ends h = ap (λ b. b && may_come_all above taken present (Some stamp) (drop (i + 1) es)) (sym h) ∙ told

    pub come-goes_on : may_come above taken present last kind stamp ≡ true → may_come_all above taken present (Some stamp) (drop (i + 1) es) ≡ all
    come-goes_on h = ap (λ b. b && may_come_all above taken present (Some stamp) (drop (i + 1) es)) (sym h) ∙ told

  pub come-past : (last : Option Stamp) (es : List DownValue) (i : ℕ) (all : Bool) → length es ≤ i → may_come_all above taken present last (drop i es) ≡ all → true ≡ all
  come-past last es i all past so_far = ap (may_come_all above taken present last) (sym (drop_all i es past)) ∙ so_far

pub not-there : (es : List DownValue) (i : ℕ) → i < length es → slice_get es i ≡ None → ⊥
not-there [] i l h = omega (arith, l)
not-there (e ∷ es) zero l h = cc
not-there (e ∷ es) (suc i) l h = not-there es i (omega (arith, l)) h

stamps_fit-is : (present : Stamp) (d : DirValue) → not (stamp_before (d.level - 1) present d.epoch) && may_come_all (d.level - 1) d.epoch present None d.down ≡ stamps_fit present d
unfolding stamps_fit
stamps_fit-is present d = ap (λ rest. not (stamp_before (d.level - 1) present d.epoch) && rest) (come-in_order (d.level - 1) d.epoch present d.down)

pub fits-behind : (present : Stamp) (d : DirValue) → stamp_before (d.level - 1) present d.epoch ≡ false → may_come_all (d.level - 1) d.epoch present None d.down ≡ stamps_fit present d
fits-behind present d h = ap (λ b. not b && may_come_all (d.level - 1) d.epoch present None d.down) (sym h) ∙ stamps_fit-is present d

pub fits-not : (present : Stamp) (d : DirValue) → stamp_before (d.level - 1) present d.epoch ≡ true → false ≡ stamps_fit present d
fits-not present d h = ap (λ b. not b && may_come_all (d.level - 1) d.epoch present None d.down) (sym h) ∙ stamps_fit-is present d
