-- Keys that were seen, as a set of them: whether one of an operation before has this operation's key.
-- Letters: a and b are keys, o and p operations.
use Rattle.std.proofs.Common.{◌≡◌, ℕ, zero, suc, ◌+◌, ◌-◌, ◌<◌, ◌≤◌, Bool, true, false, not, ◌&&◌, ◌||◌, nat_eq, nat_lt, cond, List, [], ◌∷◌, length, drop, Some, None, option_map, refl, sym, ap, ◌∙◌, arith, Ordering, nat_cmp, get_or, true≢false, if◌then◌else◌}
use Rattle.std.specs.Prelude.{slice_get}
use Rattle.std.specs.List.{list_any, range_with_len, find}
use Rattle.std.specs.Ordering.{ordering_then, eq_by_cmp, is_eq}
use Rattle.std.specs.BTreeSet.{BTreeSet, contains}
use Rattle.std.proofs.lemmas.Bool.Decides.{nat_tests}
use Rattle.std.proofs.lemmas.List.{drop_all}
use Rattle.ddm_tree.specs.DdmTypes.declared.keys.Key.{Key}
use Rattle.ddm_tree.specs.DdmTypes.declared.operations.Op.{Op}
use Rattle.ddm_tree.specs.DdmTypes.Keys.{key_less}
use Rattle.ddm_tree.specs.TreeModel.State.Lists.{first_some}
use Rattle.ddm_tree.specs.TreeModel.State.Values.{MachineValue}
use Rattle.ddm_tree.specs.StateReading.declared.StateRefusal.TheVariants.{BrokenKey, BrokenStamp}
use Rattle.state_judging.specs.Judged.{is_key_of_leaf, same_key, broken_key}

-- the order of keys as an answer
abbrev pub key_cmp : Key → Key → Ordering
key_cmp a b =
    ordering_then (nat_cmp a.s0 b.s0) (ordering_then (nat_cmp a.c0 b.c0) (ordering_then (nat_cmp a.s1 b.s1) (ordering_then (nat_cmp a.c1 b.c1)
    (ordering_then (nat_cmp a.s2 b.s2) (ordering_then (nat_cmp a.c2 b.c2) (ordering_then (nat_cmp a.s3 b.s3) (ordering_then (nat_cmp a.c3 b.c3) (nat_cmp a.i b.i))))))))

then_same : (m n : ℕ) (o : Ordering) (s t : Bool) → is_eq o ≡ not (s || t) → is_eq (ordering_then (nat_cmp m n) o) ≡ not ((nat_lt m n || (nat_eq m n && s)) || (nat_lt n m || (nat_eq n m && t)))
then_same m n o s t h = grind (arith, nat_tests)

last_same : (m n : ℕ) → is_eq (nat_cmp m n) ≡ not ((nat_lt m n || (nat_eq m n && false)) || (nat_lt n m || (nat_eq n m && false)))
last_same m n = grind (arith, nat_tests)

-- two keys compare as equal where neither is less
pub same-keys : (m : MachineValue) (o p : Op) → eq_by_cmp key_cmp o.key p.key ≡ same_key m o p
same-keys m o p =
    let a = o.key in
    let b = p.key in
    then_same a.s0 b.s0 _ _ _ (then_same a.c0 b.c0 _ _ _ (then_same a.s1 b.s1 _ _ _ (then_same a.c1 b.c1 _ _ _
    (then_same a.s2 b.s2 _ _ _ (then_same a.c2 b.c2 _ _ _ (then_same a.s3 b.s3 _ _ _ (then_same a.c3 b.c3 _ _ _ (last_same a.i b.i))))))))

-- ---- the set of the keys before an operation

-- the operations before number k, from the last one on, and what is left to be judged
pub record Seen (m : MachineValue) (k : ℕ) (seen : BTreeSet Key) : Type 0 where
  pub before : List Op
  pub left : broken_key m before k (drop k m.ops) ≡ broken_key m [] 0 m.ops
  pub has : (o : Op) → contains key_cmp seen o.key ≡ list_any (same_key m o) before

pub seen-start : (m : MachineValue) (seen : BTreeSet Key) → seen.keys ≡ [] → Seen m 0 seen
seen-start m seen none = record { before = []; left = refl; has = λ o. rw none refl }

or-swap : (a b : Bool) → (a || b) ≡ (b || a)
or-swap true true = refl
or-swap true false = refl
or-swap false true = refl
or-swap false false = refl

same-back : (m : MachineValue) (o p : Op) → same_key m o p ≡ same_key m p o
same-back m o p = ap not (or-swap (key_less o.key p.key) (key_less p.key o.key))

either-way : (s t u : Bool) → s ≡ t → cond s true u ≡ (t || u)
either-way true t u e = rw (sym e) refl
either-way false t u e = rw (sym e) refl

pub dropped : {X : Type 0} (xs : List X) (k : ℕ) (x : X) → slice_get xs k ≡ Some x → drop k xs ≡ x ∷ drop (k + 1) xs
dropped [] k x e = cc
dropped (y ∷ ys) zero x e =
    let same : y ≡ x = cc in
    ap (λ z. z ∷ ys) same
dropped (y ∷ ys) (suc k) x e =
    let at : suc (k + 1) ≡ suc k + 1 = omega arith in
    dropped ys k x e ∙ ap (λ n. x ∷ drop n (y ∷ ys)) at

module _ (m : MachineValue) (k : ℕ) (seen : BTreeSet Key) (s : Seen m k seen) where
  pub seen-all : length m.ops ≤ k → None ≡ broken_key m [] 0 m.ops
  seen-all past = ap (broken_key m s.before k) (sym (drop_all k m.ops past)) ∙ s.left

  module _ (o : Op) (there : slice_get m.ops k ≡ Some o) where
    judged : (if is_key_of_leaf m o && not (contains key_cmp seen o.key) then broken_key m (o ∷ s.before) (k + 1) (drop (k + 1) m.ops) else Some (BrokenKey k)) ≡ broken_key m [] 0 m.ops
    judged = by (is_key_of_leaf m o && not (contains key_cmp seen o.key)) refl ∙ ap (broken_key m s.before k) (sym (dropped m.ops k o there)) ∙ s.left
      where
        test : (is_key_of_leaf m o && not (contains key_cmp seen o.key)) ≡ (is_key_of_leaf m o && not (list_any (same_key m o) s.before))
        test = ap (λ b. is_key_of_leaf m o && not b) (s.has o)

        by : (t : Bool) → (is_key_of_leaf m o && not (contains key_cmp seen o.key)) ≡ t → (if t then broken_key m (o ∷ s.before) (k + 1) (drop (k + 1) m.ops) else Some (BrokenKey k)) ≡ broken_key m s.before k (o ∷ drop (k + 1) m.ops)
        by true is = ap (λ b. first_some (if b then None else Some (BrokenKey k)) (broken_key m (o ∷ s.before) (k + 1) (drop (k + 1) m.ops))) (sym is ∙ test)
        by false is = ap (λ b. first_some (if b then None else Some (BrokenKey k)) (broken_key m (o ∷ s.before) (k + 1) (drop (k + 1) m.ops))) (sym is ∙ test)

    pub seen-unfit : is_key_of_leaf m o ≡ false → Some (BrokenKey k) ≡ broken_key m [] 0 m.ops
    seen-unfit e = ap (λ b. if b && not (contains key_cmp seen o.key) then broken_key m (o ∷ s.before) (k + 1) (drop (k + 1) m.ops) else Some (BrokenKey k)) (sym e) ∙ judged

    pub seen-again : is_key_of_leaf m o ≡ true → contains key_cmp seen o.key ≡ true → Some (BrokenKey k) ≡ broken_key m [] 0 m.ops
    seen-again e known = ap (λ b. if b then broken_key m (o ∷ s.before) (k + 1) (drop (k + 1) m.ops) else Some (BrokenKey k)) (sym (ap (λ b. b && not (contains key_cmp seen o.key)) e ∙ ap not known)) ∙ judged

    pub seen-next : (next : BTreeSet Key) → is_key_of_leaf m o ≡ true → contains key_cmp seen o.key ≡ false → ((q : Key) → contains key_cmp next q ≡ cond (eq_by_cmp key_cmp o.key q) true (contains key_cmp seen q)) → Seen m (k + 1) next
    seen-next next e new has = record {
      before = o ∷ s.before;
      left = ap (λ b. if b then broken_key m (o ∷ s.before) (k + 1) (drop (k + 1) m.ops) else Some (BrokenKey k)) (sym (ap (λ b. b && not (contains key_cmp seen o.key)) e ∙ ap not new)) ∙ judged;
      has = λ p. has p.key ∙ either-way (eq_by_cmp key_cmp o.key p.key) (same_key m p o) (contains key_cmp seen p.key) (same-keys m o p ∙ same-back m o p) ∙ ap (λ b. same_key m p o || b) (s.has p);
    }

-- ---- the buses from a number on

module _ (t : ℕ → Bool) (n i : ℕ) (so_far : find t (range_with_len i (n - i)) ≡ find t (range_with_len 0 n)) where
  module _ (below : i < n) where
    next : cond (t i) (Some i) (find t (range_with_len (i + 1) (n - (i + 1)))) ≡ find t (range_with_len 0 n)
    next =
        let one : n - i ≡ suc (n - (i + 1)) = omega arith in
        ap (λ j. find t (range_with_len i j)) (sym one) ∙ so_far

    pub found-here : t i ≡ true → Some (BrokenStamp i) ≡ option_map (λ bus. BrokenStamp bus) (find t (range_with_len 0 n))
    found-here e = ap (option_map (λ bus. BrokenStamp bus)) (ap (λ b. cond b (Some i) (find t (range_with_len (i + 1) (n - (i + 1))))) (sym e) ∙ next)

    pub found-later : t i ≡ false → find t (range_with_len (i + 1) (n - (i + 1))) ≡ find t (range_with_len 0 n)
    found-later e = ap (λ b. cond b (Some i) (find t (range_with_len (i + 1) (n - (i + 1))))) (sym e) ∙ next

  pub found-none : n ≤ i → None ≡ option_map (λ bus. BrokenStamp bus) (find t (range_with_len 0 n))
  found-none past =
      let none : 0 ≡ n - i = omega arith in
      ap (λ j. option_map (λ bus. BrokenStamp bus) (find t (range_with_len i j))) none ∙ ap (option_map (λ bus. BrokenStamp bus)) so_far

-- ---- what a loop's step says

at-index : {X : Type 0} (xs : List X) (k : ℕ) (x : X) → k < length xs → x ≡ get_or xs k x → slice_get xs k ≡ Some x
at-index [] k x below e = absurd (omega (arith, below))
at-index (y ∷ ys) zero x below e = ap Some (sym e)
at-index (y ∷ ys) (suc k) x below e = at-index ys k x (omega (arith, below)) e

-- the operation of this number, where the list was moved
pub op-there : (inside ops : List Op) (k : ℕ) (o : Op) → inside ≡ ops → k < length inside → o ≡ get_or inside k o → slice_get ops k ≡ Some o
op-there inside ops k o same below e = ap (λ xs. slice_get xs k) (sym same) ∙ at-index inside k o below e

pub was-there : (b : Bool) → not b ≡ false → b ≡ true
was-there true e = refl
was-there false e = absurd (true≢false e)

pub was-new : (b : Bool) → not b ≡ true → b ≡ false
was-new true e = absurd (true≢false (sym e))
was-new false e = refl
