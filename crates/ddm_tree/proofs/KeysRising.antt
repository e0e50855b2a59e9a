-- Keys of operations that ascend hart by hart are all different: those of one hart by their order, those of two harts by the paths of
-- their leaves. So each has to be compared with the last one of its hart alone.
-- Letters: m is a machine, o and p operations, a and b leaves with their spots.
use Rattle.std.proofs.Common.{◌≡◌, ◌≢◌, ℕ, zero, suc, ◌+◌, ◌<◌, ◌≤◌, Bool, true, false, true≢false, not, ◌&&◌, ◌||◌, ◌⊎◌, inl, inr, nat_eq, List, [], ◌∷◌, length, drop, Option, Some, None, refl, sym, ap, ◌∙◌, subst, arith, get_or, if◌then◌else◌}
use Rattle.std.specs.Prelude.{is_some, slice_get, slice_set}
use Rattle.std.specs.List.{list_any, AllByRecursion}
use Rattle.std.proofs.lemmas.Bool.{eqb-true, eqb-false}
use Rattle.std.proofs.lemmas.List.{drop_all}
use Rattle.ddm_tree.specs.DdmTypes.declared.keys.Key.{Key}
use Rattle.ddm_tree.specs.DdmTypes.declared.operations.Op.{Op}
use Rattle.ddm_tree.specs.DdmTypes.Keys.{key_numbers, key_less, key_zero}
use Rattle.ddm_tree.proofs.DdmTypes.KeyOrder.{key_less-irreflexive, key_less-asymmetric, key_less-total}
use Rattle.ddm_tree.specs.TreeModel.State.Lists.{first_some}
use Rattle.ddm_tree.specs.TreeModel.State.Values.{MachineValue, root_of}
use Rattle.ddm_tree.specs.TreeModel.State.Place.{at_top, key_at_leaf}
use Rattle.ddm_tree.specs.TreeModel.State.Shape.{IsShaped, depth_of, tree_counts}
use Rattle.ddm_tree.specs.TreeModel.Turns.Machine.{now_of}
use Rattle.ddm_tree.specs.TreeModel.Turns.Tree.{leaf_of_number, of_leaf}
use Rattle.ddm_tree.proofs.TreeModel.NamedNode.{read_in-is_some}
use Rattle.ddm_tree.specs.TreeRules.Order.Moments.{key_path}
use Rattle.ddm_tree.specs.TreeRules.Order.Places.{LeafAt, leaf_path, leaves_at}
use Rattle.ddm_tree.proofs.OrderLists.Filters.{each-weaker}
use Rattle.ddm_tree.proofs.OrderLists.Moments.{least-less}
use Rattle.ddm_tree.proofs.OrderLists.OneLeaf.{IsSameLeaf, one_at_path}
use Rattle.ddm_tree.specs.StateReading.declared.StateRefusal.TheVariants.{BrokenKey}
use Rattle.state_judging.specs.Judged.{is_key_of_leaf, same_key, broken_key}
use Rattle.ddm_tree.specs.Keys.{comes_behind, IsTaken}
use Rattle.ddm_tree.proofs.KeysJudged.{own-leaf}
use Rattle.ddm_tree.proofs.KeysSeen.{dropped}
use Rattle.ddm_tree.proofs.LeafList.{leaf-there}

-- ---- operations of two harts

-- keys that aren't told apart are equal
same-equal : (m : MachineValue) (o p : Op) → same_key m o p ≡ true → o.key ≡ p.key
same-equal m o p e = go (key_less-total o.key p.key)
  where
    go : (o.key ≡ p.key) ⊎ ((key_less o.key p.key ≡ true) ⊎ (key_less p.key o.key ≡ true)) → o.key ≡ p.key
    go (inl same) = same
    go (inr (inl less)) = absurd (true≢false (sym e ∙ ap (λ b. not (b || key_less p.key o.key)) less))
    go (inr (inr less)) = absurd (true≢false (sym e ∙ ap (λ b. not (key_less o.key p.key || b)) less ∙ not-or (key_less o.key p.key)))
      where
        not-or : (b : Bool) → not (b || true) ≡ false
        not-or true = refl
        not-or false = refl

some-there : (found : Option Key) → is_some found ≡ true → (now : Key) × (Some now ≡ found)
some-there None e = absurd (true≢false (sym e))
some-there (Some now) e = (now, refl)

now-there : (m : MachineValue) (h : ℕ) → IsShaped m → h < (tree_counts m).leaves → (now : Key) × (Some now ≡ now_of h m)
now-there m h shaped below = some-there (now_of h m) (read_in-is_some (leaf_of_number h) (of_leaf (λ w v. key_at_leaf w v.done) key_zero) at_top (root_of m) ∙ leaf-there h m shaped below)

-- it is of a leaf, and its key is one
pub record IsFit (m : MachineValue) (o : Op) : Type 0 where
  pub below : o.hart < (tree_counts m).leaves
  pub fit : is_key_of_leaf m o ≡ true

harts-differ : (m : MachineValue) (o p : Op) → IsShaped m → IsFit m o → IsFit m p → p.hart ≢ o.hart → same_key m o p ≡ false
harts-differ m o p shaped first second apart = by (same_key m o p) refl
  where
    by : (t : Bool) → same_key m o p ≡ t → t ≡ false
    by false is = refl
    by true is =
        let now = now-there m o.hart shaped first.below in
        let other = now-there m p.hart shaped second.below in
        let a = own-leaf m o shaped (λ a. AllByRecursion (IsSameLeaf a) (leaves_at m)) (one_at_path m) now.0 now.1 first.fit in
        let b = own-leaf m p shaped (IsSameLeaf a.leaf) a.known other.0 other.1 second.fit in
        let paths : leaf_path a.leaf ≡ leaf_path b.leaf = sym a.path ∙ ap (λ k. key_path (key_numbers (depth_of m) k)) (same-equal m o p is) ∙ b.path in
        absurd (apart (sym b.number ∙ sym (ap (λ (l : LeafAt). l.leaf.number) (b.known paths)) ∙ a.number))

-- ---- the last key of each hart

-- an operation before: its key is no greater than the last one of its hart
pub record IsPast (m : MachineValue) (lasts : List (Option Key)) (p : Op) : Type 0 where
  pub is_fit : IsFit m p
  pub last : Key
  pub there : slice_get lasts p.hart ≡ Some (Some last)
  pub most : key_less last p.key ≡ false

some-key : {j k : Key} → Some (Some j) ≡ Some (Some k) → j ≡ k
some-key e = cc

less-same : (m : MachineValue) (o p : Op) → key_less p.key o.key ≡ true → same_key m o p ≡ false
less-same m o p e = ap (λ b. not (key_less o.key p.key || b)) e ∙ not-or (key_less o.key p.key)
  where
    not-or : (b : Bool) → not (b || true) ≡ false
    not-or true = refl
    not-or false = refl

pub set-here : {X : Type 0} (xs : List X) (k : ℕ) (x : X) → k < length xs → slice_get (slice_set xs k x) k ≡ Some x
set-here [] k x below = absurd (omega (arith, below))
set-here (y ∷ ys) zero x below = refl
set-here (y ∷ ys) (suc k) x below = set-here ys k x (omega (arith, below))

pub set-other : {X : Type 0} (xs : List X) (k j : ℕ) (x : X) → j ≢ k → slice_get (slice_set xs k x) j ≡ slice_get xs j
set-other [] k j x apart = refl
set-other (y ∷ ys) zero zero x apart = absurd (apart refl)
set-other (y ∷ ys) zero (suc j) x apart = refl
set-other (y ∷ ys) (suc k) zero x apart = refl
set-other (y ∷ ys) (suc k) (suc j) x apart = set-other ys k j x (λ e. apart (ap suc e))

module _ (m : MachineValue) (shaped : IsShaped m) (lasts : List (Option Key)) (o : Op) (fit : IsFit m o) (inside : o.hart < length lasts) (q : Option Key) (there : slice_get lasts o.hart ≡ Some q) (behind : comes_behind q o.key ≡ true) where
  abbrev next : List (Option Key)
  next = slice_set lasts o.hart (Some o.key)

  behind-last : (last : Key) → slice_get lasts o.hart ≡ Some (Some last) → key_less last o.key ≡ true
  behind-last last is = by q there behind
    where
      by : (r : Option Key) → slice_get lasts o.hart ≡ Some r → comes_behind r o.key ≡ true → key_less last o.key ≡ true
      by None e later = absurd (let no : Some (Some last) ≡ Some None = sym is ∙ e in cc)
      by (Some l) e later =
          let same : l ≡ last = some-key (sym e ∙ is) in
          ap (λ k. key_less k o.key) (sym same) ∙ later

  own-less : (p : Op) → IsPast m lasts p → p.hart ≡ o.hart → key_less p.key o.key ≡ true
  own-less p past same = least-less (key_numbers 4 p.key) (key_numbers 4 past.last) (key_numbers 4 o.key) past.most (behind-last past.last (ap (slice_get lasts) (sym same) ∙ past.there))

  one-differs : (p : Op) → IsPast m lasts p → same_key m o p ≡ false
  one-differs p past = by (nat_eq p.hart o.hart) refl
    where
      by : (t : Bool) → nat_eq p.hart o.hart ≡ t → same_key m o p ≡ false
      by true is = less-same m o p (own-less p past (eqb-true p.hart o.hart is))
      by false is = harts-differ m o p shaped fit past.is_fit (eqb-false p.hart o.hart is)

  pub none-same : (ps : List Op) → AllByRecursion (IsPast m lasts) ps → list_any (same_key m o) ps ≡ false
  none-same [] all = refl
  none-same (p ∷ ps) all = rw (one-differs p all.0) (none-same ps all.1)

  one-past : (p : Op) → IsPast m lasts p → IsPast m next p
  one-past p past = by (nat_eq p.hart o.hart) refl
    where
      by : (t : Bool) → nat_eq p.hart o.hart ≡ t → IsPast m next p
      by true is =
          let same : p.hart ≡ o.hart = eqb-true p.hart o.hart is in
          record { is_fit = past.is_fit; last = o.key; there = ap (slice_get next) same ∙ set-here lasts o.hart (Some o.key) inside; most = key_less-asymmetric p.key o.key (own-less p past same) }
      by false is = record { is_fit = past.is_fit; last = past.last; there = set-other lasts o.hart p.hart (Some o.key) (eqb-false p.hart o.hart is) ∙ past.there; most = past.most }

  pub all-past : (ps : List Op) → AllByRecursion (IsPast m lasts) ps → AllByRecursion (IsPast m next) (o ∷ ps)
  all-past ps all = (
    record { is_fit = fit; last = o.key; there = set-here lasts o.hart (Some o.key) inside; most = key_less-irreflexive o.key },
    each-weaker (IsPast m lasts) (IsPast m next) one-past ps all,
  )

-- ---- while a loop goes over the operations

-- the operations before number k, from the last one on, and what is left to be judged
pub record Rising (m : MachineValue) (k : ℕ) (lasts : List (Option Key)) : Type 0 where
  pub before : List Op
  pub left : broken_key m before k (drop k m.ops) ≡ broken_key m [] 0 m.ops
  pub past : AllByRecursion (IsPast m lasts) before

pub rising-start : (m : MachineValue) (lasts : List (Option Key)) → Rising m 0 lasts
rising-start m lasts = record { before = []; left = refl; past = tt }

module _ (m : MachineValue) (k : ℕ) (lasts : List (Option Key)) (s : Rising m k lasts) where
  pub rising-all : length m.ops ≤ k → None ≡ broken_key m [] 0 m.ops
  rising-all past = ap (broken_key m s.before k) (sym (drop_all k m.ops past)) ∙ s.left

  module _ (o : Op) (there : slice_get m.ops k ≡ Some o) where
    here : first_some (if is_key_of_leaf m o && not (list_any (same_key m o) s.before) then None else Some (BrokenKey k)) (broken_key m (o ∷ s.before) (k + 1) (drop (k + 1) m.ops)) ≡ broken_key m [] 0 m.ops
    here = ap (broken_key m s.before k) (sym (dropped m.ops k o there)) ∙ s.left

    pub rising-unfit : is_key_of_leaf m o ≡ false → Some (BrokenKey k) ≡ broken_key m [] 0 m.ops
    rising-unfit e = ap (λ b. first_some (if b && not (list_any (same_key m o) s.before) then None else Some (BrokenKey k)) (broken_key m (o ∷ s.before) (k + 1) (drop (k + 1) m.ops))) (sym e) ∙ here

    pub rising-next : IsShaped m → IsFit m o → (new : List (Option Key)) → IsTaken o lasts new → Rising m (k + 1) new
    rising-next shaped fit new taken = record {
      before = o ∷ s.before;
      left = ap (λ b. first_some (if b then None else Some (BrokenKey k)) (broken_key m (o ∷ s.before) (k + 1) (drop (k + 1) m.ops))) (sym (ap (λ b. b && not (list_any (same_key m o) s.before)) fit.fit ∙ ap not (none-same m shaped lasts o fit taken.inside taken.last taken.there taken.behind s.before s.past))) ∙ here;
      past = subst (λ ls. AllByRecursion (IsPast m ls) (o ∷ s.before)) (sym taken.is) (all-past m shaped lasts o fit taken.inside taken.last taken.there taken.behind s.before s.past);
    }

-- ---- the last key of a hart, as the code sets it

get-there : {X : Type 0} (xs : List X) (k : ℕ) (d : X) → k < length xs → slice_get xs k ≡ Some (get_or xs k d)
get-there [] k d below = absurd (omega (arith, below))
get-there (x ∷ xs) zero d below = refl
get-there (x ∷ xs) (suc k) d below = get-there xs k d (omega (arith, below))

pub taken : (lasts : List (Option Key)) (o : Op) (hart : ℕ) (key : Key) → hart ≡ o.hart → key ≡ o.key → hart < length lasts → comes_behind (get_or lasts hart None) key ≡ true → IsTaken o lasts (slice_set lasts hart (Some key))
taken lasts o hart key same_hart same_key inside behind = record {
  inside = omega (arith, same_hart, inside);
  last = get_or lasts hart None;
  there = ap (slice_get lasts) (sym same_hart) ∙ get-there lasts hart None inside;
  behind = ap (comes_behind (get_or lasts hart None)) (sym same_key) ∙ behind;
  is = ap (λ h. slice_set lasts h (Some key)) same_hart ∙ ap (λ k. slice_set lasts o.hart (Some k)) same_key;
}
