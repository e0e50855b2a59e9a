-- Judged one by one, no operation's key is broken: just where keys differ, have the paths of their leaves and are past.
-- Letters: m is a machine, o and p operations, k the number of one.
use Rattle.std.specs.Prelude.{◌≡◌, ◌⊎◌, ℕ, ◌+◌, Bool, true, false, not, ◌&&◌, ◌||◌, List, [], ◌∷◌, Some, None, refl, if◌then◌else◌}
use Rattle.std.specs.List.{list_any, AllByRecursion}
use Rattle.std.proofs.Common.{inl, inr}
use Rattle.std.proofs.lemmas.Bool.{and_parts}
use Rattle.std.specs.Cmp.Derive.{both_true}
use Rattle.state_judging.specs.DdmTypes.declared.operations.Op.{Op}
use Rattle.state_judging.specs.DdmTypes.Keys.{key_less}
use Rattle.state_judging.specs.TreeModel.State.Shape.{depth_of}
use Rattle.state_judging.specs.TreeModel.State.Values.{MachineValue}
use Rattle.state_judging.proofs.TreeModel.Tests.{first_some-none_first, first_some-none_second, or-false_first, or-false_second}
use Rattle.state_judging.specs.TreeRules.Statements.{Holds, both, each, each_pair}
use Rattle.state_judging.specs.TreeRules.Order.Places.{leaves_at}
use Rattle.state_judging.specs.TreeRules.Order.Rules.{keys_differ, keys_have_paths, keys_are_past, time_rule, IsTimed}
use Rattle.state_judging.specs.TreeRules.Order.Time as time
use Rattle.state_judging.proofs.TreeRules.Statements.{Holds-from_test, test-from_Holds, each-facts, facts-each}
use Rattle.state_reading.specs.declared.StateRefusal.{StateRefusal}
use Rattle.state_reading.specs.declared.StateRefusal.TheVariants.{BrokenKey}
use Rattle.state_judging.specs.Judged.{is_key_of_leaf, same_key, broken_key}
use Rattle.state_judging.proofs.Searches.{each-so, each-both}

-- ---- two keys

not_no : (b : Bool) → not b ≡ true → b ≡ false
not_no true e = cc
not_no false e = refl

either-less : (a b : Bool) → not (a || b) ≡ false → (b ≡ true) ⊎ (a ≡ true)
either-less true b e = inr refl
either-less false true e = inl refl
either-less false false e = cc

less-either : (a b : Bool) → (b ≡ true) ⊎ (a ≡ true) → not (a || b) ≡ false
less-either true b e = refl
less-either false true e = refl
less-either false false (inl e) = cc
less-either false false (inr e) = cc

module _ (m : MachineValue) where
  abbrev IsKey : Op → Type 0
  IsKey o = is_key_of_leaf m o ≡ true

  -- the second of two operations is judged with the first one before it
  abbrev Differs : Op → Op → Type 0
  Differs o p = same_key m p o ≡ false

  differs-fact : (o p : Op) → Differs o p → Holds (time.keys_differ o p)
  differs-fact o p e = either-less (key_less p.key o.key) (key_less o.key p.key) e

  fact-differs : (o p : Op) → Holds (time.keys_differ o p) → Differs o p
  fact-differs o p h = less-either (key_less p.key o.key) (key_less o.key p.key) h

  abbrev NewTo : List Op → Op → Type 0
  NewTo before o = list_any (same_key m o) before ≡ false

  -- ---- one operation

  test-none : (b : Bool) (r : StateRefusal) → (if b then None else Some r) ≡ None → b ≡ true
  test-none true r e = refl
  test-none false r e = cc

  none-test : (b : Bool) (r : StateRefusal) → b ≡ true → (if b then None else Some r) ≡ None
  none-test true r e = refl
  none-test false r e = cc

  -- ---- all of them, behind those before them

  pub keys-unbroken : (before : List Op) (k : ℕ) (ops : List Op) → broken_key m before k ops ≡ None → AllByRecursion IsKey ops × AllByRecursion (NewTo before) ops × Holds (each_pair time.keys_differ ops)
  keys-unbroken before k [] e = (tt, tt, tt)
  keys-unbroken before k (o ∷ ops) e =
      let first = first_some-none_first (if is_key_of_leaf m o && not (list_any (same_key m o) before) then None else Some (BrokenKey k)) (broken_key m (o ∷ before) (k + 1) ops) e in
      let rest = keys-unbroken (o ∷ before) (k + 1) ops (first_some-none_second (if is_key_of_leaf m o && not (list_any (same_key m o) before) then None else Some (BrokenKey k)) (broken_key m (o ∷ before) (k + 1) ops) e) in
      let parts = and_parts (is_key_of_leaf m o) (not (list_any (same_key m o) before)) (test-none _ (BrokenKey k) first) in
      let new = each-so (NewTo (o ∷ before)) (Differs o) (λ p n. or-false_first (same_key m p o) (list_any (same_key m p) before) n) ops rest.1 in
      let old = each-so (NewTo (o ∷ before)) (NewTo before) (λ p n. or-false_second (same_key m p o) (list_any (same_key m p) before) n) ops rest.1 in
      ((parts.0, rest.0), (not_no _ parts.1, old), (facts-each (time.keys_differ o) ops (each-so (Differs o) (λ p. Holds (time.keys_differ o p)) (differs-fact o) ops new), rest.2))

  or-no : (a b : Bool) → a ≡ false → b ≡ false → (a || b) ≡ false
  or-no a b first second = rw (first, second) refl

  pub unbroken-keys : (before : List Op) (k : ℕ) (ops : List Op) → AllByRecursion IsKey ops → AllByRecursion (NewTo before) ops → Holds (each_pair time.keys_differ ops) → broken_key m before k ops ≡ None
  unbroken-keys before k [] keys new differ = refl
  unbroken-keys before k (o ∷ ops) keys new differ =
      let apart = each-so (λ p. Holds (time.keys_differ o p)) (Differs o) (fact-differs o) ops (each-facts (time.keys_differ o) ops differ.0) in
      let next = each-both (Differs o) (NewTo before) (NewTo (o ∷ before)) (λ p a b. or-no (same_key m p o) (list_any (same_key m p) before) a b) ops apart new.1 in
      let here : (is_key_of_leaf m o && not (list_any (same_key m o) before)) ≡ true = both_true keys.0 (rw new.0 refl) in
      rw (none-test _ (BrokenKey k) here) (unbroken-keys (o ∷ before) (k + 1) ops keys.1 next differ.1)

  -- ---- the rules of one key

  abbrev KeyFacts : Op → Type 0
  KeyFacts o = Holds (each (time.has_leaf_path (depth_of m) o) (leaves_at m)) × Holds (each (time.is_before_now (depth_of m) o) (leaves_at m))

  key-facts : (o : Op) → IsKey o → KeyFacts o
  key-facts o e = Holds-from_test (both (each (time.has_leaf_path (depth_of m) o) (leaves_at m)) (each (time.is_before_now (depth_of m) o) (leaves_at m))) e

  facts-key : (o : Op) → KeyFacts o → IsKey o
  facts-key o h = test-from_Holds (both (each (time.has_leaf_path (depth_of m) o) (leaves_at m)) (each (time.is_before_now (depth_of m) o) (leaves_at m))) h

  all-new : (ops : List Op) → AllByRecursion (NewTo []) ops
  all-new [] = tt
  all-new (o ∷ ops) = (refl, all-new ops)

-- ---- both ways

pub record KeysTimed (m : MachineValue) : Type 0 where
  pub differ : Holds (time_rule keys_differ m)
  pub paths : Holds (time_rule keys_have_paths m)
  pub past : Holds (time_rule keys_are_past m)

pub keys-timed : (m : MachineValue) → broken_key m [] 0 m.ops ≡ None → KeysTimed m
keys-timed m e =
    let all = keys-unbroken m [] 0 m.ops e in
    let facts : AllByRecursion (KeyFacts m) m.ops = each-so (IsKey m) (KeyFacts m) (key-facts m) m.ops all.0 in
    record {
      differ = all.2;
      paths = facts-each (λ o. each (time.has_leaf_path (depth_of m) o) (leaves_at m)) m.ops (each-so (KeyFacts m) (λ o. Holds (each (time.has_leaf_path (depth_of m) o) (leaves_at m))) (λ o h. h.0) m.ops facts);
      past = facts-each (λ o. each (time.is_before_now (depth_of m) o) (leaves_at m)) m.ops (each-so (KeyFacts m) (λ o. Holds (each (time.is_before_now (depth_of m) o) (leaves_at m))) (λ o h. h.1) m.ops facts);
    }

pub timed-keys : (m : MachineValue) → IsTimed m → broken_key m [] 0 m.ops ≡ None
timed-keys m t =
    let paths : AllByRecursion (λ o. Holds (each (time.has_leaf_path (depth_of m) o) (leaves_at m))) m.ops = each-facts (λ o. each (time.has_leaf_path (depth_of m) o) (leaves_at m)) m.ops (t.each keys_have_paths) in
    let past : AllByRecursion (λ o. Holds (each (time.is_before_now (depth_of m) o) (leaves_at m))) m.ops = each-facts (λ o. each (time.is_before_now (depth_of m) o) (leaves_at m)) m.ops (t.each keys_are_past) in
    let keys = each-both (λ o. Holds (each (time.has_leaf_path (depth_of m) o) (leaves_at m))) (λ o. Holds (each (time.is_before_now (depth_of m) o) (leaves_at m))) (IsKey m) (λ o a b. facts-key m o (a, b)) m.ops paths past in
    unbroken-keys m [] 0 m.ops keys (all-new m m.ops) (t.each keys_differ)
