-- Leaves that have no entry of any item from a number on, and stay so while items are placed one by one.
use Rattle.std.proofs.Common.{◌≡◌, ◌<◌, ◌≤◌, ◌≢◌, ℕ, zero, suc, ◌+◌, Bool, true, false, List, [], ◌∷◌, length, drop, get_or, Option, Some, None, sym, ap, ◌∙◌, arith, add-one, option_map, All}
use Rattle.std.specs.Prelude.{nat_eq, if◌then◌else◌}
use Rattle.std.specs.List.{AllByRecursion}
use Rattle.std.proofs.lemmas.List.{length-set}
use Rattle.std.proofs.lemmas.List.Elements.{All-from_recursion, recursion_from_All}
use Rattle.run_engine.specs.DdmTypes.declared.sizes.LeafState.{LeafState}
use Rattle.run_engine.specs.TreeModel.State.Lists.{first_some, map_from}
use Rattle.run_engine.specs.TreeModel.State.Values.{LeafValue}
use Rattle.run_engine.specs.TreeModel.State.Leaf.{leaf_entry, entry_at, free_way, way_entry, buffer_entry, buffered, enters, enters_free, with_fate}
use Rattle.run_engine.specs.TreeModel.Start.Nodes.{leaf_for, placed, placed_at, placed_in, placed_items}
use Rattle.run_engine.proofs.BusLaws.HartChanges.{way-set_other}
use Rattle.run_engine.specs.Placement.{IsBlank, TakesItem}

-- the leaf knows so many items, and has no entry of one from a number on
pub record IsOpen (items k : ℕ) (v : LeafValue) : Type 0 where
  pub known : items ≤ length v.ways
  pub absent : (y : ℕ) → k ≤ y → leaf_entry y v ≡ None

pub blank-open : (items : ℕ) (ls : List LeafValue) → All (IsBlank items) ls → All (IsOpen items 0) ls
blank-open items ls all k v within = let b = all k v within in record { known = b.known; absent = λ y past. b.absent y }

pub open-takes : (items k : ℕ) (ls : List LeafValue) → k < items → All (IsOpen items k) ls → All (TakesItem k) ls
open-takes items k ls below all i v within =
    let o = all i v within in
    record { known = omega (arith, below, o.known); absent = o.absent k (omega arith) }

-- ---- one leaf

entry-other : (x y way : ℕ) (state : LeafState) (words : List ℕ) (v : LeafValue) → y ≢ x → leaf_entry y (with_fate x (enters way state words) v) ≡ leaf_entry y v
unfolding entry_at
entry-other x y way state words v other = ap (λ o. first_some (option_map way_entry o) (option_map buffer_entry (buffered y v.buffer))) (way-set_other v.ways x y _ other)

module _ (items x : ℕ) (words : List ℕ) where
  placed-by : (o : Option ℕ) (v : LeafValue) → IsOpen items x v → IsOpen items (x + 1) (with_fate x (enters_free LeafState.Exclusive words o) v)
  placed-by None v is = record { known = is.known; absent = λ y past. is.absent y (omega (arith, past)) }
  placed-by (Some way) v is = record {
    known = omega (arith, is.known, length-set v.ways x (Some (record { way = way; state = LeafState.Exclusive; words = words })));
    absent = λ y past.
        let other : y ≢ x = omega (arith, past) in
        entry-other x y way LeafState.Exclusive words v other ∙ is.absent y (omega (arith, past));
  }

  placed-at-by : (b : Bool) (v : LeafValue) → IsOpen items x v → IsOpen items (x + 1) (if b then placed x words v else v)
  placed-at-by true v is = placed-by (free_way v.sizes x v.ways) v is
  placed-at-by false v is = record { known = is.known; absent = λ y past. is.absent y (omega (arith, past)) }

  -- ---- all leaves

  all-at : (leaf i : ℕ) (ls : List LeafValue) → AllByRecursion (IsOpen items x) ls → AllByRecursion (IsOpen items (x + 1)) (map_from (placed_at leaf x words) i ls)
  all-at leaf i [] all = tt
  all-at leaf i (v ∷ ls) all = (placed-at-by (nat_eq i leaf) v all.0, all-at leaf (i + 1) ls all.1)

  all-later : (ls : List LeafValue) → AllByRecursion (IsOpen items x) ls → AllByRecursion (IsOpen items (x + 1)) ls
  all-later [] all = tt
  all-later (v ∷ ls) all = (placed-at-by false v all.0, all-later ls all.1)

  all-in : (o : Option ℕ) (ls : List LeafValue) → AllByRecursion (IsOpen items x) ls → AllByRecursion (IsOpen items (x + 1)) (placed_in x words ls o)
  all-in None ls all = all-later ls all
  all-in (Some leaf) ls all = all-at leaf 0 ls all

  pub open-more : (ls : List LeafValue) → All (IsOpen items x) ls → All (IsOpen items (x + 1)) (placed_in x words ls (leaf_for ls x))
  open-more ls all = All-from_recursion (IsOpen items (x + 1)) (placed_in x words ls (leaf_for ls x)) (all-in (leaf_for ls x) ls (recursion_from_All (IsOpen items x) ls all))

-- ---- the items that are still to be placed

drop-here : {X : Type 0} (k : ℕ) (xs : List X) (x : X) → k < length xs → x ≡ get_or xs k x → drop k xs ≡ x ∷ drop (suc k) xs
drop-here k [] x l is = absurd (omega (arith, l))
drop-here zero (y ∷ ys) x l is = ap (λ z. z ∷ ys) (sym is)
drop-here (suc k) (y ∷ ys) x l is = drop-here k ys x (omega (arith, l)) is

pub placed-next : (k : ℕ) (words : List (List ℕ)) (w : List ℕ) (ls : List LeafValue) → k < length words → w ≡ get_or words k w → placed_items k (drop k words) ls ≡ placed_items (k + 1) (drop (k + 1) words) (placed_in k w ls (leaf_for ls k))
unfolding placed_items
placed-next k words w ls below is = ap (λ ws. placed_items k ws ls) (drop-here k words w below is ∙ ap (λ i. w ∷ drop i words) (sym (add-one k)))

pub placed-end : (k : ℕ) (words : List (List ℕ)) (ls : List LeafValue) → drop k words ≡ [] → placed_items k (drop k words) ls ≡ ls
unfolding placed_items
placed-end k words ls none = ap (λ ws. placed_items k ws ls) none
