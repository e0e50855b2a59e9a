-- A machine over the parts that the code makes of a tree and an image is the tables' start.
use Rattle.std.proofs.Common.{◌≡◌, ◌≤◌, ℕ, zero, suc, ◌+◌, ◌*◌, Bool, true, false, List, [], ◌∷◌, length, map, replicate, sum, Option, None, refl, sym, ap, subst, ◌∙◌, arith, inl, inr, All}
use Rattle.std.specs.Prelude.{◌||◌, nat_eq, nat_le, slice_index_or}
use Rattle.std.specs.List.{AllByRecursion, range_with_len}
use Rattle.std.proofs.lemmas.Bool.{eqb-true, leb-true}
use Rattle.std.proofs.lemmas.List.{length-map, length-replicate}
use Rattle.std.proofs.lemmas.List.Elements.{All-from_recursion}
use Rattle.run_engine.specs.DdmTypes.declared.sizes.Start.{Start}
use Rattle.run_engine.specs.DdmTypes.ItemTable.{ItemRow, ItemTable, IsItemSize, item_count, items_of}
use Rattle.run_engine.specs.DdmTypes.declared.sizes.TreeCounts.{TreeCounts}
use Rattle.run_engine.specs.DdmTypes.CodeMap.{CodeWord}
use Rattle.run_engine.specs.TreeModel.State.Values.{DirValue, LeafSizes, LeafValue, MachineValue, Node, WayValue}
use Rattle.run_engine.specs.TreeModel.State.Leaf.{entry_at}
use Rattle.run_engine.specs.TreeModel.Start.Nodes.{leaf_sizes, new_leaf, new_top, placed_items, top_sizes}
use Rattle.run_engine.specs.TreeModel.Start.Machine.{start_leaves, start_machine, start_refusal}
use Rattle.run_engine.specs.TreeModel.Start.Memory.{item_words, start_code, start_items, start_words}
use Rattle.run_engine.specs.TreeModel.Start.Sources.{TreeValue, ImageValue, leaf_count, start_of_harts, width_of}
use Rattle.run_engine.proofs.TreeModel.Tests.{and-first, and-second}
use Rattle.tree_config.specs.Levels.{IsShape}
use Rattle.tree_config.specs.Levels as config
use Rattle.tree_config.specs.Ranges.{IsInRange}
use Rattle.run_engine.specs.BusLaws.IsTree.{AreUnder, IsTree}
use Rattle.run_engine.specs.DdmTree.Machine.{IsNew, new_machine}
use Rattle.run_engine.specs.StartParts.Counts.{counts_of}
use Rattle.run_engine.specs.StartParts.Parts.{start_kids, start_top}
use Rattle.run_engine.proofs.StartParts.Made.{start-made}
use Rattle.run_engine.proofs.StartParts.StartNew.{start-new}
use Rattle.run_engine.specs.Placement.{CanPlace, HasSets, IsBlank}
use Rattle.run_engine.proofs.Built.{accepted_few, quarter}

-- ---- a tree that a file gives is one

under-same : (n : ℕ) (levels : List (List ℕ)) → config.AreUnder n levels → AreUnder n levels
under-same n [] u = tt
under-same n (l ∷ ls) u = (u.0, under-same (sum l) ls u.1)

pub sets-range : (t : TreeValue) → IsInRange t → (1 ≤ t.sizes.sets) × (t.sizes.sets ≤ 4096)
sets-range t range = (leb-true 1 t.sizes.sets (and-first _ (nat_le t.sizes.sets 4096) range.sizes.sets), leb-true t.sizes.sets 4096 (and-second (nat_le 1 t.sizes.sets) _ range.sizes.sets))

pub ways-range : (t : TreeValue) → IsInRange t → (1 ≤ t.way_count) × (t.way_count ≤ 4)
ways-range t range = by-tests t.way_count (nat_eq t.way_count 1) refl (nat_eq t.way_count 2) refl range.ways
  where
    by-tests : (n : ℕ) (one : Bool) → nat_eq n 1 ≡ one → (two : Bool) → nat_eq n 2 ≡ two → (one || (two || nat_eq n 4)) ≡ true → (1 ≤ n) × (n ≤ 4)
    by-tests n true is two is_two e =
        let n_is = eqb-true n 1 is in
        (omega (arith, n_is), omega (arith, n_is))
    by-tests n false is true is_two e =
        let n_is = eqb-true n 2 is_two in
        (omega (arith, n_is), omega (arith, n_is))
    by-tests n false is false is_two e =
        let n_is = eqb-true n 4 e in
        (omega (arith, n_is), omega (arith, n_is))

item-size : (n : ℕ) (b : Bool) → nat_eq n 16 ≡ b → (b || nat_eq n 64) ≡ true → IsItemSize n
item-size n true is e = inl (eqb-true n 16 is)
item-size n false is e = inr (eqb-true n 64 e)

pub tree-is : (t : TreeValue) → IsShape t.levels → IsInRange t → IsTree t
tree-is t shape range =
    let sets = sets-range t range in
    let ways = ways-range t range in
    record {
      some = shape.some;
      depth = shape.depth;
      under = under-same 1 t.levels shape.under;
      widths = shape.widths;
      sets = omega (arith, sets.0);
      ways = omega (arith, ways.0);
      item_bytes = item-size t.item_bytes (nat_eq t.item_bytes 16) refl range.item_bytes;
    }

-- ---- leaves with nothing in them

abbrev no_way : Option WayValue
no_way = None

none-at : (n x : ℕ) → slice_index_or (replicate n no_way) x no_way ≡ no_way
none-at zero x = refl
none-at (suc n) zero = refl
none-at (suc n) (suc x) = none-at n x

new-blank : (sizes : LeafSizes) (start : Start) (n number : ℕ) → IsBlank n (new_leaf sizes start n number)
unfolding entry_at
new-blank sizes start n number = record {
  known = omega (arith, length-replicate n no_way);
  absent = λ x. rw (none-at n x) refl;
}

each-blank : (sizes : LeafSizes) (start : Start) (n : ℕ) (ks : List ℕ) → AllByRecursion (IsBlank n) (map (new_leaf sizes start n) ks)
each-blank sizes start n [] = tt
each-blank sizes start n (k ∷ ks) = (new-blank sizes start n k, each-blank sizes start n ks)

range-length : (a n : ℕ) → length (range_with_len a n) ≡ n
range-length a zero = refl
range-length a (suc n) =
    let rest = range-length (a + 1) n in
    omega (arith, rest)

pub can-place : (sizes : LeafSizes) (start : Start) (n : ℕ) (words : List (List ℕ)) → length words ≡ n → n ≤ 65536 → start.harts ≤ 64 → CanPlace words (map (new_leaf sizes start n) (range_with_len 0 start.harts))
can-place sizes start n words size few harts =
    let leaves = length-map (range_with_len 0 start.harts) (new_leaf sizes start n) in
    let count = range-length 0 start.harts in
    record {
      few_items = omega (arith, size, few);
      few_leaves = omega (arith, leaves, count, harts);
      blank = All-from_recursion (IsBlank (length words)) (map (new_leaf sizes start n) (range_with_len 0 start.harts)) (subst (λ k. AllByRecursion (IsBlank k) (map (new_leaf sizes start n) (range_with_len 0 start.harts))) (sym size) (each-blank sizes start n (range_with_len 0 start.harts)));
    }

-- they have so many sets each
each-sets : (sizes : LeafSizes) (start : Start) (n : ℕ) (ks : List ℕ) → AllByRecursion (HasSets sizes.sets) (map (new_leaf sizes start n) ks)
each-sets sizes start n [] = tt
each-sets sizes start n (k ∷ ks) = (refl, each-sets sizes start n ks)

pub new-sets : (sizes : LeafSizes) (start : Start) (n : ℕ) → All (HasSets sizes.sets) (map (new_leaf sizes start n) (range_with_len 0 start.harts))
new-sets sizes start n = All-from_recursion (HasSets sizes.sets) (map (new_leaf sizes start n) (range_with_len 0 start.harts)) (each-sets sizes start n (range_with_len 0 start.harts))

-- ---- the leaves of the start

module _ (t : TreeValue) (i : ImageValue) (width : ℕ) (size : 4 * width ≡ t.item_bytes) where
  pub width-is : width_of t ≡ width
  width-is = quarter width t.item_bytes size

  pub words-start : (items : ItemTable) (words : List (List ℕ)) → items ≡ start_items t i → words ≡ map (λ (row : ItemRow). item_words width i.segments row.address) items.rows → words ≡ start_words t i
  unfolding start_words
  words-start items words is same = same ∙ ap (λ (table : ItemTable). map (λ (row : ItemRow). item_words width i.segments row.address) table.rows) is ∙ ap (λ w. map (λ (row : ItemRow). item_words w i.segments row.address) (start_items t i).rows) (sym width-is)

  pub leaves-start : (items : ItemTable) (words : List (List ℕ)) (start : Start) (ways : ℕ) (ls : List LeafValue) → t.way_count ≡ ways → items ≡ start_items t i → words ≡ start_words t i → start ≡ start_of_harts t i
      → ls ≡ placed_items 0 words (map (new_leaf (leaf_sizes t.sizes ways width) start (item_count items)) (range_with_len 0 start.harts)) → ls ≡ start_leaves t i
  leaves-start items words start ways ls ways_are is words_are start_is placed =
      placed ∙ ap (λ ws. placed_items 0 ws (map (new_leaf (leaf_sizes t.sizes ways width) start (item_count items)) (range_with_len 0 start.harts))) words_are
      ∙ ap (λ (s : Start). placed_items 0 (start_words t i) (map (new_leaf (leaf_sizes t.sizes ways width) s (item_count items)) (range_with_len 0 s.harts))) start_is
      ∙ ap (λ (table : ItemTable). placed_items 0 (start_words t i) (map (new_leaf (leaf_sizes t.sizes ways width) (start_of_harts t i) (item_count table)) (range_with_len 0 (leaf_count t)))) is
      ∙ ap (λ w. placed_items 0 (start_words t i) (map (new_leaf (leaf_sizes t.sizes w width) (start_of_harts t i) (item_count (start_items t i))) (range_with_len 0 (leaf_count t)))) (sym ways_are)
      ∙ ap (λ w. placed_items 0 (start_words t i) (map (new_leaf (leaf_sizes t.sizes t.way_count w) (start_of_harts t i) (item_count (start_items t i))) (range_with_len 0 (leaf_count t)))) (sym width-is)

  pub items-few : (items : ItemTable) (words : List (List ℕ)) → start_refusal t i ≡ None → items ≡ start_items t i → words ≡ map (λ (row : ItemRow). item_words width i.segments row.address) items.rows → (length words ≡ item_count items) × (item_count items ≤ 65536)
  items-few items words accepted is same =
      let few = accepted_few t i accepted in
      (ap length same ∙ length-map items.rows _, subst (λ (table : ItemTable). item_count table ≤ 65536) (sym is) few)

-- ---- the machine of the start

pub machine-start : (t : TreeValue) (i : ImageValue) (code : List CodeWord) (items : ItemTable) (top : DirValue) (kids : List Node) (counts : TreeCounts) → code ≡ start_code i → items ≡ start_items t i → top ≡ start_top t i → kids ≡ start_kids t i → counts ≡ counts_of t → new_machine code items top kids counts ≡ start_machine t i
machine-start t i code items top kids counts code_is items_is top_is kids_is counts_are = rw (code_is, items_is, top_is, kids_is, counts_are) (sym (start-made t i))

pub top-start : (t : TreeValue) (i : ImageValue) (width down n : ℕ) (top : DirValue) → 4 * width ≡ t.item_bytes → down ≡ t.sizes.down → n ≡ item_count (start_items t i) → top ≡ new_top (top_sizes down width) n → top ≡ start_top t i
top-start t i width down n top size down_is n_is is = is ∙ ap (λ d. new_top (top_sizes d width) n) down_is ∙ ap (new_top (top_sizes t.sizes.down width)) n_is ∙ ap (λ w. new_top (top_sizes t.sizes.down w) (item_count (start_items t i))) (sym (width-is t i width size))

pub new-start : (t : TreeValue) (i : ImageValue) (width : ℕ) (m : MachineValue) (counts : TreeCounts) → 4 * width ≡ t.item_bytes → IsShape t.levels → IsInRange t → start_refusal t i ≡ None → m ≡ start_machine t i → counts ≡ counts_of t → IsNew width m counts
new-start t i width m counts size shape range accepted m_is counts_are =
    let new = start-new t i (tree-is t shape range) accepted in
    subst (λ w. IsNew w m counts) (width-is t i width size) (subst (λ n. IsNew (width_of t) n counts) (sym m_is) (subst (IsNew (width_of t) (start_machine t i)) (sym counts_are) new))

pub items-size : (t : TreeValue) (i : ImageValue) (width : ℕ) (items : ItemTable) → 4 * width ≡ t.item_bytes → items ≡ start_items t i → items.size ≡ 4 * width
unfolding start_items items_of
items-size t i width items size is = ap (λ (table : ItemTable). table.size) is ∙ sym size

pub parts-start : (t : TreeValue) (i : ImageValue) (width down n : ℕ) (code : List CodeWord) (items : ItemTable) (top : DirValue) (kids : List Node) (counts : TreeCounts) → 4 * width ≡ t.item_bytes → code ≡ start_code i → items ≡ start_items t i → down ≡ t.sizes.down → n ≡ item_count items → top ≡ new_top (top_sizes down width) n → kids ≡ start_kids t i → counts ≡ counts_of t
    → new_machine code items top kids counts ≡ start_machine t i
parts-start t i width down n code items top kids counts size code_is items_is down_is n_is top_is kids_is counts_are =
    machine-start t i code items top kids counts code_is items_is (top-start t i width down n top size down_is (n_is ∙ ap item_count items_is) top_is) kids_is counts_are
