-- Lines of the first elements of lists, and of one more.
-- Letters: x and y are elements, k the number of the first, j that of the next.
use Rattle.std.proofs.Common.{◌≡◌, ◌∙◌, ℕ, zero, suc, ◌+◌, ◌++◌, List, [], ◌∷◌, take, Some, refl, sym, ap, append-nil, append_assoc, arith, add-zero, zero-add, add-one}
use Rattle.std.specs.Prelude.{slice_get}
use Rattle.ddm_types.specs.ItemTable.{ItemRow}
use Rattle.recording_model.specs.TreeModel.State.Values.{LeafValue}
use Rattle.tree_model.specs.declared.DirLengths.{DirLengths}
use Rattle.tree_model.specs.declared.LeafLengths.{LeafLengths}
use Rattle.tree_model.specs.declared.Traffic.{Traffic}
use Rattle.measure_model.specs.declared.HartCounts.{HartCounts}
use Rattle.measure_model.specs.declared.ItemCounts.{ItemCounts}
use Rattle.measure_model.specs.Text.{bus_counts_line, bus_counts_lines, hart_counts_line, hart_counts_lines, item_counts_line, item_counts_lines, leaf_most_line, leaf_most_lines, most_line, most_lines}

-- ---- of two lists

module _ {X Y : Type 0} (line : ℕ → X → Y → List ℕ) where
  abbrev pub pair_lines : ℕ → List X → List Y → List ℕ
  pair_lines k [] ys = []
  pair_lines k (x ∷ xs) [] = []
  pair_lines k (x ∷ xs) (y ∷ ys) = line k x y ++ pair_lines (k + 1) xs ys

  pair-more : (k j : ℕ) (xs : List X) (ys : List Y) (x : X) (y : Y) → slice_get xs j ≡ Some x → slice_get ys j ≡ Some y → pair_lines k (take (suc j) xs) (take (suc j) ys) ≡ pair_lines k (take j xs) (take j ys) ++ line (k + j) x y
  pair-more k j [] ys x y is also = cc
  pair-more k j (a ∷ xs) [] x y is also = cc
  pair-more k zero (a ∷ xs) (b ∷ ys) x y is also =
      let first : a ≡ x = cc in
      let second : b ≡ y = cc in
      append-nil (line k a b) ∙ ap (λ n. line n a b) (sym (add-zero k)) ∙ ap (λ z. line (k + 0) z b) first ∙ ap (line (k + 0) x) second
  pair-more k (suc j) (a ∷ xs) (b ∷ ys) x y is also =
      let next : k + 1 + j ≡ k + suc j = omega arith in
      ap (λ l. line k a b ++ l) (pair-more (k + 1) j xs ys x y is also ∙ ap (λ n. pair_lines (k + 1) (take j xs) (take j ys) ++ line n x y) next) ∙ sym (append_assoc (line k a b) (pair_lines (k + 1) (take j xs) (take j ys)) (line (k + suc j) x y))

  pub pair-next : (j : ℕ) (xs : List X) (ys : List Y) (x : X) (y : Y) → slice_get xs j ≡ Some x → slice_get ys j ≡ Some y → pair_lines 0 (take (j + 1) xs) (take (j + 1) ys) ≡ pair_lines 0 (take j xs) (take j ys) ++ line j x y
  pair-next j xs ys x y is also = rw add-one (pair-more 0 j xs ys x y is also ∙ ap (λ n. pair_lines 0 (take j xs) (take j ys) ++ line n x y) (zero-add j))

pub harts-paired : (k : ℕ) (vs : List LeafValue) (cs : List HartCounts) → hart_counts_lines vs cs ≡ pair_lines (λ n v c. hart_counts_line v c) k vs cs
harts-paired k [] cs = refl
harts-paired k (v ∷ vs) [] = refl
harts-paired k (v ∷ vs) (c ∷ cs) = ap (λ l. hart_counts_line v c ++ l) (harts-paired (k + 1) vs cs)

pub buses-paired : (k : ℕ) (ts : List Traffic) (ns : List ℕ) → bus_counts_lines k ts ns ≡ pair_lines bus_counts_line k ts ns
buses-paired k [] ns = refl
buses-paired k (t ∷ ts) [] = refl
buses-paired k (t ∷ ts) (n ∷ ns) = ap (λ l. bus_counts_line k t n ++ l) (buses-paired (k + 1) ts ns)

pub items-paired : (k : ℕ) (rows : List ItemRow) (cs : List ItemCounts) → item_counts_lines k rows cs ≡ pair_lines item_counts_line k rows cs
items-paired k [] cs = refl
items-paired k (row ∷ rows) [] = refl
items-paired k (row ∷ rows) (c ∷ cs) = ap (λ l. item_counts_line k row c ++ l) (items-paired (k + 1) rows cs)

-- ---- of one list

module _ {X : Type 0} (line : ℕ → X → List ℕ) where
  abbrev pub single_lines : ℕ → List X → List ℕ
  single_lines k [] = []
  single_lines k (x ∷ xs) = line k x ++ single_lines (k + 1) xs

  single-more : (k j : ℕ) (xs : List X) (x : X) → slice_get xs j ≡ Some x → single_lines k (take (suc j) xs) ≡ single_lines k (take j xs) ++ line (k + j) x
  single-more k j [] x is = cc
  single-more k zero (a ∷ xs) x is =
      let first : a ≡ x = cc in
      append-nil (line k a) ∙ ap (λ n. line n a) (sym (add-zero k)) ∙ ap (line (k + 0)) first
  single-more k (suc j) (a ∷ xs) x is =
      let next : k + 1 + j ≡ k + suc j = omega arith in
      ap (λ l. line k a ++ l) (single-more (k + 1) j xs x is ∙ ap (λ n. single_lines (k + 1) (take j xs) ++ line n x) next) ∙ sym (append_assoc (line k a) (single_lines (k + 1) (take j xs)) (line (k + suc j) x))

  pub single-next : (j : ℕ) (xs : List X) (x : X) → slice_get xs j ≡ Some x → single_lines 0 (take (j + 1) xs) ≡ single_lines 0 (take j xs) ++ line j x
  single-next j xs x is = rw add-one (single-more 0 j xs x is ∙ ap (λ n. single_lines 0 (take j xs) ++ line n x) (zero-add j))

pub mosts-single : (k : ℕ) (ls : List DirLengths) → most_lines k ls ≡ single_lines most_line k ls
mosts-single k [] = refl
mosts-single k (l ∷ ls) = ap (λ t. most_line k l ++ t) (mosts-single (k + 1) ls)

pub leaf-mosts-single : (k : ℕ) (ls : List LeafLengths) → leaf_most_lines k ls ≡ single_lines leaf_most_line k ls
leaf-mosts-single k [] = refl
leaf-mosts-single k (l ∷ ls) = ap (λ t. leaf_most_line k l ++ t) (leaf-mosts-single (k + 1) ls)
