-- The children of a bus gone through in order, and the one that is over a leaf.
-- Letters: b is the number of a bus, c the number of a child, t a test, h the number of a leaf.
use Rattle.std.proofs.Common.{◌≡◌, ℕ, zero, suc, ◌+◌, ◌<◌, ◌≤◌, Bool, true, false, List, [], ◌∷◌, length, None, Some, is_some, refl, sym, ap, subst, ◌∙◌, arith}
use Rattle.headline.specs.TreeModel.State.Lists.{find_from}
use Rattle.headline.specs.TreeModel.State.Shape.{IsShaped}
use Rattle.headline.specs.TreeModel.State.Values.{Node, Nodes, leaf_node, dir_node, no_nodes, more_nodes, children, MachineValue}
use Rattle.headline.specs.TreeModel.Turns.Children.{child_at}
use Rattle.headline.specs.TreeModel.Turns.Machine.{child_count}
use Rattle.headline.specs.TreeModel.Turns.Tree.{leaf_of_number, is_named, has_node, has_among}
use Rattle.serving_model.specs.Walk.{is_over, child_over}
use Rattle.serving_walk.specs.Parts.{part_at, kids_of, under, bus_of}
use Rattle.serving_walk.proofs.AtBus.{AtBus, at-bus}

found-from : (t : ℕ → Node → Bool) (i c : ℕ) (ks : List Node) → c < length ks → ((j : ℕ) → j < c → t (i + j) (child_at j ks) ≡ false) → t (i + c) (child_at c ks) ≡ true → find_from t i ks ≡ Some (i + c)
found-from t i c [] l lower here = absurd (omega (arith, l))
found-from t i zero (k ∷ ks) l lower here =
    let same : i + 0 ≡ i = omega arith in
    let passes : t i k ≡ true = subst (λ a. t a k ≡ true) same here in
    rw passes (ap Some (sym same))
found-from t i (suc c) (k ∷ ks) l lower here =
    let none : t i k ≡ false = subst (λ a. t a k ≡ false) (let same : i + 0 ≡ i = omega arith in same) (lower 0 (omega arith)) in
    let further : i + suc c ≡ (i + 1) + c = omega arith in
    let rest = found-from t (i + 1) c ks (omega (arith, l)) (λ j lj. subst (λ a. t a (child_at j ks) ≡ false) (let same : i + suc j ≡ (i + 1) + j = omega arith in same) (lower (suc j) (omega (arith, lj)))) (subst (λ a. t a (child_at c ks) ≡ true) further here) in
    rw none (rest ∙ ap Some (sym further))

none-from : (t : ℕ → Node → Bool) (i : ℕ) (ks : List Node) → ((j : ℕ) → j < length ks → t (i + j) (child_at j ks) ≡ false) → find_from t i ks ≡ None
none-from t i [] lower = refl
none-from t i (k ∷ ks) lower =
    let none : t i k ≡ false = subst (λ a. t a k ≡ false) (let same : i + 0 ≡ i = omega arith in same) (lower 0 (omega arith)) in
    rw none (none-from t (i + 1) ks (λ j lj. subst (λ a. t a (child_at j ks) ≡ false) (let same : i + suc j ≡ (i + 1) + j = omega arith in same) (lower (suc j) (omega (arith, lj)))))

module _ (m : MachineValue) (shaped : IsShaped m) (b kids : ℕ) (is : Some kids ≡ child_count b m) where
  at : AtBus m shaped b
  at = at-bus m shaped b (ap is_some (sym is))

  pub many : length (children (kids_of (part_at (Some b) m))) ≡ kids
  many = ap (λ n. length (children (kids_of n))) at.part ∙ one (length (children at.kids)) kids (sym at.count ∙ sym is) where
    one : (a k : ℕ) → Some a ≡ Some k → a ≡ k
    one a k e = cc

  module _ (t : ℕ → Node → Bool) where
    pub found : (c : ℕ) → c < kids → ((j : ℕ) → j < c → t j (under b j m) ≡ false) → t c (under b c m) ≡ true → Some c ≡ find_from t 0 (children (kids_of (part_at (Some b) m)))
    found c l lower here =
        let zero_more : (j : ℕ) → j ≡ 0 + j = λ j. omega arith in
        ap Some (zero_more c) ∙ sym (found-from t 0 c (children (kids_of (part_at (Some b) m))) (subst (λ k. c < k) (sym many) l) (λ j lj. subst (λ a. t a (under b j m) ≡ false) (zero_more j) (lower j lj)) (subst (λ a. t a (under b c m) ≡ true) (zero_more c) here))

    pub none : (c : ℕ) → kids ≤ c → ((j : ℕ) → j < c → t j (under b j m) ≡ false) → None ≡ find_from t 0 (children (kids_of (part_at (Some b) m)))
    none c l lower =
        let zero_more : (j : ℕ) → j ≡ 0 + j = λ j. omega arith in
        sym (none-from t 0 (children (kids_of (part_at (Some b) m))) (λ j lj. subst (λ a. t a (under b j m) ≡ false) (zero_more j) (lower j (let inside : j < kids = subst (λ k. j < k) many lj in omega (arith, inside, l)))))

-- ---- over a leaf

some-among : (h i : ℕ) (ns : Nodes) → is_some (find_from (is_over h) i (children ns)) ≡ has_among (leaf_of_number h) ns
some-among h i no_nodes = refl
some-among h i (more_nodes n ns) = by (has_node (leaf_of_number h) n) refl (some-among h (i + 1) ns) where
  by : (b : Bool) → has_node (leaf_of_number h) n ≡ b → is_some (find_from (is_over h) (i + 1) (children ns)) ≡ has_among (leaf_of_number h) ns → is_some (find_from (is_over h) i (children (more_nodes n ns))) ≡ has_among (leaf_of_number h) (more_nodes n ns)
  by true e rest = rw e refl
  by false e rest = rw e rest

-- a child that is a leaf, and one that is a directory
pub leaf-over : (h c : ℕ) (n : Node) → None ≡ bus_of n → is_named (leaf_of_number h) n ≡ is_over h c n
leaf-over h c (leaf_node v) e = refl
leaf-over h c (dir_node d ns) e = cc

pub bus-over : (h c p : ℕ) (n : Node) → Some p ≡ bus_of n → is_some (child_over h (kids_of n)) ≡ is_over h c n
bus-over h c p (leaf_node v) e = cc
bus-over h c p (dir_node d ns) e = some-among h 0 ns
