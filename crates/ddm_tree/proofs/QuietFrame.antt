-- What a bus finds nothing of stays so when another node of the tree is changed.
-- Letters: t is a turn of a bus, q the path to it, p the path to the changed node, n the tree, m a child, d a directory over ns, c and i
-- children.
use Rattle.std.proofs.Common.{◌≡◌, ℕ, ◌++◌, Bool, true, false, List, [], ◌∷◌, length, refl, sym, ap, subst, ◌∙◌, arith}
use Rattle.std.specs.Prelude.{nat_lt, slice_set}
use Rattle.std.proofs.lemmas.Bool.{ltb-true, ltb-false}
use Rattle.std.proofs.lemmas.List.{set_past}
use native.Mathlib.Decide.{ℕ_discrete}
use Rattle.ddm_tree.specs.TreeModel.declared.BusTurn.{BusTurn}
use Rattle.ddm_tree.specs.TreeModel.Laws.{kept_of}
use Rattle.ddm_tree.specs.TreeModel.State.Values.{DirValue, Node, Nodes, leaf_node, dir_node, nodes, children}
use Rattle.ddm_tree.specs.TreeModel.Turns.Children.{child_at}
use Rattle.ddm_tree.proofs.TreeModel.Children.{children-nodes}
use Rattle.ddm_tree.specs.Path.{node_at, put_at}
use Rattle.ddm_tree.proofs.IdleHarts.{SameFrom, kid-other, kid-same, put-kids, put-same}
use Rattle.ddm_tree.specs.Quiet.{KeepsQuiet, OfChild, finds_nothing}

abbrev pub Finds : BusTurn → Node → Type 0
Finds t n = finds_nothing t n ≡ true

-- ---- where nothing is changed, and where only a bus's own children are the same

pub finds-unchanged : (t : BusTurn) (p q : List ℕ) (n new : Node) → new ≡ node_at p n → Finds t (node_at q n) → Finds t (node_at q (put_at p new n))
finds-unchanged t p q n new same none = subst (λ m. Finds t (node_at q m)) (sym (put-same p n) ∙ ap (λ k. put_at p k n) (sym same)) none

-- a directory that keeps its children finds what these show
pub finds-kept : (t : BusTurn) (n m : Node) → kept_of m ≡ kept_of n → (t ≡ BusTurn.Down → ⊥) → Finds t n → Finds t m
finds-kept t (leaf_node v) m same up none = cc
finds-kept t (dir_node d ns) (leaf_node v) same up none = cc
finds-kept BusTurn.Down (dir_node d ns) (dir_node e ms) same up none = absurd (up refl)
finds-kept (BusTurn.Request c) (dir_node d ns) (dir_node e ms) same up none =
    let kids : ms ≡ ns = cc in
    rw kids none
finds-kept (BusTurn.Reply c) (dir_node d ns) (dir_node e ms) same up none =
    let kids : ms ≡ ns = cc in
    rw kids none
finds-kept (BusTurn.Leave c choice) (dir_node d ns) (dir_node e ms) same up none =
    let kids : ms ≡ ns = cc in
    rw kids none

-- ---- what a bus finds of its children

keeps-self : (m : Node) → KeepsQuiet m m
keeps-self m = record { request = λ none. none; reply = λ none. none; leaving = λ choice none. none }

-- a child that is changed, or below which a node is changed, shows its bus no more than before
put-keeps : (i : ℕ) (p : List ℕ) (m new : Node) → ((k : ℕ) → i ∷ p ≡ k ∷ [] → KeepsQuiet (node_at p m) new) → KeepsQuiet m (put_at p new m)
put-keeps i [] m new above = above i refl
put-keeps i (j ∷ p) (leaf_node v) new above = keeps-self (leaf_node v)
put-keeps i (j ∷ p) (dir_node d ns) new above = record { request = λ none. none; reply = λ none. none; leaving = λ choice none. none }

-- the child that is set
set-keeps : (i : ℕ) (ms : List Node) (m : Node) → KeepsQuiet (child_at i ms) m → (b : Bool) → nat_lt i (length ms) ≡ b → KeepsQuiet (child_at i ms) (child_at i (slice_set ms i m))
set-keeps i ms m keeps true inside = subst (KeepsQuiet (child_at i ms)) (sym (kid-same i ms m (ltb-true _ _ inside))) keeps
set-keeps i ms m keeps false past = subst (λ ks. KeepsQuiet (child_at i ms) (child_at i ks)) (sym (set_past ms i m (ltb-false _ _ past))) (keeps-self (child_at i ms))

-- the child that is looked at, where it is another one or shows no more than before
each-keeps : (i c : ℕ) (ms : List Node) (m : Node) → (c ≡ i → KeepsQuiet (child_at i ms) m) → Dec (c ≡ i) → KeepsQuiet (child_at c ms) (child_at c (slice_set ms i m))
each-keeps i c ms m keeps (yes is) = subst (λ k. KeepsQuiet (child_at k ms) (child_at k (slice_set ms i m))) (sym is) (set-keeps i ms m (keeps is) (nat_lt i (length ms)) refl)
each-keeps i c ms m keeps (no other) = subst (KeepsQuiet (child_at c ms)) (sym (kid-other i c ms m other)) (keeps-self (child_at c ms))

-- a directory of which one child is set
module _ (d : DirValue) (ns : Nodes) (i : ℕ) (m : Node) where
  abbrev kids : List Node
  kids = slice_set (children ns) i m

  set-finds : (t : BusTurn) → (OfChild i t → KeepsQuiet (child_at i (children ns)) m) → Finds t (dir_node d ns) → Finds t (dir_node d (nodes kids))
  set-finds BusTurn.Down keeps none = none
  set-finds (BusTurn.Request c) keeps none = rw (children-nodes kids) ((each-keeps i c (children ns) m keeps (ℕ_discrete c i)).request none)
  set-finds (BusTurn.Reply c) keeps none = rw (children-nodes kids) ((each-keeps i c (children ns) m keeps (ℕ_discrete c i)).reply none)
  set-finds (BusTurn.Leave c choice) keeps none = rw (children-nodes kids) ((each-keeps i c (children ns) m keeps (ℕ_discrete c i)).leaving choice none)

-- ---- the frame

module _ (t : BusTurn) (new : Node) where
  -- what has to be known of the changed node, at the node that is looked at
  record IsAround (p q : List ℕ) (n : Node) : Type 0 where
    same : SameFrom 2 (node_at p n) new
    here : q ≡ p → Finds t new
    above : (i : ℕ) → p ≡ q ++ i ∷ [] → OfChild i t → KeepsQuiet (node_at p n) new
    beneath : (c : ℕ) → q ≡ p ++ c ∷ [] → Finds t (node_at (c ∷ []) new)

  abbrev StaysSo : List ℕ → List ℕ → Node → Type 0
  StaysSo p q n = Finds t (node_at q n) → Finds t (node_at q (put_at p new n))

  -- of the child that both paths go through
  around-kid : (i : ℕ) (p q : List ℕ) (d : DirValue) (ns : Nodes) → IsAround (i ∷ p) (i ∷ q) (dir_node d ns) → IsAround p q (child_at i (children ns))
  around-kid i p q d ns around = record {
    same = around.same;
    here = λ is. around.here (ap (λ r. i ∷ r) is);
    above = λ k is of. around.above k (ap (λ r. i ∷ r) is) of;
    beneath = λ c is. around.beneath c (ap (λ r. i ∷ r) is);
  }

  -- from the changed node on
  stays-from : (q : List ℕ) (n : Node) → IsAround [] q n → StaysSo [] q n
  stays-from [] n around none = around.here refl
  stays-from (c ∷ []) n around none = around.beneath c refl
  stays-from (c ∷ j ∷ r) n around none = subst (Finds t) (sym (around.same (c ∷ j ∷ r) (omega arith))) none

  -- above the changed node
  first-is : (i k : ℕ) (p : List ℕ) → i ∷ p ≡ k ∷ [] → i ≡ k
  first-is i k p e = cc

  stays-over : (i : ℕ) (p : List ℕ) (d : DirValue) (ns : Nodes) → IsAround (i ∷ p) [] (dir_node d ns) → StaysSo (i ∷ p) [] (dir_node d ns)
  stays-over i p d ns around none = set-finds d ns i (put_at p new (child_at i (children ns))) t (λ of. put-keeps i p (child_at i (children ns)) new (λ k is. around.above k is (subst (λ c. OfChild c t) (first-is i k p is) of))) none

  -- through the child that the path goes through
  stays-kid : (i : ℕ) (p q : List ℕ) (d : DirValue) (ns : Nodes) → StaysSo p q (child_at i (children ns)) → (b : Bool) → nat_lt i (length (children ns)) ≡ b → StaysSo (i ∷ p) (i ∷ q) (dir_node d ns)
  stays-kid i p q d ns stays true inside none = subst (Finds t) (sym (put-kids i p q i d ns new ∙ ap (node_at q) (kid-same i (children ns) _ (ltb-true _ _ inside)))) (stays none)
  stays-kid i p q d ns stays false past none = subst (Finds t) (sym (put-kids i p q i d ns new ∙ ap (λ ms. node_at q (child_at i ms)) (set_past (children ns) i _ (ltb-false _ _ past)))) none

  -- through any child
  stays-through : (i j : ℕ) (p q : List ℕ) (d : DirValue) (ns : Nodes) → (IsAround p q (child_at i (children ns)) → StaysSo p q (child_at i (children ns))) → IsAround (i ∷ p) (j ∷ q) (dir_node d ns) → Dec (j ≡ i) → StaysSo (i ∷ p) (j ∷ q) (dir_node d ns)
  stays-through i j p q d ns below around (yes is) =
      let own : IsAround (i ∷ p) (i ∷ q) (dir_node d ns) = subst (λ k. IsAround (i ∷ p) (k ∷ q) (dir_node d ns)) is around in
      let kid : StaysSo (i ∷ p) (i ∷ q) (dir_node d ns) = stays-kid i p q d ns (below (around-kid i p q d ns own)) (nat_lt i (length (children ns))) refl in
      subst (λ k. StaysSo (i ∷ p) (k ∷ q) (dir_node d ns)) (sym is) kid
  stays-through i j p q d ns below around (no other) = λ none. subst (Finds t) (sym (put-kids i p q j d ns new ∙ ap (node_at q) (kid-other i j (children ns) _ other))) none

  stays-around : (p q : List ℕ) (n : Node) → IsAround p q n → StaysSo p q n
  stays-around [] q n around none = stays-from q n around none
  stays-around (i ∷ p) q (leaf_node v) around none = none
  stays-around (i ∷ p) [] (dir_node d ns) around none = stays-over i p d ns around none
  stays-around (i ∷ p) (j ∷ q) (dir_node d ns) around none = stays-through i j p q d ns (stays-around p q (child_at i (children ns))) around (ℕ_discrete j i) none

pub finds-frame : (t : BusTurn) (p q : List ℕ) (n new : Node)
    → SameFrom 2 (node_at p n) new
    -- at the changed node itself
    → (q ≡ p → Finds t new)
    -- at its parent: the changed node shows its bus no more than before, or the turn is another child's
    → ((i : ℕ) → p ≡ q ++ i ∷ [] → OfChild i t → KeepsQuiet (node_at p n) new)
    -- at its children
    → ((c : ℕ) → q ≡ p ++ c ∷ [] → Finds t (node_at (c ∷ []) new))
    → Finds t (node_at q n)
    → Finds t (node_at q (put_at p new n))
finds-frame t p q n new same here above beneath none = stays-around t new p q n (record { same = same; here = here; above = above; beneath = beneath }) none
