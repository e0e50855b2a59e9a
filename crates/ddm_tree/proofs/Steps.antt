-- One step down a path, where the children are seen through f.
use Rattle.std.proofs.Common.{◌≡◌, ◌<◌, ◌≤◌, ℕ, zero, suc, Bool, true, List, [], ◌∷◌, length, map, get_or, refl, sym, ap, subst, ◌∙◌, arith}
use Rattle.std.specs.Prelude.{nat_eq, nat_lt, nat_le, slice_set, All}
use Rattle.std.proofs.lemmas.Bool.{eqb-true, leb-true}
use Rattle.std.proofs.lemmas.List.{get_or-map, map-set, length-map, nil_from_length}
use Rattle.ddm_tree.specs.DdmTypes.declared.keys.Stamp.{Stamp}
use Rattle.ddm_tree.specs.DdmTypes.declared.turns.Turn.{Turn}
use Rattle.ddm_tree.specs.DdmTypes.ItemTable.{ItemTable}
use Rattle.ddm_tree.specs.DdmTypes.CodeMap.{CodeWord}
use Rattle.ddm_tree.specs.TreeModel.Turns.Bus.{bus_step}
use Rattle.ddm_tree.specs.TreeModel.Turns.Machine.{bus_turn_of}
use Rattle.ddm_tree.specs.TreeModel.declared.BusTurn.{BusTurn}
use Rattle.ddm_tree.specs.TreeModel.State.Values.{DirValue, Node, leaf_node, dir_node, nodes, children}
use Rattle.ddm_tree.specs.TreeModel.State.Blank.{no_node}
use Rattle.ddm_tree.specs.TreeModel.State.Directory.{stamp_of}
use Rattle.ddm_tree.specs.TreeModel.State.Child.{child_label, child_hold}
use Rattle.ddm_tree.specs.TreeModel.State.Shape.{skeleton, skeletons, bone_count, widths_fit, widths_fit_among}
use Rattle.ddm_tree.specs.TreeModel.Turns.Children.{child_at}
use Rattle.ddm_tree.specs.TreeModel.Turns.Tree.{Name, leaf_of_number}
use Rattle.ddm_tree.proofs.TreeModel.Children.{children-nodes}
use Rattle.ddm_tree.proofs.TreeModel.Tests.{and-first, and-second}
use Rattle.ddm_tree.specs.ItemStates.Parts.{node_items}
use Rattle.split_bus.specs.Outcomes.{AreSized, NamesOneOf}
use Rattle.ddm_tree.specs.Path.{node_at, present_at, put_at, node_answer, node_turned}
use Rattle.ddm_tree.specs.Ready.{IsReady, Leads, LeadsBelow, HasChild, IsChild, IsItemOf}
use Rattle.ddm_tree.specs.Reads.{leaving_count, node_children, node_child, node_child_hold, node_leaving_count}
use Rattle.ddm_tree.specs.TreeModel.State.Place.{Where}
use Rattle.ddm_tree.proofs.Along.{leads-among, some_if-same}
use Rattle.ddm_tree.proofs.Descend.{LeadsOn, leads-child, bones-counted, IsReadyBus, ready-bus, ready-items, buses-child}

-- a leaf is at the end of every path to it
leads-below : (name : Name) (path : List ℕ) (n : Node) → Leads name path n → LeadsBelow name path n
leads-below name path (leaf_node v) leads = sym (some_if-same _ path leads)
leads-below name path (dir_node d ns) leads = leads

module _ {A : Type 0} (f : A → Node) (d : DirValue) (xs : List A) (name : Name) (path : List ℕ) (i : ℕ) (rest : List ℕ) (on : path ≡ i ∷ rest) (leads : Leads name path (dir_node d (nodes (map f xs)))) where
  leads-on : LeadsOn name i rest (map f xs)
  leads-on =
      let first : Leads name (i ∷ rest) (dir_node d (nodes (map f xs))) = rw on at leads in
      rw (children-nodes (map f xs)) at (leads-child name d (nodes (map f xs)) i rest first)

  pub step-inside : i < length xs
  step-inside = omega (arith, leads-on.there, length-map xs f)

  -- the child by its number
  pub step-ready : (items width : ℕ) → IsReady items width (dir_node d (nodes (map f xs))) → IsReady items width (child_at i (map f xs))
  step-ready items width ready =
      let bus : IsReadyBus items width d (map f xs) = rw (children-nodes (map f xs)) at (ready-bus items width d (nodes (map f xs)) ready) in
      bus.each i leads-on.there

  pub step-down : Leads name rest (child_at i (map f xs))
  step-down = leads-on.leads

  pub node-down : node_at path (dir_node d (nodes (map f xs))) ≡ node_at rest (child_at i (map f xs))
  node-down = rw on (ap (λ ns. node_at rest (child_at i ns)) (children-nodes (map f xs)))

  pub present-down : (s : Stamp) → present_at path s (dir_node d (nodes (map f xs))) ≡ present_at rest (stamp_of d) (child_at i (map f xs))
  present-down s = rw on (ap (λ ns. present_at rest (stamp_of d) (child_at i ns)) (children-nodes (map f xs)))

  pub put-down : (new : Node) → dir_node d (nodes (slice_set (map f xs) i (put_at rest new (child_at i (map f xs))))) ≡ put_at path new (dir_node d (nodes (map f xs)))
  put-down new = rw on (ap (λ ns. dir_node d (nodes (slice_set ns i (put_at rest new (child_at i ns))))) (sym (children-nodes (map f xs))))

  module _ (code : List CodeWord) (items : ItemTable) (t : Turn) (whole : List ℕ) (present s : Stamp) (below : s ≡ stamp_of d) where
    pub answer-down : node_answer code items t whole (present_at rest s (child_at i (map f xs))) (node_at rest (child_at i (map f xs))) ≡ node_answer code items t whole (present_at path present (dir_node d (nodes (map f xs)))) (node_at path (dir_node d (nodes (map f xs))))
    answer-down = rw (below, present-down present, node-down) refl

    pub after-down : (ns : List Node) → ns ≡ slice_set (map f xs) i (put_at rest (node_turned code items t whole (present_at rest s (child_at i (map f xs))) (node_at rest (child_at i (map f xs)))) (child_at i (map f xs)))
        → dir_node d (nodes ns) ≡ put_at path (node_turned code items t whole (present_at path present (dir_node d (nodes (map f xs)))) (node_at path (dir_node d (nodes (map f xs))))) (dir_node d (nodes (map f xs)))
    after-down ns e =
        let turned : node_turned code items t whole (present_at rest s (child_at i (map f xs))) (node_at rest (child_at i (map f xs))) ≡ node_turned code items t whole (present_at path present (dir_node d (nodes (map f xs)))) (node_at path (dir_node d (nodes (map f xs)))) = rw (below, present-down present, node-down) refl in
        ap (λ ms. dir_node d (nodes ms)) e ∙ put-down _ ∙ ap (λ new. put_at path new (dir_node d (nodes (map f xs)))) turned

  module _ (x : A) (is : x ≡ get_or xs i x) where
    step-at : child_at i (map f xs) ≡ f x
    step-at = get_or-map f xs i x no_node step-inside ∙ ap f (sym is)

    step-child : child_at i (children (nodes (map f xs))) ≡ f x
    step-child = ap (child_at i) (children-nodes (map f xs)) ∙ step-at

    pub step-fits : widths_fit (skeleton (dir_node d (nodes (map f xs)))) ≡ true → widths_fit (skeleton (f x)) ≡ true
    step-fits fit =
        let some = and-second (nat_lt 0 (bone_count (skeletons (nodes (map f xs))))) _ fit in
        let each = buses-child (nodes (map f xs)) i (and-second (nat_le (bone_count (skeletons (nodes (map f xs)))) 16) _ some) (omega (arith, leads-on.there, ap length (children-nodes (map f xs)))) in
        ap (λ n. widths_fit (skeleton n)) (sym step-child) ∙ each

    pub step-leads : Leads name rest (f x)
    step-leads = rw step-at at leads-on.leads

    pub step-below : LeadsBelow name rest (f x)
    step-below = leads-below name rest (f x) step-leads

    pub step-node : node_at path (dir_node d (nodes (map f xs))) ≡ node_at rest (f x)
    step-node = rw on (ap (node_at rest) step-child)

    pub step-present : (s : Stamp) → present_at path s (dir_node d (nodes (map f xs))) ≡ present_at rest (stamp_of d) (f x)
    step-present s = rw on (ap (present_at rest (stamp_of d)) step-child)

-- where the list has the index, what stands where it hasn't is never read
get_or-same : {X : Type 0} (xs : List X) (k : ℕ) (d e : X) → k < length xs → get_or xs k d ≡ get_or xs k e
get_or-same [] k d e h = absurd (omega arith)
get_or-same (x ∷ xs) zero d e h = refl
get_or-same (x ∷ xs) (suc k) d e h = get_or-same xs k d e (omega arith)

-- a directory's bus, where it is ready
pub own-ready : {A : Type 0} (f : A → Node) (d : DirValue) (xs : List A) (items width : ℕ) → IsReady items width (dir_node d (nodes (map f xs))) → IsReadyBus items width d (map f xs)
own-ready f d xs items width ready = rw (children-nodes (map f xs)) at (ready-bus items width d (nodes (map f xs)) ready)

-- each child keeps something of as many items as the directory
pub own-sized : {A : Type 0} (f : A → Node) (d : DirValue) (xs : List A) (items width : ℕ) → IsReady items width (dir_node d (nodes (map f xs))) → AreSized d (map f xs)
own-sized f d xs items width ready k e within =
    let bus = own-ready f d xs items width ready in
    ap node_items (get_or-same (map f xs) k e no_node within) ∙ ready-items items width (child_at k (map f xs)) (bus.each k within) ∙ sym bus.own

-- a leaf isn't a directory, so the path to it goes on
pub leaf-on : (number : ℕ) (path : List ℕ) (d : DirValue) (ns : List Node) → Leads (leaf_of_number number) path (dir_node d (nodes ns)) → 0 < length path
leaf-on number [] d ns leads =
    let found = leads-among (leaf_of_number number) (λ (w : Where) (n : Node). n) (λ (w : Where) (n : Node). n) [] d 0 (nodes ns) [] leads in
    let no = found.2.is in
    cc
leaf-on number (i ∷ rest) d ns leads = omega arith

-- ---- the directory's own bus

pub own-path : (path : List ℕ) (empty : Bool) → empty ≡ nat_eq (length path) 0 → empty ≡ true → path ≡ []
own-path path empty is true_of = nil_from_length path (eqb-true _ _ (sym is ∙ true_of))

module _ {A : Type 0} (f : A → Node) (d : DirValue) (xs : List A) (path : List ℕ) (own : path ≡ []) where
  pub own-children : node_children (node_at path (dir_node d (nodes (map f xs)))) ≡ length xs
  own-children = rw (own, children-nodes (map f xs)) (length-map xs f)

  pub own-few : widths_fit (skeleton (dir_node d (nodes (map f xs)))) ≡ true → length xs ≤ 16
  own-few fit =
      let some = and-second (nat_lt 0 (bone_count (skeletons (nodes (map f xs))))) _ fit in
      let few : bone_count (skeletons (nodes (map f xs))) ≤ 16 = leb-true _ _ (and-first _ (widths_fit_among (skeletons (nodes (map f xs)))) some) in
      let count : bone_count (skeletons (nodes (map f xs))) ≡ length xs = bones-counted (nodes (map f xs)) ∙ ap length (children-nodes (map f xs)) ∙ length-map xs f in
      omega (arith, few, count)

  module _ (c : ℕ) (within : IsChild c (node_at path (dir_node d (nodes (map f xs))))) where
    pub own-inside : c < length xs
    own-inside =
        let here : c < length (children (nodes (map f xs))) = rw own at within in
        omega (arith, here, ap length (children-nodes (map f xs)), length-map xs f)

    module _ (x : A) (is : x ≡ get_or xs c x) where
      own-at : child_at c (children (nodes (map f xs))) ≡ f x
      own-at = ap (child_at c) (children-nodes (map f xs)) ∙ get_or-map f xs c x no_node own-inside ∙ ap f (sym is)

      pub own-label : node_child c (node_at path (dir_node d (nodes (map f xs)))) ≡ child_label (f x)
      own-label = rw own (ap child_label own-at)

      pub own-hold : (item : ℕ) → node_child_hold c item (node_at path (dir_node d (nodes (map f xs)))) ≡ child_hold item (f x)
      own-hold item = rw own (ap (child_hold item) own-at)

      pub own-leaving : node_leaving_count c (node_at path (dir_node d (nodes (map f xs)))) ≡ leaving_count (f x)
      own-leaving = rw own (ap leaving_count own-at)

      pub own-items : (item : ℕ) → IsItemOf c item (node_at path (dir_node d (nodes (map f xs)))) → item < node_items (f x)
      own-items item known =
          let here : item < node_items (child_at c (children (nodes (map f xs)))) = rw own at known in
          subst (λ n. item < node_items n) own-at here

  -- ---- its turn

  pub own-named : (t b : BusTurn) → b ≡ t → HasChild t (node_at path (dir_node d (nodes (map f xs)))) → NamesOneOf (length xs) b
  own-named t b same has =
      let here : HasChild t (dir_node d (nodes (map f xs))) = rw own at has in
      let named : NamesOneOf (length (map f xs)) t = rw (children-nodes (map f xs)) at here in
      rw same (rw (length-map xs f) at named)

  module _ (code : List CodeWord) (items : ItemTable) (t : Turn) (whole : List ℕ) (present : Stamp) where
    pub own-answer : node_answer code items t whole (present_at path present (dir_node d (nodes (map f xs)))) (node_at path (dir_node d (nodes (map f xs)))) ≡ (bus_step present (bus_turn_of t) d (map f xs)).answer
    own-answer = rw own (ap (λ ns. (bus_step present (bus_turn_of t) d ns).answer) (children-nodes (map f xs)))

    pub own-after : put_at path (node_turned code items t whole (present_at path present (dir_node d (nodes (map f xs)))) (node_at path (dir_node d (nodes (map f xs))))) (dir_node d (nodes (map f xs)))
        ≡ (let o = bus_step present (bus_turn_of t) d (map f xs) in dir_node o.parent (nodes o.kids))
    own-after = rw own (ap (λ ns. (let o = bus_step present (bus_turn_of t) d ns in dir_node o.parent (nodes o.kids))) (children-nodes (map f xs)))

-- ---- one child

-- child c became F of what it was
pub set-child : {A : Type 0} (f : A → Node) (xs : List A) (c i : ℕ) (F : Node → Node) (x y : A) → i ≡ c → c < length xs → f y ≡ F (f (get_or xs i x)) → map f (slice_set xs i y) ≡ slice_set (map f xs) c (F (child_at c (map f xs)))
set-child f xs c i F x y same within e =
    let was : f (get_or xs c x) ≡ child_at c (map f xs) = sym (get_or-map f xs c x no_node within) in
    rw same (map-set f xs c y ∙ ap (slice_set (map f xs) c) (rw same at e ∙ ap F was))

-- each child's buses have 1 to 16 children, where those of the directory have
pub kids-fit : {A : Type 0} (f : A → Node) (d : DirValue) (xs : List A) → widths_fit (skeleton (dir_node d (nodes (map f xs)))) ≡ true → All (λ n. widths_fit (skeleton n) ≡ true) (map f xs)
kids-fit f d xs fit k e within =
    let some = and-second (nat_lt 0 (bone_count (skeletons (nodes (map f xs))))) _ fit in
    let each = buses-child (nodes (map f xs)) k (and-second (nat_le (bone_count (skeletons (nodes (map f xs)))) 16) _ some) (omega (arith, within, ap length (children-nodes (map f xs)))) in
    ap (λ n. widths_fit (skeleton n)) (get_or-same (map f xs) k e no_node within ∙ sym (ap (child_at k) (children-nodes (map f xs)))) ∙ each
