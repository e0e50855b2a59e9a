-- A hart's turn in a machine at rest: what it leaves of the leaf, and of all others, where no other leaf has an entry
-- of the item that it stores to.
-- Letters: n is how many items there are, x the item, h the hart and its leaf, m a part, d a directory over the children
-- ns, v a leaf, c the child over the leaf.
use Rattle.std.proofs.Common.{◌≡◌, ◌≢◌, ℕ, ◌+◌, ◌<◌, Bool, true, false, List, length, Option, Some, None, refl, sym, ap, subst, ◌∙◌, arith}
use Rattle.std.specs.Prelude.{nat_eq, slice_set}
use Rattle.std.specs.Bool.{beq}
use Rattle.std.proofs.lemmas.Bool.{and_parts, true≢false}
use Rattle.serving_model.specs.DdmTypes.CodeMap.{CodeWord}
use Rattle.serving_model.specs.DdmTypes.ItemTable.{ItemTable}
use Rattle.serving_model.specs.DdmTypes.declared.sizes.Hold.{Hold}
use Rattle.serving_model.specs.DdmTypes.declared.sizes.LeafState.{LeafState}
use Rattle.serving_model.specs.DdmTypes.declared.turns.Turn.{Turn}
use Rattle.serving_model.specs.TreeModel.State.States.{is_held, is_exclusive, may_leave}
use Rattle.serving_model.specs.TreeModel.State.Values.{WayValue, LeafValue, DirValue, Node, Nodes, leaf_node, dir_node, nodes, children}
use Rattle.serving_model.specs.TreeModel.State.Leaf.{way_at, entry_at, leaf_hold}
use Rattle.serving_model.specs.TreeModel.State.Directory.{dir_hold}
use Rattle.serving_model.specs.TreeModel.State.Child.{child_hold, child_holds}
use Rattle.serving_model.specs.TreeModel.State.Blank.{no_node}
use Rattle.serving_model.specs.TreeModel.State.Place.{Where, at_child, key_at_leaf, where_path, spot_in}
use Rattle.serving_model.specs.TreeModel.Turns.Children.{child_at}
use Rattle.serving_model.specs.TreeModel.Turns.Tree.{Name, leaf_of_number, has_node, has_among, changed_in, changed_among}
use Rattle.serving_model.specs.TreeModel.Turns.HartTurn.{leaf_step}
use Rattle.serving_model.specs.TreeModel.Turns.Machine.{node_after}
use Rattle.serving_model.specs.TreeRules.Bus.Faces.{parent_face, child_face, faces_of}
use Rattle.serving_model.specs.TreeRules.Bus.Item.{holds_exclusive, one_holds, Bits, bits_of}
use Rattle.serving_model.specs.TreeRules.Bus.Rules.{IsBusOk}
use Rattle.serving_model.specs.Rest.{way_rests, dir_rests}
use Rattle.serving_model.specs.Parts.{FlatView, LeafHas, Settled, Calm}
use Rattle.serving_model.specs.OneLeaf.{Spine, at_leaf, over}
use Rattle.bus_laws.proofs.Answering.{child-hold}
use Rattle.bus_laws.proofs.BitsOf.{any-true, one-at}
use Rattle.serving_model.proofs.TreeRules.Implying.{implies-use}
use Rattle.serving_model.proofs.TreeModel.Children.{nodes-children}
use Rattle.serving_model.proofs.Lists.{pass-at, part-induction, set-each}
use Rattle.serving_model.proofs.Dirs.{DirRests, dir-rests}
use Rattle.serving_model.proofs.Settled.{LeafRests, leaf-rests, calm-dir, settled-dir, not-parked, resting}
use Rattle.serving_model.proofs.Give.{dir-knows}
use Rattle.serving_model.proofs.Steps.{change-child}
use Rattle.serving_model.proofs.Spine.{children-lack}
use Rattle.serving_model.proofs.Issued.{has-child, spine-has}
use Rattle.serving_model.proofs.Numbers.{ChildCounted, child-counted, others-lack}

-- ---- a bus

held-exclusive : (hold : Hold) → is_exclusive hold ≡ true → is_held hold ≡ true
held-exclusive Hold.Invalid e = cc
held-exclusive Hold.Shared e = refl
held-exclusive Hold.Exclusive e = refl

module _ (n x : ℕ) (within : x < n) (d : DirValue) (ns : List Node) (bus : IsBusOk n d ns) (rests : dir_rests d ≡ true) (c : ℕ) (there : c < length ns) (exclusive : is_exclusive (child_hold x (child_at c ns)) ≡ true) where
  abbrev bits : Bits
  bits = bits_of (parent_face x d) (faces_of x ns)

  r : DirRests x d
  r = dir-rests x d (dir-knows n x within d ns bus) rests

  some : bits.exclusive ≡ true
  some = any-true (child_face x) no_node holds_exclusive ns c there (ap is_exclusive (sym (child-hold x (child_at c ns))) ∙ exclusive)

  both : (bits.sole ≡ true) × (is_exclusive (dir_hold x d) ≡ true)
  both = and_parts bits.sole (is_exclusive (dir_hold x d)) (implies-use _ _ (and_parts (beq (is_held (dir_hold x d)) bits.held) _ (resting n x within d ns bus r.items.note r.items.answers r.lists)).1 some)

  -- a child that holds the item Exclusive is the only one that holds it, and the directory holds it Exclusive
  pub dir-exclusive : is_exclusive (dir_hold x d) ≡ true
  dir-exclusive = both.1

  sole-is : bits.sole ≡ one_holds (faces_of x ns)
  sole-is = rw (not-parked n x within d ns bus r.items.note r.items.answers r.lists) refl

  pub others-invalid : (j : ℕ) → j < length ns → j ≢ c → child_holds x (child_at j ns) ≡ false
  others-invalid j l ne = ap is_held (child-hold x (child_at j ns)) ∙ one-at (child_face x) no_node ns c j (sym sole-is ∙ both.0) there (ap is_held (sym (child-hold x (child_at c ns))) ∙ held-exclusive (child_hold x (child_at c ns)) exclusive) l ne

-- ---- beside the leaf

no-entry : (x : ℕ) (v : LeafValue) → LeafRests v → child_holds x (leaf_node v) ≡ false → way_at x v.ways ≡ None
unfolding leaf_hold entry_at
no-entry x v r lacks = at (way_at x v.ways) refl where
  held : (s : LeafState) (e : WayValue) → way_at x v.ways ≡ Some e → e.state ≡ s → may_leave s ≡ true → child_holds x (leaf_node v) ≡ true
  held LeafState.Shared e there is rests = rw (there, is) refl
  held LeafState.Exclusive e there is rests = rw (there, is) refl
  held LeafState.Waiting e there is rests = cc
  held LeafState.Reading e there is rests = cc
  held LeafState.ReadingWaiting e there is rests = cc

  at : (o : Option WayValue) → way_at x v.ways ≡ o → way_at x v.ways ≡ None
  at None none = none
  at (Some e) there = absurd (true≢false (sym (held e.state e there refl (subst (λ o. way_rests o ≡ true) there (pass-at way_rests None refl v.ways r.ways x))) ∙ lacks))

child-absent : (h k : ℕ) (ns : Nodes) → k < length (children ns) → has_among (leaf_of_number h) ns ≡ false → has_node (leaf_of_number h) (child_at k (children ns)) ≡ false
child-absent h k ns l none = at (has_node (leaf_of_number h) (child_at k (children ns))) refl where
  at : (b : Bool) → has_node (leaf_of_number h) (child_at k (children ns)) ≡ b → has_node (leaf_of_number h) (child_at k (children ns)) ≡ false
  at false is = is
  at true is = absurd (true≢false (sym (has-child h k ns l is) ∙ none))

module _ (n : ℕ) (flat goal : FlatView) (h : ℕ) (stored : Option ℕ) (known : (x : ℕ) → stored ≡ Some x → x < n)
    (other : (v : LeafValue) → nat_eq v.number h ≡ false → ((x : ℕ) → stored ≡ Some x → way_at x v.ways ≡ None) → LeafHas flat v.number v.hart v.reservation v.ways → LeafHas goal v.number v.hart v.reservation v.ways) where
  abbrev name : Name
  name = leaf_of_number h

  abbrev Lacks : Node → Type 0
  Lacks m = (x : ℕ) → stored ≡ Some x → child_holds x m ≡ false

  abbrev Beside : Node → Type 0
  Beside m = Calm n flat m → Lacks m → has_node name m ≡ false → Settled n goal m

  beside-leaf : (v : LeafValue) → Beside (leaf_node v)
  beside-leaf v calm lacks none = record {
    rests = calm.settled.rests;
    room = calm.settled.room;
    copies = other v none (λ x is. no-entry x v (leaf-rests v calm.settled.rests) (lacks x is)) calm.settled.copies;
  }

  beside-dir : (d : DirValue) (ns : Nodes) → ((k : ℕ) → k < length (children ns) → Beside (child_at k (children ns))) → Beside (dir_node d ns)
  beside-dir d ns deeper calm lacks none =
      let k = calm-dir n flat d ns calm in
      let kid-lacks : (j : ℕ) → j < length (children ns) → Lacks (child_at j (children ns)) = λ j l x is. (let r = dir-rests x d (dir-knows n x (known x is) d (children ns) k.bus) k.rests in children-lack n x (known x is) d (children ns) k.bus r.items.note r.items.answers r.lists (lacks x is) j l) in
      subst (λ ms. Settled n goal (dir_node d ms)) (nodes-children ns) (settled-dir n goal d (children ns) k.rests k.room (λ j l. deeper j l (k.kids j l) (kid-lacks j l) (child-absent h j ns l none)))

  pub beside : (m : Node) → Beside m
  beside = part-induction Beside beside-leaf beside-dir

  -- ---- over the leaf

  module _ (code : List CodeWord) (items : ItemTable) (victim : ℕ) (leaf : LeafValue) (owns : (x : ℕ) → stored ≡ Some x → is_exclusive (child_hold x (leaf_node leaf)) ≡ true)
      (after : (w : Where) → Settled n goal (leaf_node (leaf_step code items (key_at_leaf w leaf.done) victim leaf).leaf)) where
    abbrev t : Turn
    t = Turn.Hart h victim

    abbrev pub changed : Where → Node → Node
    changed w m = changed_in name (node_after code items t) w m

    pub record Turned (m : Node) : Type 0 where
      pub exclusive : (x : ℕ) → stored ≡ Some x → is_exclusive (child_hold x m) ≡ true
      pub settled : (w : Where) → Settled n goal (changed w m)

    abbrev Q : LeafValue → Type 0
    Q v = v ≡ leaf

    pub turned-kids : (d : DirValue) (ns : Nodes) (c : ℕ) → ((j : ℕ) → j < length (children ns) → Calm n flat (child_at j (children ns))) → IsBusOk n d (children ns) → dir_rests d ≡ true → (there : c < length (children ns)) → has_node name (child_at c (children ns)) ≡ true → ((j : ℕ) → j < length (children ns) → j ≢ c → has_node name (child_at j (children ns)) ≡ false) → Turned (child_at c (children ns)) → (w : Where)
        → (j : ℕ) → j < length (slice_set (children ns) c (changed (at_child (spot_in (where_path w) d c)) (child_at c (children ns)))) → Settled n goal (child_at j (slice_set (children ns) c (changed (at_child (spot_in (where_path w) d c)) (child_at c (children ns)))))
    turned-kids d ns c calm bus rests there has absent one w = set-each (Settled n goal) c (children ns) (changed (at_child (spot_in (where_path w) d c)) (child_at c (children ns)))
        (λ j l ne. beside (child_at j (children ns)) (calm j l) (λ x is. others-invalid n x (known x is) d (children ns) bus rests c there (one.exclusive x is) j l ne) (absent j l ne)) (one.settled (at_child (spot_in (where_path w) d c)))

    pub changed-kids : (d : DirValue) (ns : Nodes) (c : ℕ) → c < length (children ns) → has_node name (child_at c (children ns)) ≡ true → ((j : ℕ) → j < length (children ns) → j ≢ c → has_node name (child_at j (children ns)) ≡ false) → (w : Where) → changed_among name (node_after code items t) (where_path w) d 0 ns ≡ nodes (slice_set (children ns) c (changed (at_child (spot_in (where_path w) d c)) (child_at c (children ns))))
    changed-kids d ns c there has absent w =
        let zero_more : 0 + c ≡ c = omega arith in
        ap (changed_among name (node_after code items t) (where_path w) d 0) (sym (nodes-children ns)) ∙ (change-child code items name (node_after code items t) (where_path w) d 0 c (children ns) there has (λ j l. absent j (lower j c (length (children ns)) l there) (differ j c l)) ∙ ap (λ i. nodes (slice_set (children ns) c (changed (at_child (spot_in (where_path w) d i)) (child_at c (children ns))))) zero_more) where
          lower : (j c k : ℕ) → j < c → c < k → j < k
          lower j c k l there = omega (arith, l, there)

          differ : (j c : ℕ) → j < c → j ≢ c
          differ j c l same = omega (arith, l, same)

    pub turned : (m : Node) → Calm n flat m → Spine n flat h Q m → ChildCounted h m → Turned m
    turned (leaf_node v) calm (at_leaf is same) counted = record {
      exclusive = λ x s. subst (λ u. is_exclusive (child_hold x (leaf_node u)) ≡ true) (sym same) (owns x s);
      settled = λ w. rw is (subst (λ u. Settled n goal (leaf_node (leaf_step code items (key_at_leaf w u.done) victim u).leaf)) (sym same) (after w));
    }
    turned (dir_node d ns) calm (over c is there rests room others deeper) counted =
        let k = calm-dir n flat d ns calm in
        let one = turned (child_at c (children ns)) (k.kids c there) deeper (child-counted h ns counted.first counted.rest counted.counted c there) in
        let has = spine-has h n flat Q (child_at c (children ns)) deeper in
        let absent : (j : ℕ) → j < length (children ns) → j ≢ c → has_node name (child_at j (children ns)) ≡ false = others-lack h ns counted.first counted.rest counted.counted c there has in
        record {
          exclusive = λ x s. dir-exclusive n x (known x s) d (children ns) k.bus rests c there (one.exclusive x s);
          settled = λ w. subst (λ ms. Settled n goal (dir_node d ms)) (sym (changed-kids d ns c there has absent w)) (settled-dir n goal d (slice_set (children ns) c (changed (at_child (spot_in (where_path w) d c)) (child_at c (children ns)))) rests room (turned-kids d ns c k.kids k.bus rests there has absent one w));
        }
