-- A read that a leaf asks for is served: on the lowest bus over the leaf with a child that holds the item it turns.
-- Letters: n is how many items there are, x the item, h the leaf, m a part, d a directory over the children ns, w a
-- place, c the child that is over the leaf.
use Rattle.std.proofs.Common.{◌≡◌, ◌≢◌, ℕ, zero, suc, ◌<◌, Bool, true, false, List, [], ◌∷◌, length, Option, Some, refl, sym, subst, ◌∙◌, arith, get_or-set_same, get_or-set_other}
use Rattle.std.specs.Prelude.{nat_lt, slice_set, slice_index_or, if◌then◌else◌}
use Rattle.std.specs.List.{list_all}
use Rattle.std.proofs.lemmas.Bool.{true≢false, and_parts}
use Rattle.std.proofs.lemmas.List.{length-set, append-nil}
use Rattle.serving_model.specs.DdmTypes.declared.answers.TxKind.TheVariants.{ReadTx}
use Rattle.serving_model.specs.DdmTypes.declared.sizes.Hold.{Hold}
use Rattle.serving_model.specs.DdmTypes.declared.sizes.LeafState.{LeafState}
use Rattle.serving_model.specs.DdmTypes.declared.turns.Turn.{Turn}
use Rattle.bus_laws.specs.FlatModel.Flat.{FlatHart}
use Rattle.serving_model.specs.TreeModel.State.States.{is_held, is_exclusive, is_reading}
use Rattle.serving_model.specs.TreeModel.State.Values.{RequestValue, LeafValue, DirSizes, DirItem, absent_item, DirValue, Node, Nodes, leaf_node, dir_node, no_nodes, more_nodes, nodes, children, MachineValue, root_of}
use Rattle.serving_model.specs.TreeModel.State.Leaf.{entry_at, leaf_hold}
use Rattle.serving_model.specs.TreeModel.State.Directory.{dir_hold}
use Rattle.serving_model.specs.TreeModel.State.Child.{child_hold, child_holds}
use Rattle.serving_model.specs.TreeModel.State.Blank.{no_node}
use Rattle.serving_model.specs.TreeModel.State.Place.{Where, at_top, at_child, where_path, spot_in}
use Rattle.serving_model.specs.TreeModel.State.Shape.{skeleton, IsShaped}
use Rattle.serving_model.specs.TreeModel.Turns.Children.{child_at}
use Rattle.serving_model.specs.TreeRules.Bus.Own.{top_item, top_items}
use Rattle.serving_model.specs.TreeRules.Bus.Rules.{IsBusOk, IsTreeOk, AreTreesOk, IsMachineOk, items_of_machine}
use Rattle.serving_model.specs.Rest.{dir_rests, dir_has_room}
use Rattle.serving_model.specs.Parts.{FlatView, Runs, stays, below, Settled}
use Rattle.serving_model.specs.OneLeaf.{LeafIs, Spine, at_leaf, over, RootSpine, got, asks_then, IsServed}
use Rattle.serving_model.specs.Walk.{child_over, turns_by, turns_of_child, read_turns, reads, read_across}
use Rattle.serving_model.proofs.TreeModel.Children.{nodes-children, children-nodes}
use Rattle.serving_model.proofs.Dirs.{dir-rests}
use Rattle.serving_model.proofs.Give.{dir-knows}
use Rattle.serving_model.proofs.Steps.{runs-skeleton, runs-machine}
use Rattle.serving_model.proofs.Spine.{same-over, dir-bones, tree-at}
use Rattle.serving_model.proofs.Ask.{read}
use Rattle.serving_model.proofs.Across.{Served, across}

-- a leaf that waits for data holds nothing
waiting-lacks : (n : ℕ) (flat : FlatView) (g : FlatHart) (x : ℕ) (state : LeafState) (asks : Option RequestValue) (v : LeafValue) → is_reading state ≡ true → LeafIs n flat g x state asks v → is_held (child_hold x (leaf_node v)) ≡ false
unfolding leaf_hold entry_at
waiting-lacks n flat g x LeafState.Reading asks v reads is = rw (is.here, is.in_state) refl
waiting-lacks n flat g x LeafState.ReadingWaiting asks v reads is = rw (is.here, is.in_state) refl
waiting-lacks n flat g x LeafState.Shared asks v reads is = cc
waiting-lacks n flat g x LeafState.Exclusive asks v reads is = cc
waiting-lacks n flat g x LeafState.Waiting asks v reads is = cc

reads-at : (h x k : ℕ) (ns : Nodes) → k < length (children ns) → turns_of_child k (reads h x ns) ≡ read_turns h x (child_at k (children ns))
reads-at h x k no_nodes l = absurd (omega (arith, l))
reads-at h x zero (more_nodes m ns) l = refl
reads-at h x (suc k) (more_nodes m ns) l = reads-at h x k ns (omega (arith, l))

pub dir-sizes : (d e : DirValue) (ns ms : Nodes) → skeleton (dir_node d ns) ≡ skeleton (dir_node e ms) → d.sizes ≡ e.sizes
dir-sizes d e ns ms same = cc

module _ (n : ℕ) (flat : FlatView) (g : FlatHart) (h x : ℕ) (within : x < n) (state : LeafState) (waits : is_reading state ≡ true) where
  abbrev Before : Node → Type 0
  Before m = Spine n flat h (LeafIs n flat g x state (Some (read n flat g h x within state))) m

  abbrev After : Node → Type 0
  After m = Spine n flat h (LeafIs n flat g x (got state) (asks_then x state)) m

  -- these turns of a part are granted, the leaf has got the item, and all else is at rest
  pub record Reads (w : Where) (m : Node) (ts : List Turn) : Type 0 where
    pub after : Node
    pub run : Runs w m ts after
    pub spine : After after

  module _ (w : Where) (d : DirValue) (ns : Nodes) (c : ℕ) (is : child_over h ns ≡ Some c) (there : c < length (children ns)) (rests : dir_rests d ≡ true) (others : (j : ℕ) → j < length (children ns) → j ≢ c → Settled n flat (child_at j (children ns))) (spine : Before (child_at c (children ns))) (bus : IsBusOk n d (children ns)) (trees : AreTreesOk n ns) where
    -- the read turns below child c
    module _ (one : Reads (at_child (spot_in (where_path w) d c)) (child_at c (children ns)) (read_turns h x (child_at c (children ns)))) where
      abbrev last : List Node
      last = slice_set (children ns) c one.after

      many : length last ≡ length (children ns)
      many = length-set (children ns) c one.after

      run : Runs w (dir_node d ns) (read_turns h x (child_at c (children ns))) (dir_node d (nodes last))
      run = subst (λ l. Runs w (dir_node d l) (read_turns h x (child_at c (children ns))) (dir_node d (nodes last))) (nodes-children ns)
          (subst (λ ts. Runs w (dir_node d (nodes (children ns))) ts (dir_node d (nodes last))) (append-nil (read_turns h x (child_at c (children ns)))) (below (children ns) c (read_turns h x (child_at c (children ns))) one.after there one.run stays))

      through : Served n flat g h x within state waits w d ns (turns_of_child c (reads h x ns))
      through = record {
        parent = d;
        kids = last;
        run = rw (reads-at h x c ns there) run;
        rests = rests;
        child = c;
        is = same-over h 0 (nodes last) ns (dir-bones d d (nodes last) ns (runs-skeleton run)) ∙ is;
        there = subst (λ k. c < k) (sym many) there;
        others = λ j l ne. subst (Settled n flat) (sym (get_or-set_other (children ns) c j one.after no_node ne)) (others j (subst (λ k. j < k) many l) ne);
        spine = subst After (sym (get_or-set_same (children ns) c one.after no_node there)) one.spine;
      }

    -- on this bus or below child c
    bus-read : is_held (dir_hold x d) ≡ true → (child_holds x (child_at c (children ns)) ≡ true → Reads (at_child (spot_in (where_path w) d c)) (child_at c (children ns)) (read_turns h x (child_at c (children ns)))) → Served n flat g h x within state waits w d ns (read_turns h x (dir_node d ns))
    bus-read held deeper = subst (λ o. Served n flat g h x within state waits w d ns (turns_by (λ c. if child_holds x (child_at c (children ns)) then turns_of_child c (reads h x ns) else read_across h x d.bus c ns) o)) (sym is) (at (child_holds x (child_at c (children ns))) refl) where
      at : (b : Bool) → child_holds x (child_at c (children ns)) ≡ b → Served n flat g h x within state waits w d ns (if b then turns_of_child c (reads h x ns) else read_across h x d.bus c ns)
      at true holds = through (deeper holds)
      at false lacks = across n flat g h x within state waits w d ns c is there (dir-rests x d (dir-knows n x within d (children ns) bus) rests) bus (λ j l ne. record { settled = others j l ne; rules = tree-at n ns trees j l }) spine (tree-at n ns trees c there) lacks held

  served-part : (w : Where) (d : DirValue) (ns : Nodes) (ts : List Turn) → dir_has_room d.sizes ≡ true → Served n flat g h x within state waits w d ns ts → Reads w (dir_node d ns) ts
  served-part w d ns ts room s = record {
    after = dir_node s.parent (nodes s.kids);
    run = s.run;
    spine =
        let same = children-nodes s.kids in
        over s.child s.is (subst (λ l. s.child < length l) (sym same) s.there) s.rests (subst (λ (z : DirSizes). dir_has_room z ≡ true) (sym (dir-sizes s.parent d (nodes s.kids) ns (runs-skeleton s.run))) room) (subst (λ l. (j : ℕ) → j < length l → j ≢ s.child → Settled n flat (child_at j l)) (sym same) s.others) (subst (λ l. After (child_at s.child l)) (sym same) s.spine);
  }

  pub read-part : (m : Node) → Before m → IsTreeOk n m → is_held (child_hold x m) ≡ true → (w : Where) → Reads w m (read_turns h x m)
  read-part (leaf_node v) (at_leaf number is) ok held w = absurd (true≢false (sym held ∙ waiting-lacks n flat g x state _ v waits is))
  read-part (dir_node d ns) (over c is there rests room others deeper) ok held w =
      served-part w d ns (read_turns h x (dir_node d ns)) room (bus-read w d ns c is there rests others deeper ok.0 ok.1 held (λ holds. read-part (child_at c (children ns)) deeper (tree-at n ns ok.1 c there) holds (at_child (spot_in (where_path w) d c))))

-- ---- in a machine

pub pass-in : (items : List DirItem) → list_all top_item items ≡ true → (k : ℕ) → k < length items → top_item (slice_index_or items k absent_item) ≡ true
pass-in [] all k l = absurd (omega (arith, l))
pass-in (i ∷ items) all zero l = (and_parts (top_item i) _ all).0
pass-in (i ∷ items) all (suc k) l = pass-in items (and_parts (top_item i) _ all).1 k (omega (arith, l))

-- the top holds every item
top-holds : (m : MachineValue) → IsMachineOk m → (x : ℕ) → x < items_of_machine m → is_held (dir_hold x m.top) ≡ true
top-holds m ok x within =
    let each = pass-in m.top.items (ok.top.each top_items) x (dir-knows (items_of_machine m) x within m.top (children m.kids) ok.tree.0) in
    held (dir_hold x m.top) (and_parts (is_exclusive (dir_hold x m.top)) _ each).0
  where
    held : (h : Hold) → is_exclusive h ≡ true → is_held h ≡ true
    held Hold.Invalid e = cc
    held Hold.Shared e = cc
    held Hold.Exclusive e = refl

pub read-served : (m : MachineValue) (flat : FlatView) (g : FlatHart) (h x : ℕ) (state : LeafState) → x < items_of_machine m → is_reading state ≡ true → IsShaped m → IsMachineOk m → RootSpine (items_of_machine m) flat h (LeafIs (items_of_machine m) flat g x state (Some (record { kind = ReadTx; item = x }))) m.top m.kids
    → IsServed m (read_turns h x (root_of m)) flat h (LeafIs (items_of_machine m) flat g x (got state) (asks_then x state))
read-served m flat g h x state within waits shaped ok root =
    let n = items_of_machine m in
    let s = bus-read n flat g h x within state waits at_top m.top m.kids root.child root.is root.there root.rests root.others root.spine ok.tree.0 ok.tree.1 (top-holds m ok x within) (λ holds. read-part n flat g h x within state waits (child_at root.child (children m.kids)) root.spine (tree-at n m.kids ok.tree.1 root.child root.there) holds (at_child (spot_in [] m.top root.child))) in
    let same = children-nodes s.kids in
    record {
      top = s.parent;
      kids = nodes s.kids;
      brings = runs-machine m (read_turns h x (root_of m)) (dir_node s.parent (nodes s.kids)) shaped s.run;
      rests = record {
        child = s.child;
        is = s.is;
        there = subst (λ l. s.child < length l) (sym same) s.there;
        rests = s.rests;
        down = subst (λ (z : DirSizes). nat_lt 0 z.down_room ≡ true) (sym (dir-sizes s.parent m.top (nodes s.kids) m.kids (runs-skeleton s.run))) root.down;
        others = subst (λ l. (j : ℕ) → j < length l → j ≢ s.child → Settled n flat (child_at j l)) (sym same) s.others;
        spine = subst (λ l. Spine n flat h (LeafIs n flat g x (got state) (asks_then x state)) (child_at s.child l)) (sym same) s.spine;
      };
    }
