-- A read goes up from its leaf to the top of a part that doesn't hold the item: each bus on the way grants it, and its
-- parent asks.
-- Letters: n is how many items there are, x the item, h the leaf, m a part, d a directory over the children ns, w a
-- place, c the child that is over the leaf.
use Rattle.std.proofs.Common.{◌≡◌, ◌≢◌, ℕ, zero, suc, ◌<◌, true, false, List, [], ◌∷◌, ◌++◌, length, Some, None, refl, sym, ap, subst, ◌∙◌, arith, get_or-set_same}
use Rattle.std.specs.Prelude.{nat_eq, slice_set}
use Rattle.serving_model.specs.DdmTypes.declared.answers.TxKind.TheVariants.{ReadTx}
use Rattle.serving_model.specs.DdmTypes.declared.sizes.Hold.{Hold}
use Rattle.serving_model.specs.DdmTypes.declared.sizes.LeafState.{LeafState}
use Rattle.serving_model.specs.DdmTypes.declared.keys.Stamp.{Stamp}
use Rattle.serving_model.specs.DdmTypes.declared.turns.Turn.{Turn}
use Rattle.bus_laws.specs.FlatModel.Flat.{FlatHart}
use Rattle.serving_model.specs.TreeModel.declared.BusTurn.{BusTurn}
use Rattle.serving_model.specs.TreeModel.State.Lists.{map_from, first_of, rest_of}
use Rattle.serving_model.specs.TreeModel.State.States.{is_held}
use Rattle.serving_model.specs.TreeModel.State.Values.{RequestValue, LeafValue, no_note, up_read, DirValue, Node, Nodes, leaf_node, dir_node, no_nodes, more_nodes, nodes, children}
use Rattle.serving_model.specs.TreeModel.State.Directory.{dir_item, dir_hold, dir_note, pending, requests_full, with_note, pushed_request, counted}
use Rattle.serving_model.specs.TreeModel.State.Child.{child_hold, child_request, child_request_taken}
use Rattle.serving_model.specs.TreeModel.State.Blank.{no_node}
use Rattle.serving_model.specs.TreeModel.State.Place.{Where, at_child, stamp_above, where_path, spot_in}
use Rattle.serving_model.specs.TreeModel.Turns.Grant.{granted, unless_full}
use Rattle.serving_model.specs.TreeModel.Turns.Children.{child_at, only}
use Rattle.serving_model.specs.TreeModel.Turns.RequestRead.{read_of_parent}
use Rattle.serving_model.specs.TreeModel.Turns.Bus.{bus_judged}
use Rattle.serving_model.specs.TreeRules.Bus.Rules.{IsTreeOk}
use Rattle.serving_model.specs.Rest.{dir_has_room}
use Rattle.serving_model.specs.Parts.{FlatView, Runs, stays, turned, below, Settled}
use Rattle.serving_model.specs.OneLeaf.{LeafIs, Spine, at_leaf, over}
use Rattle.serving_model.specs.Walk.{child_over, turns_by, turns_of_child, ask_turns, asks}
use Rattle.serving_model.proofs.TreeModel.Children.{nodes-children, children-nodes}
use Rattle.serving_model.proofs.Dirs.{ItemsAre, ListsAre, items-set, DirRests, dir-rests, dir-room, not-full, not-pending}
use Rattle.serving_model.proofs.Give.{dir-knows}
use Rattle.serving_model.proofs.Steps.{runs-skeleton}
use Rattle.serving_model.proofs.Spine.{same-over, dir-bones, tree-at, children-lack, set_only-many, set_only-here, set_only-other, hold-invalid}

-- a request to read goes on up
request-up : (above : Stamp) (x c : ℕ) (p : DirValue) (ns : List Node) → child_request (child_at c ns) ≡ Some (record { kind = ReadTx; item = x }) → dir_note x p ≡ no_note → pending x p ≡ None → is_held (dir_hold x p) ≡ false → requests_full p ≡ false → bus_judged above p ns (BusTurn.Request c) ≡ granted (read_of_parent c x p ns)
unfolding unless_full
request-up above x c p ns asked note free none room = rw (asked, note, free, none, room) refl

pub asks-at : (h k : ℕ) (ns : Nodes) → k < length (children ns) → turns_of_child k (asks h ns) ≡ ask_turns h (child_at k (children ns))
asks-at h k no_nodes l = absurd (omega (arith, l))
asks-at h zero (more_nodes m ns) l = refl
asks-at h (suc k) (more_nodes m ns) l = asks-at h k ns (omega (arith, l))

module _ (n : ℕ) (flat : FlatView) (g : FlatHart) (h x : ℕ) (within : x < n) (state : LeafState) where
  abbrev pub read : RequestValue
  read = record { kind = ReadTx; item = x }

  -- the read of the leaf was granted on each bus of the part, and nothing of it has come back; all else is at rest
  pub data Waits : Node → Type 0 where
    waits_leaf : {v : LeafValue} → nat_eq v.number h ≡ true → LeafIs n flat g x state None v → Waits (leaf_node v)
    waits_over : {d : DirValue} {ns : Nodes} → (c : ℕ) → child_over h ns ≡ Some c → c < length (children ns) → ItemsAre x Hold.Invalid (up_read c 0) false d.items → ListsAre [] [] [] d → dir_has_room d.sizes ≡ true
        → ((j : ℕ) → j < length (children ns) → j ≢ c → Settled n flat (child_at j (children ns))) → Waits (child_at c (children ns)) → Waits (dir_node d ns)

  -- these turns of a part are granted, it asks to read, and when its request is taken it waits
  pub record Asks (w : Where) (m : Node) (ts : List Turn) : Type 0 where
    pub after : Node
    pub run : Runs w m ts after
    pub request : child_request after ≡ Some read
    pub waits : Waits (child_request_taken after)

  module _ (d : DirValue) (ns : Nodes) (c : ℕ) (is : child_over h ns ≡ Some c) (there : c < length (children ns)) (r : DirRests x d) (none : is_held (dir_hold x d) ≡ false) (room : dir_has_room d.sizes ≡ true) (others : (j : ℕ) → j < length (children ns) → j ≢ c → Settled n flat (child_at j (children ns)))
      (w : Where) (one : Asks (at_child (spot_in (where_path w) d c)) (child_at c (children ns)) (ask_turns h (child_at c (children ns)))) where
    -- the directory that asks, and when its request is taken
    abbrev p : DirValue
    p = pushed_request ReadTx x (with_note x (up_read c 0) (counted d))

    abbrev q : DirValue
    q = record p { requests = rest_of p.requests }

    p-items : ItemsAre x Hold.Invalid (up_read c 0) false p.items
    p-items = items-set x (record (dir_item x d) { note = up_read c 0 }) _ _ _ Hold.Invalid (up_read c 0) false d.items r.items (hold-invalid (dir_hold x d) none) refl r.items.answers

    q-lists : ListsAre [] [] [] q
    q-lists = record { down = r.lists.down; requests = ap rest_of (ap (λ l. l ++ read ∷ []) r.lists.requests); replies = r.lists.replies; parked = r.lists.parked; places = r.lists.places }

    abbrev set : List Node
    set = slice_set (children ns) c one.after

    abbrev last : List Node
    last = map_from (only c child_request_taken) 0 set

    run : Runs w (dir_node d ns) (ask_turns h (child_at c (children ns)) ++ Turn.Request d.bus c ∷ []) (dir_node p (nodes last))
    unfolding read_of_parent
    run =
        let has : child_request (child_at c set) ≡ Some read = ap child_request (get_or-set_same (children ns) c one.after no_node there) ∙ one.request in
        let full : requests_full d ≡ false = not-full d.sizes.request_room d.requests (dir-room d.sizes room).requests r.lists.requests in
        let judged = request-up (stamp_above w) x c d set has r.items.note (not-pending x d r.items.note r.items.answers r.lists.down) none full in
        subst (λ l. Runs w (dir_node d l) (ask_turns h (child_at c (children ns)) ++ Turn.Request d.bus c ∷ []) (dir_node p (nodes last))) (nodes-children ns)
        (below (children ns) c (ask_turns h (child_at c (children ns))) one.after there one.run (turned set (read_of_parent c x d set) refl judged stays))

    over-last : child_over h (nodes last) ≡ Some c
    over-last = same-over h 0 (nodes last) ns (dir-bones p d (nodes last) ns (runs-skeleton run)) ∙ is

    listed : (j : ℕ) → j < length last → j ≢ c → Settled n flat (child_at j last)
    listed j l ne = subst (Settled n flat) (sym (set_only-other (children ns) c one.after child_request_taken j ne)) (others j (subst (λ n. j < n) (set_only-many (children ns) c one.after child_request_taken) l) ne)

    there-last : c < length last
    there-last = subst (λ n. c < n) (sym (set_only-many (children ns) c one.after child_request_taken)) there

    here-last : Waits (child_at c last)
    here-last = subst Waits (sym (set_only-here (children ns) c one.after child_request_taken there)) one.waits

    waits-last : Waits (dir_node q (nodes last))
    waits-last =
        let same = children-nodes last in
        waits_over c over-last (subst (λ l. c < length l) (sym same) there-last) p-items q-lists room (subst (λ l. (j : ℕ) → j < length l → j ≢ c → Settled n flat (child_at j l)) (sym same) listed) (subst (λ l. Waits (child_at c l)) (sym same) here-last)

    asks-so : Asks w (dir_node d ns) (turns_by (λ c. turns_of_child c (asks h ns) ++ Turn.Request d.bus c ∷ []) (child_over h ns))
    asks-so = subst (λ o. Asks w (dir_node d ns) (turns_by (λ c. turns_of_child c (asks h ns) ++ Turn.Request d.bus c ∷ []) o)) (sym is) (subst (λ ts. Asks w (dir_node d ns) (ts ++ Turn.Request d.bus c ∷ [])) (sym (asks-at h c ns there)) (record {
      after = dir_node p (nodes last);
      run = run;
      request = ap (λ l. first_of (l ++ read ∷ [])) r.lists.requests;
      waits = waits-last;
    }))

  pub ask : (m : Node) → Spine n flat h (LeafIs n flat g x state (Some read)) m → IsTreeOk n m → is_held (child_hold x m) ≡ false → (w : Where) → Asks w m (ask_turns h m)
  ask (leaf_node v) (at_leaf number is) ok none w = record {
    after = leaf_node v;
    run = stays;
    request = is.slot;
    waits = waits_leaf number (record { entry = is.entry; here = is.here; in_state = is.in_state; others = is.others; buffer = is.buffer; slot = refl; replies = is.replies; copies = is.copies; room = is.room; hart = is.hart; reserved = is.reserved });
  }
  ask (dir_node d ns) (over c is there rests room others deeper) ok none w =
      let r = dir-rests x d (dir-knows n x within d (children ns) ok.0) rests in
      let lacks = children-lack n x within d (children ns) ok.0 r.items.note r.items.answers r.lists none c there in
      asks-so d ns c is there r none room others w (ask (child_at c (children ns)) deeper (tree-at n ns ok.1 c there) lacks (at_child (spot_in (where_path w) d c)))
