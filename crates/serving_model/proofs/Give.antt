-- A part at rest that holds an item gives it when it is told to answer: the read comes down to the lowest leaf that has
-- the item, and its reply goes up, a bus at a time.
-- Letters: n is how many items there are, x the item, m a part, d a directory over the children ns, v a leaf, w a
-- place, s a stamp.
use Rattle.std.proofs.Common.{is_some, ◌≡◌, ◌≢◌, ℕ, zero, suc, ◌<◌, true, false, List, [], ◌∷◌, ◌++◌, length, Option, Some, None, refl, sym, ap, subst, ◌∙◌, arith, get_or-set_same, get_or-set_other}
use Rattle.std.specs.Prelude.{◌*◌, nat_le, slice_index_or, slice_set}
use native.Mathlib.Decide.{ℕ_discrete}
use Rattle.std.proofs.lemmas.Bool.{and_parts, true≢false}
use Rattle.std.proofs.lemmas.List.{length-set}
use Rattle.serving_model.specs.DdmTypes.declared.answers.TxKind.TheVariants.{ReadTx}
use Rattle.serving_model.specs.DdmTypes.declared.sizes.Hold.{Hold}
use Rattle.serving_model.specs.DdmTypes.declared.sizes.LeafState.{LeafState}
use Rattle.serving_model.specs.DdmTypes.declared.keys.Stamp.{Stamp}
use Rattle.serving_model.specs.DdmTypes.declared.turns.Turn.{Turn}
use Rattle.serving_model.specs.TreeModel.declared.BusTurn.{BusTurn}
use Rattle.serving_model.specs.TreeModel.State.Lists.{map_from, find_from, first_of, rest_of}
use Rattle.serving_model.specs.TreeModel.State.States.{may_leave, is_reading}
use Rattle.bus_laws.specs.FlatModel.Hart.{HartValue}
use Rattle.serving_model.specs.TreeModel.State.Values.{CopyValue, WayValue, LeafValue, no_note, absent_item, DirValue, Node, Nodes, leaf_node, dir_node, no_nodes, more_nodes, nodes, children}
use Rattle.serving_model.specs.TreeModel.State.Leaf.{blank, way_at, entry_at, leaf_hold, leaf_answer}
use Rattle.serving_model.specs.TreeModel.State.Directory.{dir_hold, dir_note, is_answering, replies_full, stamp_of, counted, front_taken, pushed_reply, with_hold, with_answering, dir_answer}
use Rattle.serving_model.specs.TreeModel.State.Child.{child_holds, child_full_for, child_reply, child_answer, child_reply_taken}
use Rattle.serving_model.specs.TreeModel.State.Blank.{no_node}
use Rattle.serving_model.specs.TreeModel.State.Place.{Where, at_child, stamp_above, where_path, spot_in}
use Rattle.serving_model.specs.TreeModel.Turns.Grant.{granted, unless_full}
use Rattle.serving_model.specs.TreeModel.Turns.Children.{child_at, holds_item, only}
use Rattle.serving_model.specs.TreeModel.Turns.Reply.{reply_to_parent}
use Rattle.serving_model.specs.TreeModel.Turns.Down.{read_by_child}
use Rattle.serving_model.specs.TreeModel.Turns.Bus.{bus_judged}
use Rattle.serving_model.specs.TreeRules.Bus.Rules.{IsBusOk}
use Rattle.serving_model.specs.Rest.{way_rests, dir_has_room}
use Rattle.serving_model.specs.Parts.{Runs, stays, turned, below, FlatView, LeafHas, Settled, Calm}
use Rattle.serving_model.specs.Walk.{turns_by, turns_of_child, give_turns, gives}
use Rattle.serving_model.specs.Laws.{Gives}
use Rattle.serving_model.proofs.TreeModel.Children.{only-set, found-passes, found-within, nodes-children}
use Rattle.serving_model.proofs.Lists.{pass-at, part-induction, only-each}
use Rattle.serving_model.proofs.Dirs.{ItemsAre, ListsAre, items-set, DirRests, dir-rests, rests-dir, dir-room, not-full}
use Rattle.bus_laws.proofs.HartFacts.{way-within}
use Rattle.bus_laws.proofs.DirParts.{dir-parts}
use Rattle.bus_laws.proofs.Lists.{pass-set}
use Rattle.serving_model.proofs.Settled.{LeafRests, leaf-rests, rests-leaf, DirCalm, calm-dir, settled-dir, no-holder}

-- ---- turns of the bus

-- a read comes down to child k
pub down-read : (above : Stamp) (x k : ℕ) (words : List ℕ) (s : Stamp) (p : DirValue) (ns : List Node) → p.down ≡ record { kind = ReadTx; item = x; words = words; stamp = s } ∷ [] → dir_note x p ≡ no_note → find_from (holds_item x) 0 ns ≡ Some k → child_full_for ReadTx x (child_at k ns) ≡ None → bus_judged above p ns BusTurn.Down ≡ granted (read_by_child x (front_taken s [] p) ns k)
unfolding unless_full
down-read above x k words s p ns front note found free = rw (front, note, found, free) refl

-- the reply of child k goes up
reply-up : (above : Stamp) (x k : ℕ) (words : List ℕ) (p : DirValue) (ns : List Node) → child_reply (child_at k ns) ≡ Some (record { item = x; words = words }) → dir_note x p ≡ no_note → is_answering x p ≡ true → replies_full p ≡ false → bus_judged above p ns (BusTurn.Reply k) ≡ granted (reply_to_parent k x words p ns)
unfolding unless_full
reply-up above x k words p ns has note answers room = rw (has, note, answers, room) refl

-- ---- words

pub have-set : (flat : FlatView) {number : ℕ} {hart : HartValue} {reserved : Option ℕ} (ways : List (Option WayValue)) (x : ℕ) (e : WayValue) → LeafHas flat number hart reserved ways → x < length ways → (is_reading e.state ≡ false → e.words ≡ flat.words x) → LeafHas flat number hart reserved (slice_set ways x (Some e))
have-set flat ways x e have there right = record { each = λ y f is reads. at y f is reads (ℕ_discrete y x); same_hart = have.same_hart; allowed = have.allowed; here = λ y has. stays-here y (have.here y has) (ℕ_discrete y x) } where
  stays-here : (y : ℕ) → is_some (way_at y ways) ≡ true → Dec (y ≡ x) → is_some (way_at y (slice_set ways x (Some e))) ≡ true
  stays-here y was (yes same) = subst (λ z. is_some (way_at z (slice_set ways x (Some e))) ≡ true) (sym same) (ap is_some (get_or-set_same ways x (Some e) None there))
  stays-here y was (no other) = ap is_some (get_or-set_other ways x y (Some e) None other) ∙ was

  at : (y : ℕ) (f : WayValue) → way_at y (slice_set ways x (Some e)) ≡ Some f → is_reading f.state ≡ false → Dec (y ≡ x) → f.words ≡ flat.words y
  at y f is reads (yes same) =
      let here : way_at x (slice_set ways x (Some e)) ≡ Some f = subst (λ z. way_at z (slice_set ways x (Some e)) ≡ Some f) same is in
      let set : way_at x (slice_set ways x (Some e)) ≡ Some e = get_or-set_same ways x (Some e) None there in
      let entry : e ≡ f = cc in
      subst (λ z. f.words ≡ flat.words z) (sym same) (subst (λ (g : WayValue). is_reading g.state ≡ false → g.words ≡ flat.words x) entry right reads)
  at y f is reads (no other) = have.each y f (sym (get_or-set_other ways x y (Some e) None other) ∙ is) reads

-- the turns of child k among those of all children
pub gives-at : (x k : ℕ) (ns : Nodes) → k < length (children ns) → turns_of_child k (gives x ns) ≡ give_turns x (child_at k (children ns))
gives-at x k no_nodes l = absurd (omega (arith, l))
gives-at x zero (more_nodes m ns) l = refl
gives-at x (suc k) (more_nodes m ns) l = gives-at x k ns (omega (arith, l))

-- a directory keeps something of each item
pub dir-knows : (n x : ℕ) → x < n → (d : DirValue) (ns : List Node) → IsBusOk n d ns → x < length d.items
dir-knows n x within d ns bus = subst (λ k. x < k) (sym (dir-parts n (length ns) d bus.own).within.items) within

-- ---- a leaf

hold-none : (x : ℕ) (v : LeafValue) → way_at x v.ways ≡ None → v.buffer ≡ [] → child_holds x (leaf_node v) ≡ false
unfolding leaf_hold entry_at
hold-none x v none buffer = rw (none, buffer) refl

-- the leaf that was told to answer
abbrev answered : ℕ → WayValue → LeafValue → LeafValue
answered x e v = record v { ways = slice_set v.ways x (Some (record e { state = LeafState.Shared })); buffer = []; replies = record { item = x; words = e.words } ∷ [] }

answered-is : (x : ℕ) (e : WayValue) (v : LeafValue) (s : LeafState) → way_at x v.ways ≡ Some e → v.buffer ≡ [] → v.replies ≡ [] → e.state ≡ s → may_leave s ≡ true → leaf_answer x v ≡ answered x e v
unfolding leaf_answer entry_at
answered-is x e v LeafState.Shared here buffer replies is m = rw (here, buffer, replies, is, here) refl
answered-is x e v LeafState.Exclusive here buffer replies is m = rw (here, buffer, replies, is, here) refl
answered-is x e v LeafState.Waiting here buffer replies is m = cc
answered-is x e v LeafState.Reading here buffer replies is m = cc
answered-is x e v LeafState.ReadingWaiting here buffer replies is m = cc

not-reading : (s : LeafState) → may_leave s ≡ true → is_reading s ≡ false
not-reading LeafState.Shared m = refl
not-reading LeafState.Exclusive m = refl
not-reading LeafState.Waiting m = cc
not-reading LeafState.Reading m = cc
not-reading LeafState.ReadingWaiting m = cc

module _ (n : ℕ) (flat : FlatView) (x : ℕ) (within : x < n) where
  abbrev Given : Node → Type 0
  Given m = (w : Where) (s : Stamp) → Calm n flat m → child_holds x m ≡ true → Gives n flat w x (child_answer x s m) (give_turns x m)

  give-leaf : (v : LeafValue) → Given (leaf_node v)
  give-leaf v w s calm held = at (way_at x v.ways) refl where
    r : LeafRests v
    r = leaf-rests v calm.settled.rests

    at : (o : Option WayValue) → way_at x v.ways ≡ o → Gives n flat w x (leaf_node (leaf_answer x v)) []
    at None none = absurd (true≢false (sym held ∙ hold-none x v none r.buffer))
    at (Some e) here =
        let leaves : way_rests (Some e) ≡ true = subst (λ o. way_rests o ≡ true) here (pass-at way_rests None refl v.ways r.ways x) in
        let there : x < length v.ways = way-within x v.ways e here in
        let right : e.words ≡ flat.words x = calm.settled.copies.each x e here (not-reading e.state leaves) in
        let given : Gives n flat w x (leaf_node (answered x e v)) [] = record {
          after = leaf_node (answered x e v);
          run = stays;
          reply = ap (λ ws. (let c : CopyValue = record { item = x; words = ws } in c) ∷ []) right;
          settled = record {
            rests = rests-leaf (record (answered x e v) { replies = [] }) (record { ways = pass-set way_rests v.ways x (Some (record e { state = LeafState.Shared })) r.ways refl; buffer = refl; slot = r.slot; replies = refl });
            room = calm.settled.room;
            copies = have-set flat v.ways x (record e { state = LeafState.Shared }) calm.settled.copies there (λ reads. right);
          };
        } in
        subst (λ u. Gives n flat w x (leaf_node u) []) (sym (answered-is x e v e.state here r.buffer r.replies refl leaves)) given

  -- ---- a directory

  pub free : (m : Node) → Calm n flat m → child_full_for ReadTx x m ≡ None
  free (leaf_node v) calm =
      let r = leaf-rests v calm.settled.rests in
      let full = not-full v.sizes.reply_room v.replies (and_parts (nat_le n (v.sizes.sets * v.sizes.way_count)) _ calm.settled.room).1 r.replies in
      rw full refl
  free (dir_node d ns) calm =
      let c = calm-dir n flat d ns calm in
      let known : x < length d.items = dir-knows n x within d (children ns) c.bus in
      let full = not-full d.sizes.down_room d.down (dir-room d.sizes c.room).down (dir-rests x d known c.rests).lists.down in
      rw full refl

  module _ (d : DirValue) (ns : Nodes) (deeper : (k : ℕ) → k < length (children ns) → Given (child_at k (children ns))) (w : Where) (s : Stamp) (c : DirCalm n flat d ns) where
    known : x < length d.items
    known = dir-knows n x within d (children ns) c.bus

    r : DirRests x d
    r = dir-rests x d known c.rests

    -- the directory that was told to answer, then without what came down, then with the reply
    abbrev told : DirValue
    told = dir_answer x s d

    abbrev q : DirValue
    q = front_taken s [] told

    abbrev last : DirValue
    last = pushed_reply x (flat.words x) (with_answering x false (with_hold x Hold.Shared (counted q)))

    q-items : ItemsAre x (dir_hold x d) no_note true q.items
    unfolding dir_answer
    q-items = items-set x _ _ _ _ _ _ _ d.items r.items refl r.items.note refl

    q-lists : ListsAre [] [] [] q
    unfolding dir_answer
    q-lists = record { down = refl; requests = r.lists.requests; replies = r.lists.replies; parked = r.lists.parked; places = r.lists.places }

    last-items : ItemsAre x Hold.Shared no_note false last.items
    last-items =
        let shared = items-set x (record (slice_index_or q.items x absent_item) { hold = Hold.Shared }) _ _ _ Hold.Shared no_note true q.items q-items refl q-items.note q-items.answers in
        items-set x _ _ _ _ Hold.Shared no_note false _ shared shared.hold shared.note refl

    last-room : dir_has_room last.sizes ≡ true
    unfolding dir_answer
    last-room = c.room

    -- child k has the item
    module _ (k : ℕ) (found : find_from (holds_item x) 0 (children ns) ≡ Some k) where
      there : k < length (children ns)
      there = found-within (holds_item x) k (children ns) no_node found

      abbrev inner : Gives n flat (at_child (spot_in (where_path w) q k)) x (child_answer x (stamp_of q) (child_at k (children ns))) (give_turns x (child_at k (children ns)))
      inner = deeper k there (at_child (spot_in (where_path w) q k)) (stamp_of q) (c.kids k there) (found-passes (holds_item x) k (children ns) no_node found)

      -- the children, when child k was told, and when it has the reply
      abbrev first : List Node
      first = slice_set (children ns) k (child_answer x (stamp_of q) (child_at k (children ns)))

      abbrev second : List Node
      second = slice_set first k inner.after

      in-first : k < length first
      in-first = subst (λ l. k < l) (sym (length-set (children ns) k _)) there

      at-first : child_at k first ≡ child_answer x (stamp_of q) (child_at k (children ns))
      at-first = get_or-set_same (children ns) k _ no_node there

      at-second : child_at k second ≡ inner.after
      at-second = get_or-set_same first k inner.after no_node in-first

      has-reply : child_reply (child_at k second) ≡ Some (record { item = x; words = flat.words x })
      has-reply = ap child_reply at-second ∙ ap first_of inner.reply

      others : (j : ℕ) → j < length second → j ≢ k → Settled n flat (child_at j second)
      others j l ne =
          let in-kids : j < length (children ns) = subst (λ n. j < n) (length-set first k inner.after ∙ length-set (children ns) k _) l in
          subst (Settled n flat) (sym (get_or-set_other first k j inner.after no_node ne ∙ get_or-set_other (children ns) k j _ no_node ne)) (c.kids j in-kids).settled

      run : Runs w (dir_node told (nodes (children ns))) (Turn.Down d.bus ∷ (give_turns x (child_at k (children ns)) ++ Turn.Reply d.bus k ∷ [])) (dir_node last (nodes (map_from (only k child_reply_taken) 0 second)))
      unfolding dir_answer read_by_child reply_to_parent
      run =
          let note : dir_note x told ≡ no_note = q-items.note in
          let front : told.down ≡ record { kind = ReadTx; item = x; words = blank d.sizes.width; stamp = s } ∷ [] = ap (λ l. l ++ record { kind = ReadTx; item = x; words = blank d.sizes.width; stamp = s } ∷ []) r.lists.down in
          let down = down-read (stamp_above w) x k (blank d.sizes.width) s told (children ns) front note found (free (child_at k (children ns)) (c.kids k there)) in
          let full : replies_full q ≡ false = not-full d.sizes.reply_room q.replies (dir-room d.sizes c.room).replies q-lists.replies in
          let up = reply-up (stamp_above w) x k (flat.words x) q second has-reply q-items.note q-items.answers full in
          turned (children ns) (read_by_child x q (children ns) k) refl down
          (subst (λ l. Runs w (dir_node q (nodes l)) (give_turns x (child_at k (children ns)) ++ Turn.Reply d.bus k ∷ []) (dir_node last (nodes (map_from (only k child_reply_taken) 0 second)))) (sym (only-set k (child_answer x (stamp_of q)) (children ns)))
          (below first k (give_turns x (child_at k (children ns))) inner.after in-first (subst (λ m. Runs (at_child (spot_in (where_path w) q k)) m (give_turns x (child_at k (children ns))) inner.after) (sym at-first) inner.run)
          (turned second (reply_to_parent k x (flat.words x) q second) refl up stays)))

      gives-so : Gives n flat w x (dir_node told ns) (Turn.Down d.bus ∷ (turns_of_child k (gives x ns) ++ Turn.Reply d.bus k ∷ []))
      gives-so = record {
        after = dir_node last (nodes (map_from (only k child_reply_taken) 0 second));
        run = rw (gives-at x k ns there) (subst (λ l. Runs w (dir_node told l) (Turn.Down d.bus ∷ (give_turns x (child_at k (children ns)) ++ Turn.Reply d.bus k ∷ [])) (dir_node last (nodes (map_from (only k child_reply_taken) 0 second)))) (nodes-children ns) run);
        reply = ap (λ l. l ++ (let c : CopyValue = record { item = x; words = flat.words x } in c) ∷ []) q-lists.replies;
        settled =
            let taken = record last { replies = rest_of last.replies } in
            let lists : ListsAre [] [] [] taken = record { down = refl; requests = q-lists.requests; replies = ap rest_of (ap (λ l. l ++ (let c : CopyValue = record { item = x; words = flat.words x } in c) ∷ []) q-lists.replies); parked = q-lists.parked; places = q-lists.places } in
            settled-dir n flat taken (map_from (only k child_reply_taken) 0 second) (rests-dir x Hold.Shared taken last-items lists) last-room
            (only-each (Settled n flat) k second child_reply_taken others (subst (λ m. Settled n flat (child_reply_taken m)) (sym at-second) inner.settled));
      }

  give-dir : (d : DirValue) (ns : Nodes) → ((k : ℕ) → k < length (children ns) → Given (child_at k (children ns))) → Given (dir_node d ns)
  give-dir d ns deeper w s calm held = at (find_from (holds_item x) 0 (children ns)) refl where
    c : DirCalm n flat d ns
    c = calm-dir n flat d ns calm

    at : (o : Option ℕ) → find_from (holds_item x) 0 (children ns) ≡ o → Gives n flat w x (dir_node (dir_answer x s d) ns) (Turn.Down d.bus ∷ turns_by (λ k. turns_of_child k (gives x ns) ++ Turn.Reply d.bus k ∷ []) o)
    at None none =
        let q = dir-rests x d (known d ns deeper w s c) c.rests in
        absurd (true≢false (sym held ∙ no-holder n x within d (children ns) c.bus q.items.note q.items.answers q.lists none))
    at (Some k) found = gives-so d ns deeper w s c k found

  pub give : (m : Node) → Given m
  give = part-induction Given give-leaf give-dir
