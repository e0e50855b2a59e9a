-- A part at rest that is told to lose an item is soon at rest again: the erase comes down to every leaf that has a
-- copy, a bus at a time.
-- Letters: n is how many items there are, x the item, m a part, d a directory over the children ns, v a leaf, w a
-- place, s a stamp.
use Rattle.std.proofs.Common.{◌≡◌, ℕ, zero, suc, ◌+◌, ◌<◌, Bool, true, false, List, [], ◌∷◌, ◌++◌, length, Option, Some, None, ◌≢◌, refl, sym, ap, subst, ◌∙◌, arith, get_or-set_other}
use Rattle.std.specs.Prelude.{is_some, nat_eq, not, ◌&&◌, nat_le, slice_set, filter, if◌then◌else◌}
use Rattle.std.specs.List.{flat_map}
use native.Mathlib.Decide.{ℕ_discrete}
use Rattle.std.proofs.lemmas.Bool.Decides.{nat_tests}
use Rattle.serving_model.specs.DdmTypes.declared.answers.QueueName.{QueueName}
use Rattle.serving_model.specs.DdmTypes.declared.answers.TxKind.TheVariants.{EraseTx}
use Rattle.serving_model.specs.DdmTypes.declared.sizes.Hold.{Hold}
use Rattle.serving_model.specs.DdmTypes.declared.sizes.LeafState.{LeafState}
use Rattle.serving_model.specs.DdmTypes.declared.keys.Stamp.{Stamp}
use Rattle.serving_model.specs.DdmTypes.declared.turns.Turn.{Turn}
use Rattle.bus_laws.specs.FlatModel.Hart.{HartValue}
use Rattle.bus_laws.specs.FlatModel.Flat.{has_reserved}
use Rattle.serving_model.specs.TreeModel.declared.BusTurn.{BusTurn}
use Rattle.serving_model.specs.TreeModel.State.Lists.{map_from, first_given, some_if}
use Rattle.serving_model.specs.TreeModel.State.States.{is_held, may_leave, is_reading}
use Rattle.serving_model.specs.TreeModel.State.Values.{WayValue, DownValue, LeafValue, no_note, DirValue, Node, Nodes, leaf_node, dir_node, no_nodes, more_nodes, nodes, children}
use Rattle.serving_model.specs.TreeModel.State.Leaf.{blank, way_at, entry_at, leaf_lose, unreserved, is_copy}
use Rattle.serving_model.specs.TreeModel.State.Directory.{dir_item, dir_hold, dir_note, struck, stamp_of, front_taken, dir_lose}
use Rattle.serving_model.specs.TreeModel.State.Child.{child_full_for, child_lose}
use Rattle.serving_model.specs.TreeModel.State.Place.{Where, at_child, stamp_above, where_path, spot_in}
use Rattle.serving_model.specs.TreeModel.Turns.Grant.{granted, unless_full}
use Rattle.serving_model.specs.TreeModel.Turns.Children.{child_at, full_to_lose, loses}
use Rattle.serving_model.specs.TreeModel.Turns.Down.{without_up_erase, erase_of_children}
use Rattle.serving_model.specs.TreeModel.Turns.Bus.{bus_judged}
use Rattle.serving_model.specs.Rest.{way_rests, leaf_has_room}
use Rattle.serving_model.specs.Parts.{Runs, stays, turned, FlatView, MayEnd, LeafHas, Settled, Calm}
use Rattle.serving_model.specs.Walk.{turns_of_child, lose_turns}
use Rattle.serving_model.specs.Walk as walk
use Rattle.serving_model.specs.Laws.{Loses}
use Rattle.serving_model.proofs.TreeModel.Children.{map_from-length, child_at-map_from, nodes-children}
use Rattle.serving_model.proofs.Lists.{pass-at, part-induction}
use Rattle.serving_model.proofs.Dirs.{ItemsAre, ListsAre, items-set, DirRests, dir-rests, rests-dir, dir-room, not-full}
use Rattle.bus_laws.proofs.Lists.{pass-set}
use Rattle.serving_model.proofs.Settled.{LeafRests, leaf-rests, rests-leaf, DirCalm, calm-dir, settled-dir}
use Rattle.serving_model.proofs.Sweep.{none-given, Turns, Swept, sweep}
use Rattle.serving_model.proofs.Give.{dir-knows}

-- ---- turns

-- an erase comes down
down-erase : (above : Stamp) (x : ℕ) (words : List ℕ) (s : Stamp) (p : DirValue) (ns : List Node) → p.down ≡ record { kind = EraseTx; item = x; words = words; stamp = s } ∷ [] → dir_note x p ≡ no_note → first_given (full_to_lose x) 0 ns ≡ None → bus_judged above p ns BusTurn.Down ≡ granted (erase_of_children x (front_taken s [] p) ns)
unfolding unless_full
down-erase above x words s p ns front note free = rw (front, note, free) refl

-- ---- a leaf

-- a reservation that hasn't ended was there, on another item
unreserved-was : (x y : ℕ) (r : Option ℕ) → has_reserved (unreserved x r) y ≡ true → (has_reserved r y ≡ true) × (y ≢ x)
unreserved-was x y None has = cc
unreserved-was x y (Some z) has = at (nat_eq z x) refl has where
  at : (b : Bool) → nat_eq z x ≡ b → has_reserved (if b then None else Some z) y ≡ true → (nat_eq z y ≡ true) × (y ≢ x)
  at true is has = cc
  at false is has = (has, λ same. apart z y x has same is) where
    apart : (z y x : ℕ) → nat_eq z y ≡ true → y ≡ x → nat_eq z x ≡ false → ⊥
    apart z y x has same is = grind (arith, nat_tests)

pub have-unset : (flat : FlatView) {number : ℕ} {hart : HartValue} {reserved : Option ℕ} (ways : List (Option WayValue)) (x : ℕ) → MayEnd flat x → LeafHas flat number hart reserved ways → LeafHas flat number hart (unreserved x reserved) (slice_set ways x None)
have-unset flat {number} {hart} {reserved} ways x ends have = record { each = λ y f is reads. at y f is reads (ℕ_discrete y x); same_hart = have.same_hart; allowed = ends number reserved have.allowed; here = λ y has. let was = unreserved-was x y reserved has in ap is_some (get_or-set_other ways x y None None was.1) ∙ have.here y was.0 } where
  none-set : (ways : List (Option WayValue)) (x : ℕ) → way_at x (slice_set ways x None) ≡ None
  none-set [] x = refl
  none-set (o ∷ ways) zero = refl
  none-set (o ∷ ways) (suc x) = none-set ways x

  at : (y : ℕ) (f : WayValue) → way_at y (slice_set ways x None) ≡ Some f → is_reading f.state ≡ false → Dec (y ≡ x) → f.words ≡ flat.words y
  at y f is reads (yes same) =
      let here : way_at x (slice_set ways x None) ≡ Some f = subst (λ z. way_at z (slice_set ways x None) ≡ Some f) same is in
      let none : way_at x (slice_set ways x None) ≡ None = none-set ways x in
      cc
  at y f is reads (no other) = have.each y f (sym (get_or-set_other ways x y None None other) ∙ is) reads

lost-none : (x : ℕ) (v : LeafValue) → way_at x v.ways ≡ None → v.buffer ≡ [] → leaf_lose x v ≡ record v { buffer = []; reservation = unreserved x v.reservation }
unfolding leaf_lose entry_at
lost-none x v none buffer = rw (none, buffer) refl

abbrev lost : ℕ → LeafValue → LeafValue
lost x v = record v { ways = slice_set v.ways x None; buffer = []; reservation = unreserved x v.reservation }

lost-some : (x : ℕ) (e : WayValue) (v : LeafValue) (s : LeafState) → way_at x v.ways ≡ Some e → v.buffer ≡ [] → e.state ≡ s → may_leave s ≡ true → leaf_lose x v ≡ lost x v
unfolding leaf_lose entry_at
lost-some x e v LeafState.Shared here buffer is m = rw (here, buffer, is) refl
lost-some x e v LeafState.Exclusive here buffer is m = rw (here, buffer, is) refl
lost-some x e v LeafState.Waiting here buffer is m = cc
lost-some x e v LeafState.Reading here buffer is m = cc
lost-some x e v LeafState.ReadingWaiting here buffer is m = cc

-- ---- the turns of a child

pub loses-many : (x : ℕ) (ns : Nodes) → length (walk.loses x ns) ≡ length (children ns)
loses-many x no_nodes = refl
loses-many x (more_nodes m ns) = ap suc (loses-many x ns)

pub loses-at : (x k : ℕ) (ns : Nodes) → k < length (children ns) → turns_of_child k (walk.loses x ns) ≡ lose_turns x (child_at k (children ns))
loses-at x k no_nodes l = absurd (omega (arith, l))
loses-at x zero (more_nodes m ns) l = refl
loses-at x (suc k) (more_nodes m ns) l = loses-at x k ns (omega (arith, l))

module _ (n : ℕ) (flat : FlatView) (x : ℕ) (within : x < n) (ends : MayEnd flat x) where
  abbrev Lost : Node → Type 0
  Lost m = (w : Where) (s : Stamp) → Calm n flat m → Loses n flat w (child_lose x s m) (lose_turns x m)

  lose-leaf : (v : LeafValue) → Lost (leaf_node v)
  lose-leaf v w s calm = at (way_at x v.ways) refl where
    r : LeafRests v
    r = leaf-rests v calm.settled.rests

    loses-so : (u : LeafValue) → LeafRests u → u.sizes ≡ v.sizes → LeafHas flat u.number u.hart u.reservation u.ways → leaf_lose x v ≡ u → Loses n flat w (leaf_node (leaf_lose x v)) []
    loses-so u rests sizes have is = subst (λ u. Loses n flat w (leaf_node u) []) (sym is) (record {
      after = leaf_node u;
      run = stays;
      settled = record { rests = rests-leaf u rests; room = subst (λ z. leaf_has_room n z ≡ true) (sym sizes) calm.settled.room; copies = have };
    })

    at : (o : Option WayValue) → way_at x v.ways ≡ o → Loses n flat w (leaf_node (leaf_lose x v)) []
    at None none = loses-so (record v { buffer = []; reservation = unreserved x v.reservation }) (record { ways = r.ways; buffer = refl; slot = r.slot; replies = r.replies }) refl (record { each = calm.settled.copies.each; same_hart = calm.settled.copies.same_hart; allowed = ends v.number v.reservation calm.settled.copies.allowed; here = λ y has. calm.settled.copies.here y (unreserved-was x y v.reservation has).0 }) (lost-none x v none r.buffer)
    at (Some e) here =
        let leaves : way_rests (Some e) ≡ true = subst (λ o. way_rests o ≡ true) here (pass-at way_rests None refl v.ways r.ways x) in
        loses-so (lost x v) (record { ways = pass-set way_rests v.ways x None r.ways refl; buffer = refl; slot = r.slot; replies = r.replies }) refl (have-unset flat v.ways x ends calm.settled.copies) (lost-some x e v e.state here r.buffer refl leaves)

  -- ---- a directory

  pub free-to_lose : (m : Node) → Calm n flat m → child_full_for EraseTx x m ≡ None
  free-to_lose (leaf_node v) calm = refl
  free-to_lose (dir_node d ns) calm =
      let c = calm-dir n flat d ns calm in
      let known : x < length d.items = dir-knows n x within d (children ns) c.bus in
      let full = not-full d.sizes.down_room d.down (dir-room d.sizes c.room).down (dir-rests x d known c.rests).lists.down in
      by (is_held (dir_hold x d)) full where
        by : (b : Bool) → nat_le d.sizes.down_room (length d.down) ≡ false → some_if (b && nat_le d.sizes.down_room (length d.down)) (QueueName.Down d.bus) ≡ None
        by true full = rw full refl
        by false full = refl

  module _ (d : DirValue) (ns : Nodes) (deeper : (k : ℕ) → k < length (children ns) → Lost (child_at k (children ns))) (w : Where) (s : Stamp) (c : DirCalm n flat d ns) where
    known : x < length d.items
    known = dir-knows n x within d (children ns) c.bus

    r : DirRests x d
    r = dir-rests x d known c.rests

    abbrev entry : DownValue
    entry = record { kind = EraseTx; item = x; words = blank d.sizes.width; stamp = s }

    -- the directory that was told to lose the item, then without what came down, and after the grant
    abbrev told : DirValue
    told = record d { items = slice_set d.items x (record (dir_item x d) { hold = Hold.Invalid }); requests = struck EraseTx x d.requests; down = d.down ++ entry ∷ [] }

    abbrev q : DirValue
    q = front_taken s [] told

    abbrev last : DirValue
    last = record q { items = slice_set q.items x (record (dir_item x q) { note = without_up_erase (dir_note x q) }); parked = filter (λ c. not (is_copy x c)) q.parked }

    told-is : is_held (dir_hold x d) ≡ true → dir_lose x s d ≡ told
    unfolding dir_lose
    told-is held = rw held refl

    kept-is : is_held (dir_hold x d) ≡ false → dir_lose x s d ≡ d
    unfolding dir_lose
    kept-is held = rw held refl

    q-items : ItemsAre x Hold.Invalid no_note false q.items
    q-items = items-set x (record (dir_item x d) { hold = Hold.Invalid }) _ _ _ Hold.Invalid no_note false d.items r.items refl r.items.note r.items.answers

    none-struck : struck EraseTx x d.requests ≡ []
    unfolding struck
    none-struck = rw r.lists.requests refl

    last-items : ItemsAre x Hold.Invalid no_note false last.items
    last-items = items-set x (record (dir_item x q) { note = without_up_erase (dir_note x q) }) _ _ _ Hold.Invalid no_note false q.items q-items q-items.hold (ap without_up_erase q-items.note) q-items.answers

    last-lists : ListsAre [] [] [] last
    last-lists = record { down = refl; requests = none-struck; replies = r.lists.replies; parked = ap (λ ps. filter (λ c. not (is_copy x c)) ps) r.lists.parked; places = r.lists.places }

    -- the children that were told
    abbrev first : List Node
    first = map_from (loses x (stamp_of q)) 0 (children ns)

    many : length first ≡ length (children ns)
    many = map_from-length (loses x (stamp_of q)) 0 (children ns)

    abbrev Rests : ℕ → Node → Type 0
    Rests j m = Settled n flat m

    child-turns : (j : ℕ) → j < length (walk.loses x ns) → Turns w last Rests j first (turns_of_child j (walk.loses x ns))
    child-turns j l =
        let there : j < length (children ns) = subst (λ k. j < k) (loses-many x ns) l in
        let one = deeper j there (at_child (spot_in (where_path w) last j)) (stamp_of q) (c.kids j there) in
        let told : child_at j first ≡ child_lose x (stamp_of q) (child_at j (children ns)) = child_at-map_from (loses x (stamp_of q)) j (children ns) there in
        record {
          after = one.after;
          run = subst (λ m. Runs (at_child (spot_in (where_path w) last j)) m (turns_of_child j (walk.loses x ns)) one.after) (sym told) (subst (λ ts. Runs (at_child (spot_in (where_path w) last j)) (child_lose x (stamp_of q) (child_at j (children ns))) ts one.after) (sym (loses-at x j ns there)) one.run);
          is = one.settled;
        }

    swept : Swept w last Rests 0 first (flat_map (λ ts. ts) (walk.loses x ns))
    swept = sweep w last Rests 0 (walk.loses x ns) first (let count = loses-many x ns in omega (arith, count, many)) (λ j l. subst (λ k. Turns w last Rests k first (turns_of_child j (walk.loses x ns))) (let same : j ≡ 0 + j = omega arith in same) (child-turns j l))

    loses-so : Loses n flat w (dir_node told ns) (Turn.Down d.bus ∷ flat_map (λ ts. ts) (walk.loses x ns))
    unfolding erase_of_children
    loses-so =
        let front : told.down ≡ entry ∷ [] = ap (λ l. l ++ entry ∷ []) r.lists.down in
        let free = none-given (full_to_lose x) 0 (children ns) (λ k l. free-to_lose (child_at k (children ns)) (c.kids k l)) in
        let down = down-erase (stamp_above w) x (blank d.sizes.width) s told (children ns) front q-items.note free in
        record {
          after = dir_node last (nodes swept.after);
          run = subst (λ l. Runs w (dir_node told l) (Turn.Down d.bus ∷ flat_map (λ ts. ts) (walk.loses x ns)) (dir_node last (nodes swept.after))) (nodes-children ns) (turned (children ns) (erase_of_children x q (children ns)) refl down swept.run);
          settled = settled-dir n flat last swept.after (rests-dir x Hold.Invalid last last-items last-lists) c.room (λ j l. swept.done j (omega arith) (subst (λ k. j < k) swept.many l));
        }

  lose-dir : (d : DirValue) (ns : Nodes) → ((k : ℕ) → k < length (children ns) → Lost (child_at k (children ns))) → Lost (dir_node d ns)
  lose-dir d ns deeper w s calm = at (is_held (dir_hold x d)) refl where
    c : DirCalm n flat d ns
    c = calm-dir n flat d ns calm

    at : (b : Bool) → is_held (dir_hold x d) ≡ b → Loses n flat w (dir_node (dir_lose x s d) ns) (if b then Turn.Down d.bus ∷ flat_map (λ ts. ts) (walk.loses x ns) else [])
    at true held = subst (λ e. Loses n flat w (dir_node e ns) (Turn.Down d.bus ∷ flat_map (λ ts. ts) (walk.loses x ns))) (sym (told-is d ns deeper w s c held)) (loses-so d ns deeper w s c)
    at false held = subst (λ e. Loses n flat w (dir_node e ns) []) (sym (kept-is d ns deeper w s c held)) (record { after = dir_node d ns; run = stays; settled = calm.settled })

  pub lose : (m : Node) → Lost m
  lose = part-induction Lost lose-leaf lose-dir
