-- The bus where a read turns: the lowest over the leaf with a child that holds the item. The read comes up to it,
-- another child answers, and the data goes across and down to the leaf.
-- Letters: n is how many items there are, x the item, h the leaf, d a directory over the children ns, w a place, c the
-- child that is over the leaf, k the child that answers.
use Rattle.std.proofs.Common.{◌≡◌, ◌≢◌, ℕ, zero, suc, ◌+◌, ◌<◌, true, false, List, [], ◌∷◌, ◌++◌, length, Option, Some, None, refl, sym, ap, subst, ◌∙◌, arith, get_or-set_same, get_or-set_other}
use Rattle.std.specs.Prelude.{not, ◌&&◌, nat_eq, slice_set}
use native.Mathlib.Decide.{ℕ_discrete}
use Rattle.std.proofs.lemmas.Bool.{and_parts, not-true, true≢false, eq-eqb, ne_eqb}
use Rattle.std.proofs.lemmas.List.{length-set, append-nil}
use Rattle.serving_model.specs.DdmTypes.declared.answers.TxKind.TheVariants.{ReadTx, DataTx}
use Rattle.serving_model.specs.DdmTypes.declared.sizes.LeafState.{LeafState}
use Rattle.serving_model.specs.DdmTypes.declared.keys.Stamp.{Stamp}
use Rattle.serving_model.specs.DdmTypes.declared.turns.Turn.{Turn}
use Rattle.bus_laws.specs.FlatModel.Flat.{FlatHart}
use Rattle.serving_model.specs.TreeModel.declared.BusTurn.{BusTurn}
use Rattle.serving_model.specs.TreeModel.State.Lists.{map_from, find_from, first_given, first_of}
use Rattle.serving_model.specs.TreeModel.State.States.{is_held, is_reading}
use Rattle.serving_model.specs.TreeModel.State.Values.{no_note, local, DirValue, Node, Nodes, dir_node, nodes, children}
use Rattle.serving_model.specs.TreeModel.State.Directory.{is_reader, dir_item, dir_hold, dir_note, pending, stamp_of, counted, with_note}
use Rattle.serving_model.specs.TreeModel.State.Child.{child_hold, child_holds, child_full_for, child_request, child_reply, child_request_taken, child_reply_taken, child_answer, child_take_data}
use Rattle.serving_model.specs.TreeModel.State.Blank.{no_node}
use Rattle.serving_model.specs.TreeModel.State.Place.{Where, at_child, stamp_above, where_path, spot_in}
use Rattle.serving_model.specs.TreeModel.Turns.Grant.{granted, unless_full}
use Rattle.serving_model.specs.TreeModel.Turns.Children.{child_at, holds_item, other_holds, reader_full, read_from, replied_by}
use Rattle.serving_model.specs.TreeModel.Turns.RequestRead.{read_of_child}
use Rattle.serving_model.specs.TreeModel.Turns.Reply.{reply_to_readers}
use Rattle.serving_model.specs.TreeModel.Turns.Bus.{bus_judged}
use Rattle.serving_model.specs.TreeRules.Bus.Rules.{IsBusOk, IsTreeOk}
use Rattle.serving_model.specs.Rest.{dir_rests}
use Rattle.serving_model.specs.Parts.{FlatView, Runs, stays, turned, below, Settled, Calm}
use Rattle.serving_model.specs.OneLeaf.{LeafIs, Spine, got, asks_then}
use Rattle.serving_model.specs.Walk.{child_over, turns_by, turns_of_child, take_turns, takes, ask_turns, asks, give_turns, gives, read_across}
use Rattle.serving_model.specs.Laws.{Gives}
use Rattle.serving_model.proofs.TreeModel.Children.{map_from-length, child_at-map_from, found-passes, found-within, none-passes, nodes-children}
use Rattle.serving_model.proofs.Dirs.{ItemsAre, ListsAre, items-set, DirRests, rests-dir, not-pending}
use Rattle.serving_model.proofs.Settled.{no-holder}
use Rattle.serving_model.proofs.Sweep.{none-given}
use Rattle.serving_model.proofs.Steps.{runs-skeleton}
use Rattle.serving_model.proofs.Give.{free as free-to_answer, give, gives-at}
use Rattle.serving_model.proofs.Spine.{same-over, dir-bones, turns-same, taken-turns}
use Rattle.serving_model.proofs.Ask.{read, Asks, ask, asks-at}
use Rattle.serving_model.proofs.Take.{only-reader, Takes, free as free-for_data, take, takes-at}

-- ---- turns

-- a request to read, and child k is told to answer
request-across : (above : Stamp) (x c k : ℕ) (p : DirValue) (ns : List Node) → child_request (child_at c ns) ≡ Some (record { kind = ReadTx; item = x }) → dir_note x p ≡ no_note → pending x p ≡ None → is_held (dir_hold x p) ≡ true → find_from (other_holds c x) 0 ns ≡ Some k → child_full_for ReadTx x (child_at k ns) ≡ None → bus_judged above p ns (BusTurn.Request c) ≡ granted (read_of_child c x p ns k)
unfolding unless_full
request-across above x c k p ns asked note free held found room = rw (asked, note, free, held, found, room) refl

-- the reply of child k goes to the only reader
reply-across : (above : Stamp) (x c k : ℕ) (words : List ℕ) (p : DirValue) (ns : List Node) → child_reply (child_at k ns) ≡ Some (record { item = x; words = words }) → dir_note x p ≡ local c 0 → first_given (reader_full (local c 0) x) 0 ns ≡ None → bus_judged above p ns (BusTurn.Reply k) ≡ granted (reply_to_readers k x words p ns c 0)
unfolding unless_full
reply-across above x c k words p ns has note free = rw (has, note, free) refl

only-local : (c i : ℕ) → is_reader (local c 0) i ≡ nat_eq i c
only-local c i = only-reader c i

-- ---- who answers

-- what becomes of child c doesn't matter
find-set : (c x : ℕ) (m : Node) (i j : ℕ) (ns : List Node) → i + j ≡ c → find_from (other_holds c x) i (slice_set ns j m) ≡ find_from (other_holds c x) i ns
find-set c x m i j [] place = refl
find-set c x m i zero (k ∷ ns) place =
    let here : nat_eq i c ≡ true = eq-eqb i c (omega (arith, place)) in
    rw here refl
find-set c x m i (suc j) (k ∷ ns) place =
    let next : (i + 1) + j ≡ c = omega (arith, place) in
    rw (find-set c x m (i + 1) j ns next) refl

module _ (n : ℕ) (flat : FlatView) (g : FlatHart) (h x : ℕ) (within : x < n) (state : LeafState) (reads : is_reading state ≡ true) where
  -- these turns are granted on a bus and below it, the leaf has got the item, and all else is at rest
  pub record Served (w : Where) (d : DirValue) (ns : Nodes) (ts : List Turn) : Type 0 where
    pub parent : DirValue
    pub kids : List Node
    pub run : Runs w (dir_node d ns) ts (dir_node parent (nodes kids))
    pub rests : dir_rests parent ≡ true
    pub child : ℕ
    pub is : child_over h (nodes kids) ≡ Some child
    pub there : child < length kids
    pub others : (j : ℕ) → j < length kids → j ≢ child → Settled n flat (child_at j kids)
    pub spine : Spine n flat h (LeafIs n flat g x (got state) (asks_then x state)) (child_at child kids)

  module _ (w : Where) (d : DirValue) (ns : Nodes) (c : ℕ) (is : child_over h ns ≡ Some c) (there : c < length (children ns)) (r : DirRests x d) (bus : IsBusOk n d (children ns)) (calm : (j : ℕ) → j < length (children ns) → j ≢ c → Calm n flat (child_at j (children ns))) (spine : Spine n flat h (LeafIs n flat g x state (Some (read n flat g h x within state))) (child_at c (children ns))) (ok : IsTreeOk n (child_at c (children ns))) (lacks : is_held (child_hold x (child_at c (children ns))) ≡ false) (held : is_held (dir_hold x d) ≡ true) where
    abbrev ks : List Node
    ks = children ns

    asked : Asks n flat g h x within state (at_child (spot_in (where_path w) d c)) (child_at c ks) (ask_turns h (child_at c ks))
    asked = ask n flat g h x within state (child_at c ks) spine ok lacks (at_child (spot_in (where_path w) d c))

    -- child k answers
    module _ (k : ℕ) (found : find_from (other_holds c x) 0 ks ≡ Some k) where
      in-k : k < length ks
      in-k = found-within (other_holds c x) k ks no_node found

      passes : (not (nat_eq k c) && child_holds x (child_at k ks)) ≡ true
      passes = found-passes (other_holds c x) k ks no_node found

      apart : k ≢ c
      apart same = true≢false (sym (eq-eqb k c same) ∙ not-true _ (and_parts (not (nat_eq k c)) _ passes).0)

      holds : child_holds x (child_at k ks) ≡ true
      holds = (and_parts (not (nat_eq k c)) _ passes).1

      -- when the read has come up
      abbrev l1 : List Node
      l1 = slice_set ks c asked.after

      many1 : length l1 ≡ length ks
      many1 = length-set ks c asked.after

      at1-c : child_at c l1 ≡ asked.after
      at1-c = get_or-set_same ks c asked.after no_node there

      at1-other : (j : ℕ) → j ≢ c → child_at j l1 ≡ child_at j ks
      at1-other j ne = get_or-set_other ks c j asked.after no_node ne

      -- when it was granted, and child k told to answer
      abbrev p1 : DirValue
      p1 = with_note x (local c 0) (counted d)

      abbrev s1 : Stamp
      s1 = stamp_of (counted d)

      abbrev l2 : List Node
      l2 = map_from (read_from c k x s1) 0 l1

      many2 : length l2 ≡ length ks
      many2 = map_from-length (read_from c k x s1) 0 l1 ∙ many1

      at2 : (j : ℕ) → j < length ks → child_at j l2 ≡ read_from c k x s1 j (child_at j l1)
      at2 j l = child_at-map_from (read_from c k x s1) j l1 (subst (λ n. j < n) (sym many1) l)

      at2-c : child_at c l2 ≡ child_request_taken asked.after
      at2-c =
          let here : nat_eq c c ≡ true = eq-eqb c c refl in
          at2 c there ∙ (rw here refl ∙ ap child_request_taken at1-c)

      at2-k : child_at k l2 ≡ child_answer x s1 (child_at k ks)
      at2-k =
          let other : nat_eq k c ≡ false = ne_eqb k c apart in
          let here : nat_eq k k ≡ true = eq-eqb k k refl in
          at2 k in-k ∙ (rw (other, here) refl ∙ ap (child_answer x s1) (at1-other k apart))

      at2-other : (j : ℕ) → j < length ks → j ≢ c → j ≢ k → child_at j l2 ≡ child_at j ks
      at2-other j l ne1 ne2 =
          let e1 : nat_eq j c ≡ false = ne_eqb j c ne1 in
          let e2 : nat_eq j k ≡ false = ne_eqb j k ne2 in
          at2 j l ∙ (rw (e1, e2) refl ∙ at1-other j ne1)

      gives-it : Gives n flat (at_child (spot_in (where_path w) p1 k)) x (child_answer x s1 (child_at k ks)) (give_turns x (child_at k ks))
      gives-it = give n flat x within (child_at k ks) (at_child (spot_in (where_path w) p1 k)) s1 (calm k in-k apart) holds

      -- when child k has the reply
      abbrev l3 : List Node
      l3 = slice_set l2 k gives-it.after

      many3 : length l3 ≡ length ks
      many3 = length-set l2 k gives-it.after ∙ many2

      at3-k : child_at k l3 ≡ gives-it.after
      at3-k = get_or-set_same l2 k gives-it.after no_node (subst (λ n. k < n) (sym many2) in-k)

      at3-other : (j : ℕ) → j ≢ k → child_at j l3 ≡ child_at j l2
      at3-other j ne = get_or-set_other l2 k j gives-it.after no_node ne

      at3-c : child_at c l3 ≡ child_request_taken asked.after
      at3-c = at3-other c (λ same. apart (sym same)) ∙ at2-c

      -- when the reply was granted, and child c told data
      abbrev p2 : DirValue
      p2 = with_note x no_note (counted p1)

      abbrev s2 : Stamp
      s2 = stamp_of (counted p1)

      abbrev l4 : List Node
      l4 = map_from (replied_by k (local c 0) x (flat.words x) s2) 0 l3

      many4 : length l4 ≡ length ks
      many4 = map_from-length (replied_by k (local c 0) x (flat.words x) s2) 0 l3 ∙ many3

      at4 : (j : ℕ) → j < length ks → child_at j l4 ≡ replied_by k (local c 0) x (flat.words x) s2 j (child_at j l3)
      at4 j l = child_at-map_from (replied_by k (local c 0) x (flat.words x) s2) j l3 (subst (λ n. j < n) (sym many3) l)

      at4-c : child_at c l4 ≡ child_take_data x (flat.words x) s2 (child_request_taken asked.after)
      at4-c =
          let other : nat_eq c k ≡ false = ne_eqb c k (λ same. apart (sym same)) in
          let here : nat_eq c c ≡ true = eq-eqb c c refl in
          at4 c there ∙ (rw (only-local c c, here, other) refl ∙ ap (child_take_data x (flat.words x) s2) at3-c)

      at4-k : child_at k l4 ≡ child_reply_taken gives-it.after
      at4-k =
          let other : nat_eq k c ≡ false = ne_eqb k c apart in
          let here : nat_eq k k ≡ true = eq-eqb k k refl in
          at4 k in-k ∙ (rw (only-local c k, other, here) refl ∙ ap child_reply_taken at3-k)

      at4-other : (j : ℕ) → j < length ks → j ≢ c → j ≢ k → child_at j l4 ≡ child_at j ks
      at4-other j l ne1 ne2 =
          let e1 : nat_eq j c ≡ false = ne_eqb j c ne1 in
          let e2 : nat_eq j k ≡ false = ne_eqb j k ne2 in
          at4 j l ∙ (rw (only-local c j, e1, e2) refl ∙ (at3-other j ne2 ∙ at2-other j l ne1 ne2))

      takes-it : Takes n flat g h x within state reads (at_child (spot_in (where_path w) p2 c)) (child_take_data x (flat.words x) s2 (child_request_taken asked.after)) (take_turns h (child_at c ks))
      takes-it = subst (λ ts. Takes n flat g h x within state reads (at_child (spot_in (where_path w) p2 c)) (child_take_data x (flat.words x) s2 (child_request_taken asked.after)) ts) same-turns (take n flat g h x within state reads (child_request_taken asked.after) asked.waits (at_child (spot_in (where_path w) p2 c)) s2) where
        same-turns : take_turns h (child_request_taken asked.after) ≡ take_turns h (child_at c ks)
        same-turns = taken-turns h asked.after ∙ turns-same h asked.after (child_at c ks) (runs-skeleton asked.run)

      abbrev l5 : List Node
      l5 = slice_set l4 c takes-it.after

      many5 : length l5 ≡ length ks
      many5 = length-set l4 c takes-it.after ∙ many4

      -- ---- the turns

      none-full : first_given (reader_full (local c 0) x) 0 l3 ≡ None
      none-full = none-given (reader_full (local c 0) x) 0 l3 (λ j l. at j (ℕ_discrete j c)) where
        at : (j : ℕ) → Dec (j ≡ c) → reader_full (local c 0) x (0 + j) (child_at j l3) ≡ None
        at j (yes same) =
            let zero_more : 0 + j ≡ j = omega arith in
            let here : nat_eq j c ≡ true = eq-eqb j c same in
            let room : child_full_for DataTx x (child_at j l3) ≡ None = subst (λ i. child_full_for DataTx x (child_at i l3) ≡ None) (sym same) (subst (λ m. child_full_for DataTx x m ≡ None) (sym at3-c) (free-for_data n flat g h x within state reads (child_request_taken asked.after) asked.waits)) in
            rw (zero_more, only-local c j, here) room
        at j (no other) =
            let zero_more : 0 + j ≡ j = omega arith in
            let differs : nat_eq j c ≡ false = ne_eqb j c other in
            rw (zero_more, only-local c j, differs) refl

      p1-items : ItemsAre x (dir_hold x d) (local c 0) false p1.items
      p1-items = items-set x (record (dir_item x d) { note = local c 0 }) _ _ _ (dir_hold x d) (local c 0) false d.items r.items refl refl r.items.answers

      p2-items : ItemsAre x (dir_hold x d) no_note false p2.items
      p2-items = items-set x (record (dir_item x p1) { note = no_note }) _ _ _ (dir_hold x d) no_note false p1.items p1-items p1-items.hold refl p1-items.answers

      p2-lists : ListsAre [] [] [] p2
      p2-lists = record { down = r.lists.down; requests = r.lists.requests; replies = r.lists.replies; parked = r.lists.parked; places = r.lists.places }

      run5 : Runs w (dir_node p2 (nodes l4)) (take_turns h (child_at c ks)) (dir_node p2 (nodes l5))
      run5 =
          let inner : Runs (at_child (spot_in (where_path w) p2 c)) (child_at c l4) (take_turns h (child_at c ks)) takes-it.after = subst (λ m. Runs (at_child (spot_in (where_path w) p2 c)) m (take_turns h (child_at c ks)) takes-it.after) (sym at4-c) takes-it.run in
          subst (λ ts. Runs w (dir_node p2 (nodes l4)) ts (dir_node p2 (nodes l5))) (append-nil (take_turns h (child_at c ks))) (below l4 c (take_turns h (child_at c ks)) takes-it.after (subst (λ n. c < n) (sym many4) there) inner stays)

      run3 : Runs w (dir_node p1 (nodes l3)) (Turn.Reply d.bus k ∷ take_turns h (child_at c ks)) (dir_node p2 (nodes l5))
      unfolding reply_to_readers
      run3 =
          let has : child_reply (child_at k l3) ≡ Some (record { item = x; words = flat.words x }) = ap child_reply at3-k ∙ ap first_of gives-it.reply in
          turned l3 (reply_to_readers k x (flat.words x) p1 l3 c 0) refl (reply-across (stamp_above w) x c k (flat.words x) p1 l3 has p1-items.note none-full) run5

      run2 : Runs w (dir_node p1 (nodes l2)) (give_turns x (child_at k ks) ++ Turn.Reply d.bus k ∷ take_turns h (child_at c ks)) (dir_node p2 (nodes l5))
      run2 =
          let inner : Runs (at_child (spot_in (where_path w) p1 k)) (child_at k l2) (give_turns x (child_at k ks)) gives-it.after = subst (λ m. Runs (at_child (spot_in (where_path w) p1 k)) m (give_turns x (child_at k ks)) gives-it.after) (sym at2-k) gives-it.run in
          below l2 k (give_turns x (child_at k ks)) gives-it.after (subst (λ n. k < n) (sym many2) in-k) inner run3

      run1 : Runs w (dir_node d (nodes l1)) (Turn.Request d.bus c ∷ (give_turns x (child_at k ks) ++ Turn.Reply d.bus k ∷ take_turns h (child_at c ks))) (dir_node p2 (nodes l5))
      unfolding read_of_child
      run1 =
          let has : child_request (child_at c l1) ≡ Some (read n flat g h x within state) = ap child_request at1-c ∙ asked.request in
          let found1 : find_from (other_holds c x) 0 l1 ≡ Some k = find-set c x asked.after 0 c ks (omega arith) ∙ found in
          let room : child_full_for ReadTx x (child_at k l1) ≡ None = subst (λ m. child_full_for ReadTx x m ≡ None) (sym (at1-other k apart)) (free-to_answer n flat x within (child_at k ks) (calm k in-k apart)) in
          turned l1 (read_of_child c x d l1 k) refl (request-across (stamp_above w) x c k d l1 has r.items.note (not-pending x d r.items.note r.items.answers r.lists.down) held found1 room) run2

      run0 : Runs w (dir_node d ns) (ask_turns h (child_at c ks) ++ Turn.Request d.bus c ∷ (give_turns x (child_at k ks) ++ Turn.Reply d.bus k ∷ take_turns h (child_at c ks))) (dir_node p2 (nodes l5))
      run0 = subst (λ l. Runs w (dir_node d l) (ask_turns h (child_at c ks) ++ Turn.Request d.bus c ∷ (give_turns x (child_at k ks) ++ Turn.Reply d.bus k ∷ take_turns h (child_at c ks))) (dir_node p2 (nodes l5))) (nodes-children ns) (below ks c (ask_turns h (child_at c ks)) asked.after there asked.run run1)

      served : Served w d ns (turns_of_child c (asks h ns) ++ Turn.Request d.bus c ∷ (turns_of_child k (gives x ns) ++ Turn.Reply d.bus k ∷ turns_of_child c (takes h ns)))
      served = record {
        parent = p2;
        kids = l5;
        run = rw (asks-at h c ns there, gives-at x k ns in-k, takes-at h c ns there) run0;
        rests = rests-dir x (dir_hold x d) p2 p2-items p2-lists;
        child = c;
        is = same-over h 0 (nodes l5) ns (dir-bones p2 d (nodes l5) ns (runs-skeleton run0)) ∙ is;
        there = subst (λ n. c < n) (sym many5) there;
        others = λ j l ne. at j (subst (λ n. j < n) many5 l) ne (ℕ_discrete j k);
        spine = subst (Spine n flat h (LeafIs n flat g x (got state) (asks_then x state))) (sym (get_or-set_same l4 c takes-it.after no_node (subst (λ n. c < n) (sym many4) there))) takes-it.spine;
      } where
        at : (j : ℕ) → j < length ks → j ≢ c → Dec (j ≡ k) → Settled n flat (child_at j l5)
        at j l ne (yes same) =
            let is-k : child_at k l5 ≡ child_reply_taken gives-it.after = get_or-set_other l4 c k takes-it.after no_node apart ∙ at4-k in
            subst (λ i. Settled n flat (child_at i l5)) (sym same) (subst (Settled n flat) (sym is-k) gives-it.settled)
        at j l ne (no other) = subst (Settled n flat) (sym (get_or-set_other l4 c j takes-it.after no_node ne ∙ at4-other j l ne other)) (calm j l ne).settled

    none-other : find_from (other_holds c x) 0 ks ≡ None → is_held (dir_hold x d) ≡ false
    none-other none = no-holder n x within d ks bus r.items.note r.items.answers r.lists (nobody 0 ks (λ j l. lack j l)) where
      lack : (j : ℕ) → j < length ks → child_holds x (child_at j ks) ≡ false
      lack j l = at (ℕ_discrete j c) where
        at : Dec (j ≡ c) → child_holds x (child_at j ks) ≡ false
        at (yes same) = subst (λ i. child_holds x (child_at i ks) ≡ false) (sym same) lacks
        at (no other) =
            let fails : (not (nat_eq j c) && child_holds x (child_at j ks)) ≡ false = none-passes (other_holds c x) j ks no_node none l in
            let differs : nat_eq j c ≡ false = ne_eqb j c other in
            rw differs at fails

      nobody : (i : ℕ) (ms : List Node) → ((j : ℕ) → j < length ms → child_holds x (child_at j ms) ≡ false) → find_from (holds_item x) i ms ≡ None
      nobody i [] each = refl
      nobody i (m ∷ ms) each =
          let first : child_holds x m ≡ false = each 0 (omega arith) in
          rw first (nobody (i + 1) ms (λ j l. each (suc j) (omega (arith, l))))

    pub across : Served w d ns (read_across h x d.bus c ns)
    across = at (find_from (other_holds c x) 0 ks) refl where
      at : (o : Option ℕ) → find_from (other_holds c x) 0 ks ≡ o → Served w d ns (turns_of_child c (asks h ns) ++ Turn.Request d.bus c ∷ turns_by (λ k. turns_of_child k (gives x ns) ++ Turn.Reply d.bus k ∷ turns_of_child c (takes h ns)) o)
      at None none = absurd (true≢false (sym held ∙ none-other none))
      at (Some k) found = served k found
