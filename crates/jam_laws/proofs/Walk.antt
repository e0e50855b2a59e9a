-- The walk along the reasons: where a leaf waits, some bus of its tree goes on.
--
-- Down. Let a directory have something that comes down (an entry of its down list, a child that is to give for a note Local, or
-- an answer that it owes). Its first entry goes on, unless that entry's item has a note Local. A note Local, and an answer whose
-- read has come down, lead to a child that gives: it has a reply, and its reply goes on; or it is a directory that is
-- answering, and so has something that comes down, one level lower. A leaf never answers.
--
-- Up. A leaf that waits wants something of its bus: it asks, or its request was granted. Where a child wants something, its
-- request goes on, or the item is under way on that bus. What is under way there comes down, and then some bus goes on; or it
-- went up with nothing that comes down, and then the directory wants something of the bus above. The top wants nothing.
--
-- Letters: n is how many items there are, m a node and w where it stands, d a directory over the nodes ns, x an item.
use Rattle.std.proofs.Common.{◌≡◌, ℕ, suc, ◌+◌, ◌<◌, Bool, true, false, ◌⊎◌, inl, inr, List, [], ◌∷◌, length, Option, Some, None, refl, sym, ap, subst, ◌∙◌, arith}
use Rattle.std.specs.Prelude.{not, ◌&&◌, ◌||◌, nat_eq, nat_lt, is_some}
use Rattle.std.specs.List.{list_any, list_all, AllByRecursion}
use Rattle.std.specs.Cmp.Derive.{both_true}
use Rattle.std.proofs.lemmas.Bool.{and_parts, lt-ltb, not-true, true≢false}
use Rattle.jam_laws.specs.DdmTypes.declared.sizes.Hold.{Hold}
use Rattle.jam_laws.specs.DdmTypes.declared.sizes.LeafState.{LeafState}
use Rattle.jam_laws.specs.DdmTypes.declared.keys.Stamp.{Stamp}
use Rattle.jam_laws.specs.TreeModel.declared.BusTurn.{BusTurn}
use Rattle.jam_laws.specs.TreeModel.State.Lists.{has_some, first_of}
use Rattle.jam_laws.specs.TreeModel.State.States.{is_exclusive, is_shared}
use Rattle.jam_laws.specs.TreeModel.State.Values.{RequestValue, CopyValue, DownValue, LeafValue, DirValue, Node, Nodes, leaf_node, dir_node, no_nodes, more_nodes, children, MachineValue, root_of}
use Rattle.jam_laws.specs.TreeModel.State.Leaf.{waiting_item, words_of_item, state_at}
use Rattle.jam_laws.specs.TreeModel.State.Directory.{dir_hold, dir_note, is_answering, is_local, is_up_read, in_down, queue_of, queue_kinds, request_kinds}
use Rattle.jam_laws.specs.TreeModel.State.Child.{child_request, child_reply, child_replies}
use Rattle.jam_laws.specs.TreeModel.State.Place.{Where, at_top, at_child, stamp_above, where_path, spot_in}
use Rattle.jam_laws.specs.TreeModel.Turns.Children.{child_at}
use Rattle.jam_laws.specs.TreeModel.Turns.Bus.{request_turn, bus_judged}
use Rattle.jam_laws.specs.TreeModel.Turns.Machine.{leaves_of, leaves_among}
use Rattle.jam_laws.specs.TreeRules.Bus.Faces.{parent_face, face_reads, face_erases, child_face, faces_of}
use Rattle.jam_laws.specs.TreeRules.Bus.Own.{IsLeafOk, state_waits, no_requests}
use Rattle.jam_laws.specs.TreeRules.Bus.Item.{implies, gives_none, Bits, bits_of, up_read_noted, top_holds}
use Rattle.jam_laws.specs.TreeRules.Bus.Rules.{IsBusOk, IsChildOk, IsTreeOk, AreTreesOk, IsMachineOk, items_of_machine}
use Rattle.jam_laws.proofs.TreeRules.Implying.{implies-use}
use Rattle.bus_laws.specs.KeepsBus.{IsTopBusOk}
use Rattle.bus_laws.proofs.States.{state-at}
use Rattle.bus_laws.proofs.DirParts.{dir-parts}
use Rattle.bus_laws.proofs.HartFacts.{entries-from_rules, waiting-some, state-known}
use Rattle.bus_laws.proofs.Before.{entry-known}
use Rattle.bus_laws.proofs.RowFrame.{is-top_like}
use Rattle.jam_laws.specs.GoesOn.{leaf_is_waiting, some_leaf_waits}
use Rattle.jam_laws.proofs.Judged.{goes}
use Rattle.jam_laws.proofs.Goes.{gift, each-gift, down-goes, reply-goes}
use Rattle.jam_laws.proofs.Asks.{ComesDown, entry_comes, child_gives, dir_answers, WentUp, read_went, erase_went, UnderWay, comes_down, went_up, Wants, asks, reads, erases, some-queued, wants-goes, wanted, each-wanted}

-- ---- some bus goes on

-- Down, or Reply or Request of one of so many children
abbrev pub is_onward : ℕ → BusTurn → Bool
is_onward kids BusTurn.Down = true
is_onward kids (BusTurn.Reply c) = nat_lt c kids
is_onward kids (BusTurn.Request c) = nat_lt c kids
is_onward kids (BusTurn.Leave c choice) = false

-- a turn of this bus goes on
pub record BusGoes (above : Stamp) (p : DirValue) (ns : List Node) : Type 0 where
  pub turn : BusTurn
  pub onward : is_onward (length ns) turn ≡ true
  pub on : goes (bus_judged above p ns turn) ≡ true

abbrev mutual
  -- that of a bus in this part of the tree
  pub SomeGoes : Where → Node → Type 0
  SomeGoes w (leaf_node v) = ⊥
  SomeGoes w (dir_node d ns) = BusGoes (stamp_above w) d (children ns) ⊎ SomeGoesAmong (where_path w) d 0 ns

  pub SomeGoesAmong : List ℕ → DirValue → ℕ → Nodes → Type 0
  SomeGoesAmong path d i no_nodes = ⊥
  SomeGoesAmong path d i (more_nodes m ns) = SomeGoes (at_child (spot_in path d i)) m ⊎ SomeGoesAmong path d (i + 1) ns

-- ---- rules of the children of a bus

child-ok : (n : ℕ) (m : Node) → IsTreeOk n m → IsChildOk n m
child-ok n (leaf_node v) ok = ok
child-ok n (dir_node d ns) ok = ok.0

pub children-ok : (n : ℕ) (ns : Nodes) → AreTreesOk n ns → AllByRecursion (IsChildOk n) (children ns)
children-ok n no_nodes ok = tt
children-ok n (more_nodes m ns) ok = (child-ok n m ok.0, children-ok n ns ok.1)

-- ---- down

-- one of these children has a reply
record SomeReply (ns : List Node) : Type 0 where
  child : ℕ
  there : child < length ns
  copy : CopyValue
  has : child_reply (child_at child ns) ≡ Some copy

reply-later : (m : Node) (ns : List Node) → SomeReply ns → SomeReply (m ∷ ns)
reply-later m ns r = record { child = suc r.child; there = let l : r.child < length ns = r.there in omega (arith, l); copy = r.copy; has = r.has }

abbrev pub ComesAt : ℕ → Node → Type 0
ComesAt n (leaf_node v) = ⊥
ComesAt n (dir_node d ns) = ComesDown n d

-- a child that has copies of an item among its replies has a first one
some-reply : (x : ℕ) (m : Node) (ns : List Node) (cs : List CopyValue) → child_replies m ≡ cs → nat_eq (length (words_of_item x cs)) 0 ≡ false → SomeReply (m ∷ ns)
unfolding words_of_item
some-reply x m ns [] is some = absurd (true≢false some)
some-reply x m ns (c ∷ cs) is some = record { child = 0; there = omega arith; copy = c; has = ap first_of is }

pub replies-seen : (x : ℕ) (m : Node) → (child_face x m).replies ≡ length (words_of_item x (child_replies m))
replies-seen x (leaf_node v) = refl
replies-seen x (dir_node d ns) = refl

module _ (n : ℕ) where
  -- a child that gives: it has a reply, or is a directory that is answering
  gives-how : (x : ℕ) → x < n → (m : Node) (ns : List Node) → gives_none (child_face x m) ≡ false → SomeReply (m ∷ ns) ⊎ ComesAt n m
  gives-how x within m ns gives = at (nat_eq (child_face x m).replies 0) refl where
    answers : (m : Node) → (not (child_face x m).answers && true) ≡ false → ComesAt n m
    answers (leaf_node v) h = true≢false h
    answers (dir_node d ms) h = dir_answers x within (by (is_answering x d) refl h) where
      by : (b : Bool) → is_answering x d ≡ b → (not b && true) ≡ false → is_answering x d ≡ true
      by true is h = is
      by false is h = absurd (true≢false h)

    at : (b : Bool) → nat_eq (child_face x m).replies 0 ≡ b → SomeReply (m ∷ ns) ⊎ ComesAt n m
    at true none = inr (answers m (subst (λ b. (not (child_face x m).answers && b) ≡ false) none gives))
    at false some = inl (some-reply x m ns (child_replies m) refl (subst (λ k. nat_eq k 0 ≡ false) (replies-seen x m) some))

  -- a bus where something comes down; what is below it is known of its children that give
  comes-from : (w : Where) (d : DirValue) (ns : Nodes) → IsTreeOk n (dir_node d ns) → ((x : ℕ) → x < n → list_all gives_none (faces_of x (children ns)) ≡ false → SomeReply (children ns) ⊎ SomeGoesAmong (where_path w) d 0 ns) → ComesDown n d → SomeGoes w (dir_node d ns)
  comes-from w d ns ok below comes = by comes where
    kids : AllByRecursion (IsChildOk n) (children ns)
    kids = children-ok n ns ok.1

    replied : SomeReply (children ns) → SomeGoes w (dir_node d ns)
    replied r = inl (record { turn = BusTurn.Reply r.child; onward = lt-ltb _ _ r.there; on = reply-goes n (stamp_above w) d (children ns) ok.0 kids r.child r.copy r.has })

    given : SomeReply (children ns) ⊎ SomeGoesAmong (where_path w) d 0 ns → SomeGoes w (dir_node d ns)
    given (inl r) = replied r
    given (inr deeper) = inr deeper

    gives : (x : ℕ) → x < n → (is_local (dir_note x d) || (is_answering x d && not (in_down x d))) ≡ true → SomeGoes w (dir_node d ns)
    gives x within owed =
        let k : Bits = bits_of (parent_face x d) (faces_of x (children ns)) in
        let all = state-at gift each-gift (parent_face x d) (faces_of x (children ns)) (ok.0.rules x within) in
        let some = implies-use _ (not k.no_gift) (and_parts (implies (not k.no_gift) _) _ all).1 owed in
        given (below x within (not-true k.no_gift some))

    entry : (e : DownValue) (rest : List DownValue) → d.down ≡ e ∷ rest → (b : Bool) → is_local (dir_note e.item d) ≡ b → SomeGoes w (dir_node d ns)
    entry e rest front true is = gives e.item (entry-known n e.item d (children ns) ok.0 e rest front) (ap (λ b. b || (is_answering e.item d && not (in_down e.item d))) is)
    entry e rest front false is = inl (record { turn = BusTurn.Down; onward = refl; on = down-goes n (stamp_above w) d (children ns) ok.0 kids e rest front is })

    listed : (down : List DownValue) → d.down ≡ down → has_some down ≡ true → SomeGoes w (dir_node d ns)
    listed [] is some = absurd (true≢false (sym some))
    listed (e ∷ rest) is some = entry e rest is (is_local (dir_note e.item d)) refl

    answering : (x : ℕ) → x < n → is_answering x d ≡ true → (b : Bool) → in_down x d ≡ b → SomeGoes w (dir_node d ns)
    answering x within is true comes = listed d.down refl (some-queued x d comes)
    answering x within is false none = gives x within (owed (is_local (dir_note x d))) where
      owed : (b : Bool) → (b || (is_answering x d && not (in_down x d))) ≡ true
      owed true = refl
      owed false = both_true is (ap not none)

    by : ComesDown n d → SomeGoes w (dir_node d ns)
    by (entry_comes some) = listed d.down refl some
    by (child_gives x within is) = gives x within (ap (λ b. b || (is_answering x d && not (in_down x d))) is)
    by (dir_answers x within is) = answering x within is (in_down x d) refl

  mutual
    pub comes-goes : (w : Where) (m : Node) → IsTreeOk n m → ComesAt n m → SomeGoes w m
    comes-goes w (leaf_node v) ok comes = comes
    comes-goes w (dir_node d ns) ok comes = comes-from w d ns ok (λ x within some. gives-goes (where_path w) d 0 ns ok.1 x within some) comes

    gives-goes : (path : List ℕ) (d : DirValue) (i : ℕ) (ns : Nodes) → AreTreesOk n ns → (x : ℕ) → x < n → list_all gives_none (faces_of x (children ns)) ≡ false → SomeReply (children ns) ⊎ SomeGoesAmong path d i ns
    gives-goes path d i no_nodes ok x within some = absurd (true≢false some)
    gives-goes path d i (more_nodes m ns) ok x within some = first (gives_none (child_face x m)) refl some (λ rest. gives-goes path d (i + 1) ns ok.1 x within rest) (λ comes. comes-goes (at_child (spot_in path d i)) m ok.0 comes) where
      later : SomeReply (children ns) ⊎ SomeGoesAmong path d (i + 1) ns → SomeReply (children (more_nodes m ns)) ⊎ SomeGoesAmong path d i (more_nodes m ns)
      later (inl r) = inl (reply-later m (children ns) r)
      later (inr deeper) = inr (inr deeper)

      here : (ComesAt n m → SomeGoes (at_child (spot_in path d i)) m) → SomeReply (children (more_nodes m ns)) ⊎ ComesAt n m → SomeReply (children (more_nodes m ns)) ⊎ SomeGoesAmong path d i (more_nodes m ns)
      here below (inl r) = inl r
      here below (inr comes) = inr (inl (below comes))

      first : (b : Bool) → gives_none (child_face x m) ≡ b → (b && list_all gives_none (faces_of x (children ns))) ≡ false → (list_all gives_none (faces_of x (children ns)) ≡ false → SomeReply (children ns) ⊎ SomeGoesAmong path d (i + 1) ns) → (ComesAt n m → SomeGoes (at_child (spot_in path d i)) m) → SomeReply (children (more_nodes m ns)) ⊎ SomeGoesAmong path d i (more_nodes m ns)
      first true none rest behind below = later (behind rest)
      first false gives rest behind below = here below (gives-how x within m (children ns) gives)

-- ---- up

abbrev mutual
  -- a leaf of this part of the tree waits
  pub waits_in : Node → Bool
  waits_in (leaf_node v) = leaf_is_waiting v
  waits_in (dir_node d ns) = waits_among ns

  pub waits_among : Nodes → Bool
  waits_among no_nodes = false
  waits_among (more_nodes m ns) = waits_in m || waits_among ns

-- one of these children wants something
record SomeWants (n : ℕ) (ns : List Node) : Type 0 where
  child : ℕ
  there : child < length ns
  wants : Wants n (child_at child ns)

first-request : (n : ℕ) (d : DirValue) (ns : Nodes) (rs : List RequestValue) → d.requests ≡ rs → (x : ℕ) → has_some (request_kinds x rs) ≡ true → Wants n (dir_node d ns)
unfolding request_kinds
first-request n d ns [] is x some = absurd (true≢false (sym some))
first-request n d ns (r ∷ rs) is x some = asks r (ap first_of is)

nothing-comes : (x : ℕ) (d : DirValue) → has_some d.down ≡ false → in_down x d ≡ false
unfolding queue_of
nothing-comes x d none = at d.down none where
  at : (down : List DownValue) → has_some down ≡ false → has_some (queue_kinds x down) ≡ false
  at [] h = refl
  at (e ∷ down) h = absurd (true≢false h)

module _ (n : ℕ) where
  -- a leaf that waits asks, or its request was granted
  leaf-wants : (v : LeafValue) → IsLeafOk n v → leaf_is_waiting v ≡ true → Wants n (leaf_node v)
  leaf-wants v ok waits = at (waiting_item v.ways v.buffer) refl waits where
    by : (y : ℕ) → y < n → (o : Option LeafState) → state_at y v ≡ o → state_waits o ≡ true → (slot : Option RequestValue) → v.slot ≡ slot → Wants n (leaf_node v)
    by y within o is wait (Some r) asked = asks r asked
    by y within None is wait None free = absurd (true≢false (sym wait))
    by y within (Some LeafState.Shared) is wait None free = absurd (true≢false (sym wait))
    by y within (Some LeafState.Exclusive) is wait None free = absurd (true≢false (sym wait))
    by y within (Some LeafState.Waiting) is wait None free = erases y within (rw (is, free) refl)
    by y within (Some LeafState.Reading) is wait None free = reads y within (rw (is, free) refl)
    by y within (Some LeafState.ReadingWaiting) is wait None free = reads y within (rw (is, free) refl)

    known : (y : ℕ) (o : Option LeafState) → state_at y v ≡ o → state_waits o ≡ true → y < n
    known y None is wait = absurd (true≢false (sym wait))
    known y (Some s) is wait = state-known n v.sizes v.ways v.buffer (entries-from_rules n v ok) y s is

    at : (o : Option ℕ) → waiting_item v.ways v.buffer ≡ o → is_some o ≡ true → Wants n (leaf_node v)
    at None is some = absurd (true≢false (sym some))
    at (Some y) is some =
        let wait : state_waits (state_at y v) ≡ true = waiting-some n v.sizes v.ways v.buffer (entries-from_rules n v ok) y is in
        by y (known y (state_at y v) refl wait) (state_at y v) refl wait v.slot refl

  -- what went up is wanted of the bus above, where nothing comes down
  went-wanted : (d : DirValue) (ns : Nodes) → IsBusOk n d (children ns) → has_some d.down ≡ false → WentUp n d → Wants n (dir_node d ns)
  went-wanted d ns ok none = by where
    either : (x : ℕ) (a : Bool) → (has_some (request_kinds x d.requests) || a) ≡ true → (a ≡ true → Wants n (dir_node d ns)) → Wants n (dir_node d ns)
    either x a h granted = at (has_some (request_kinds x d.requests)) refl h where
      at : (c : Bool) → has_some (request_kinds x d.requests) ≡ c → (c || a) ≡ true → Wants n (dir_node d ns)
      at true is h = first-request n d ns d.requests refl x is
      at false is h = granted h

    known : (x : ℕ) → x < n → wanted (parent_face x d) (bits_of (parent_face x d) (faces_of x (children ns))) ≡ true
    known x within = state-at wanted each-wanted (parent_face x d) (faces_of x (children ns)) (ok.rules x within)

    by : WentUp n d → Wants n (dir_node d ns)
    by (read_went x within is) =
        let h = implies-use _ _ (and_parts (implies (is_up_read (dir_note x d) && not (in_down x d)) _) _ (known x within)).0 (both_true is (ap not (nothing-comes x d none))) in
        either x (face_reads (parent_face x d)) h (λ granted. reads x within granted)
    by (erase_went x within is) =
        let h = implies-use _ _ (and_parts (implies (is_up_read (dir_note x d) && not (in_down x d)) _) _ (known x within)).1 (both_true is (ap not (nothing-comes x d none))) in
        either x (face_erases (parent_face x d)) h (λ granted. erases x within granted)

  -- a bus of which a child wants something
  wants-from : (w : Where) (d : DirValue) (ns : Nodes) → IsTreeOk n (dir_node d ns) → SomeWants n (children ns) → SomeGoes w (dir_node d ns) ⊎ Wants n (dir_node d ns)
  wants-from w d ns ok s = by (wants-goes n (stamp_above w) d (children ns) ok.0 (children-ok n ns ok.1) s.child s.there s.wants) where
    up : WentUp n d → (b : Bool) → has_some d.down ≡ b → SomeGoes w (dir_node d ns) ⊎ Wants n (dir_node d ns)
    up went true some = inl (comes-goes n w (dir_node d ns) ok (entry_comes some))
    up went false none = inr (went-wanted d ns ok.0 none went)

    way : UnderWay n d → SomeGoes w (dir_node d ns) ⊎ Wants n (dir_node d ns)
    way (comes_down c) = inl (comes-goes n w (dir_node d ns) ok c)
    way (went_up u) = up u (has_some d.down) refl

    by : (goes (request_turn (stamp_above w) d (children ns) s.child (child_request (child_at s.child (children ns)))) ≡ true) ⊎ UnderWay n d → SomeGoes w (dir_node d ns) ⊎ Wants n (dir_node d ns)
    by (inl on) = inl (inl (record { turn = BusTurn.Request s.child; onward = lt-ltb _ _ s.there; on = on }))
    by (inr under_way) = way under_way

  mutual
    -- where a leaf waits, some bus of this part of the tree goes on, or the part wants something of the bus above
    pub waits-goes : (w : Where) (m : Node) → IsTreeOk n m → waits_in m ≡ true → SomeGoes w m ⊎ Wants n m
    waits-goes w (leaf_node v) ok waits = inr (leaf-wants v ok waits)
    waits-goes w (dir_node d ns) ok waits = joined (waits_among-goes (where_path w) d 0 ns ok.1 waits) where
      joined : SomeGoesAmong (where_path w) d 0 ns ⊎ SomeWants n (children ns) → SomeGoes w (dir_node d ns) ⊎ Wants n (dir_node d ns)
      joined (inl deeper) = inl (inr deeper)
      joined (inr some) = wants-from w d ns ok some

    waits_among-goes : (path : List ℕ) (d : DirValue) (i : ℕ) (ns : Nodes) → AreTreesOk n ns → waits_among ns ≡ true → SomeGoesAmong path d i ns ⊎ SomeWants n (children ns)
    waits_among-goes path d i no_nodes ok waits = absurd (true≢false (sym waits))
    waits_among-goes path d i (more_nodes m ns) ok waits = first (waits_in m) refl waits (λ h. waits-goes (at_child (spot_in path d i)) m ok.0 h) (λ h. waits_among-goes path d (i + 1) ns ok.1 h) where
      here : SomeGoes (at_child (spot_in path d i)) m ⊎ Wants n m → SomeGoesAmong path d i (more_nodes m ns) ⊎ SomeWants n (children (more_nodes m ns))
      here (inl goes) = inl (inl goes)
      here (inr wants) = inr (record { child = 0; there = omega arith; wants = wants })

      later : SomeGoesAmong path d (i + 1) ns ⊎ SomeWants n (children ns) → SomeGoesAmong path d i (more_nodes m ns) ⊎ SomeWants n (children (more_nodes m ns))
      later (inl goes) = inl (inr goes)
      later (inr s) = inr (record { child = suc s.child; there = let l : s.child < length (children ns) = s.there in omega (arith, l); wants = s.wants })

      first : (b : Bool) → waits_in m ≡ b → (b || waits_among ns) ≡ true → (waits_in m ≡ true → SomeGoes (at_child (spot_in path d i)) m ⊎ Wants n m) → (waits_among ns ≡ true → SomeGoesAmong path d (i + 1) ns ⊎ SomeWants n (children ns)) → SomeGoesAmong path d i (more_nodes m ns) ⊎ SomeWants n (children (more_nodes m ns))
      first true is h now behind = here (now is)
      first false is h now behind = later (behind h)

-- ---- at the top

-- the top wants nothing
module _ (m : MachineValue) (ok : IsMachineOk m) where
  abbrev count : ℕ
  count = items_of_machine m

  abbrev ns : List Node
  ns = children m.kids

  none-asked : (rs : List RequestValue) → not (has_some rs) ≡ true → (r : RequestValue) → first_of rs ≡ Some r → ⊥
  none-asked [] none r first = let no : ⊥ = cc in no
  none-asked (q ∷ rs) none r first = true≢false (sym none)

  not-both : (h : Hold) → is_shared h ≡ true → is_exclusive h ≡ true → ⊥
  not-both Hold.Invalid s e = true≢false (sym s)
  not-both Hold.Shared s e = true≢false (sym e)
  not-both Hold.Exclusive s e = true≢false (sym s)

  top-wants_nothing : Wants count (root_of m) → ⊥
  top-wants_nothing (asks r asked) = none-asked m.top.requests (ok.top.each no_requests) r asked
  top-wants_nothing (reads x within granted) =
      let k : Bits = bits_of (parent_face x m.top) (faces_of x ns) in
      let noted = (and_parts (is_up_read (dir_note x m.top)) _ granted).0 in
      let absent = (and_parts k.readers (not k.held) (implies-use (is_up_read (dir_note x m.top)) _ ((ok.tree.0.rules x within).each up_read_noted) noted)).1 in
      let held = (and_parts k.held _ (ok.held x within)).0 in
      true≢false (sym held ∙ not-true _ absent)
  top-wants_nothing (erases x within granted) =
      let shared = (and_parts (is_shared (dir_hold x m.top)) _ granted).0 in
      let there : x < length m.top.items = subst (λ k. x < k) (sym (dir-parts count (length ns) m.top ok.tree.0.own).within.items) within in
      let top : IsTopBusOk count m.top ns = record { own = ok.top; held = ok.held } in
      let like = is-top_like count x m.top ns there within top in
      let exclusive = (and_parts (is_exclusive (dir_hold x m.top)) _ (and_parts (top_holds (parent_face x m.top) (bits_of (parent_face x m.top) (faces_of x ns))) _ like).1).0 in
      not-both (dir_hold x m.top) shared exclusive

or-behind : (a b c : Bool) → (a || (b || c)) ≡ ((a || b) || c)
or-behind true b c = refl
or-behind false b c = refl

mutual
  leaves-wait : (m : Node) (rest : List LeafValue) → list_any leaf_is_waiting (leaves_of m rest) ≡ (waits_in m || list_any leaf_is_waiting rest)
  leaves-wait (leaf_node v) rest = refl
  leaves-wait (dir_node d ns) rest = leaves_among-wait ns rest

  leaves_among-wait : (ns : Nodes) (rest : List LeafValue) → list_any leaf_is_waiting (leaves_among ns rest) ≡ (waits_among ns || list_any leaf_is_waiting rest)
  leaves_among-wait no_nodes rest = refl
  leaves_among-wait (more_nodes m ns) rest = leaves-wait m (leaves_among ns rest) ∙ ap (λ b. waits_in m || b) (leaves_among-wait ns rest) ∙ or-behind (waits_in m) (waits_among ns) (list_any leaf_is_waiting rest)

or-nothing : (b : Bool) → (b || false) ≡ b
or-nothing true = refl
or-nothing false = refl

-- where a leaf of a machine waits, some bus goes on
pub machine-goes : (m : MachineValue) → IsMachineOk m → some_leaf_waits m ≡ true → SomeGoes at_top (root_of m)
machine-goes m ok waits =
    let here : waits_in (root_of m) ≡ true = sym (leaves-wait (root_of m) [] ∙ or-nothing (waits_in (root_of m))) ∙ waits in
    elim (waits-goes (items_of_machine m) at_top (root_of m) ok.tree here) as (λ _. SomeGoes at_top (root_of m)) [
      | inl goes ↦ goes
      | inr wants ↦ absurd (top-wants_nothing m ok wants)
    ]
