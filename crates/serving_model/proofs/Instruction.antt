-- One instruction of a hart in a machine at rest with room, which needs an item: its request, the walks that serve it,
-- and rest again.
-- Letters: n is how many items there are, x the item, h the hart and its leaf, m a machine, ts and us are turns.
use Rattle.std.proofs.Common.{◌≡◌, ◌≢◌, ℕ, ◌+◌, ◌<◌, true, List, [], ◌∷◌, ◌++◌, length, Option, Some, None, refl, sym, ap, subst, ◌∙◌, arith, append-nil}
use Rattle.std.specs.Prelude.{nat_eq, nat_lt, option_and_then, option_map, slice_set}
use Rattle.std.specs.List.{list_all}
use Rattle.std.specs.Cmp.Derive.{both_true}
use native.Mathlib.Decide.{ℕ_discrete}
use Rattle.std.proofs.lemmas.Bool.{and_parts}
use Rattle.serving_model.specs.DdmTypes.ItemTable.{item_count}
use Rattle.serving_model.specs.DdmTypes.declared.answers.TurnAnswer.{TurnAnswer}
use Rattle.serving_model.specs.DdmTypes.declared.answers.TxKind.{TxKind}
use Rattle.serving_model.specs.DdmTypes.declared.answers.TxKind.TheVariants.{ReadTx, EraseTx}
use Rattle.serving_model.specs.DdmTypes.declared.sizes.LeafState.{LeafState}
use Rattle.serving_model.specs.DdmTypes.declared.turns.Turn.{Turn}
use Rattle.bus_laws.specs.FlatModel.Flat.{FlatHart}
use Rattle.serving_model.specs.TreeModel.State.States.{may_leave}
use Rattle.serving_model.specs.TreeModel.State.Values.{RequestValue, LeafValue, DirValue, Node, Nodes, leaf_node, dir_node, nodes, children, MachineValue, root_of}
use Rattle.serving_model.specs.TreeModel.State.Lists.{first_some}
use Rattle.serving_model.specs.TreeModel.State.Leaf.{way_at, way_entry, buffer_entry, buffered, entry_at, entry_state, state_at}
use Rattle.serving_model.specs.TreeModel.State.Place.{Where, at_top, at_child, where_path, spot_in}
use Rattle.serving_model.specs.TreeModel.State.Shape.{Frame, IsShaped, skeletons}
use Rattle.serving_model.specs.TreeModel.Turns.Children.{child_at}
use Rattle.serving_model.specs.TreeModel.Turns.Tree.{leaf_of_number, read_in, read_among, of_leaf}
use Rattle.serving_model.specs.TreeModel.Turns.Machine.{Turned, turn_answer, turn_of, run_of}
use Rattle.serving_model.specs.TreeRules.Bus.Rules.{IsMachineOk, items_of_machine}
use Rattle.serving_model.specs.Rest.{way_rests, tree_rests, trees_rest, dir_rests, is_at_rest, trees_have_room, has_room}
use Rattle.serving_model.specs.Parts.{FlatView, MayEnd, is_granted, BringsTo, AllHave, Settled, Calm}
use Rattle.serving_model.specs.OneLeaf.{hart_at, MayEndFor, LeafIs, Spine, at_leaf, over, RootSpine, IsServed}
use Rattle.serving_model.specs.Walk.{is_over, child_over, read_turns, erase_turns}
use Rattle.serving_model.specs.Serving.{asked_of, walk_by_kind, walk_for, walk_of, walks_of}
use Rattle.serving_model.specs.Told.{entry_state_at, walk_by_state, AreTold}
use Rattle.serving_model.specs.Laws.{Comes}
use Rattle.serving_model.proofs.Wants.{Wants, wants-store}
use Rattle.bus_laws.proofs.TreeKept.{turn-keeps_rules, run-keeps_rules}
use Rattle.serving_model.proofs.TreeModel.Children.{nodes-children}
use Rattle.serving_model.proofs.TreeModel.FrameKept.{turn-frame, run-frame, turn-shape, run-shape}
use Rattle.serving_model.proofs.TreeModel.TurnChanges.{turn-unanswered, turn-answered, turn-root}
use Rattle.serving_model.proofs.Lists.{pass-each}
use Rattle.serving_model.proofs.Settled.{rests-leaf, calm-children, kids-settled}
use Rattle.serving_model.proofs.Steps.{read-child}
use Rattle.serving_model.proofs.Read.{read-served}
use Rattle.serving_model.proofs.Erase.{erase-served}
use Rattle.serving_model.proofs.Issued.{lower-fail, spine-has, IssuedIn, reads_in, erases_in, onto, KidIssued, kid-issued, set-kids, issued-part}

-- ---- runs behind one another

pub run-on : (ts us : List Turn) (m : MachineValue) → (run_of (ts ++ us) m).machine ≡ (run_of us (run_of ts m).machine).machine
unfolding run_of
run-on [] us m = refl
run-on (t ∷ ts) us m = run-on ts us (turn_of t m).machine

granted-on : (ts us : List Turn) (m : MachineValue) → list_all is_granted (run_of ts m).answers ≡ true → list_all is_granted (run_of us (run_of ts m).machine).answers ≡ true → list_all is_granted (run_of (ts ++ us) m).answers ≡ true
unfolding run_of
granted-on [] us m first rest = rest
granted-on (t ∷ ts) us m first rest =
    let both = and_parts (is_granted (turn_of t m).answer) _ first in
    both_true both.0 (granted-on ts us (turn_of t m).machine both.1 rest)

brings-on : (ts us : List Turn) (m : MachineValue) (n o : Node) → BringsTo m ts n → BringsTo (run_of ts m).machine us o → BringsTo m (ts ++ us) o
brings-on ts us m n o first later = record {
  root = ap root_of (run-on ts us m) ∙ later.root;
  granted = granted-on ts us m first.granted later.granted;
  operations = ap (λ (k : MachineValue). k.ops) (run-on ts us m) ∙ (later.operations ∙ first.operations);
}

-- ---- what is read of the leaf

module _ {A : Type 0} (read : Where → Node → A) (n : ℕ) (flat : FlatView) (h : ℕ) (Q : LeafValue → Type 0) where
  -- the leaf, where it is, and what is read of it
  pub record Reads (w : Where) (m : Node) : Type 0 where
    pub leaf : LeafValue
    pub number : nat_eq leaf.number h ≡ true
    pub is : Q leaf
    pub place : Where
    pub says : read_in (leaf_of_number h) read w m ≡ Some (read place (leaf_node leaf))

  kid-reads : (w : Where) (d : DirValue) (ns : Nodes) (c : ℕ) → child_over h ns ≡ Some c → c < length (children ns) → Spine n flat h Q (child_at c (children ns)) → Reads (at_child (spot_in (where_path w) d c)) (child_at c (children ns)) → Reads w (dir_node d ns)
  kid-reads w d ns c is there spine one =
      let has = spine-has h n flat Q (child_at c (children ns)) spine in
      let same : Some c ≡ Some (0 + c) = ap Some (let z : c ≡ 0 + c = omega arith in z) in
      let zero_more : 0 + c ≡ c = omega arith in
      let says : read_in (leaf_of_number h) read w (dir_node d ns) ≡ Some (read one.place (leaf_node one.leaf)) =
      ap (read_among (leaf_of_number h) read (where_path w) d 0) (sym (nodes-children ns)) ∙ (read-child [] (record { size = 0; rows = [] }) (leaf_of_number h) read (where_path w) d 0 c (children ns) there has (λ j l. lower-fail (is_over h) 0 c (children ns) (is ∙ same) j l) ∙ (ap (λ i. read_in (leaf_of_number h) read (at_child (spot_in (where_path w) d i)) (child_at c (children ns))) zero_more ∙ one.says)) in
      record { leaf = one.leaf; number = one.number; is = one.is; place = one.place; says = says }

  leaf-reads : (m : Node) → Spine n flat h Q m → (w : Where) → Reads w m
  leaf-reads (leaf_node v) (at_leaf number is) w = record { leaf = v; number = number; is = is; place = w; says = rw number refl }
  leaf-reads (dir_node d ns) (over c is there rests room others deeper) w = kid-reads w d ns c is there deeper (leaf-reads (child_at c (children ns)) deeper (at_child (spot_in (where_path w) d c)))

  pub root-reads : (d : DirValue) (ns : Nodes) → RootSpine n flat h Q d ns → Reads at_top (dir_node d ns)
  root-reads d ns root = kid-reads at_top d ns root.child root.is root.there root.spine (leaf-reads (child_at root.child (children ns)) root.spine (at_child (spot_in [] d root.child)))

pub asked-is : (n : ℕ) (flat : FlatView) (g : FlatHart) (h x : ℕ) (state : LeafState) (asks : Option RequestValue) (m : MachineValue) → RootSpine n flat h (LeafIs n flat g x state asks) m.top m.kids → asked_of h m ≡ asks
asked-is n flat g h x state asks m root =
    let one = root-reads (of_leaf (λ w v. v.slot) None) n flat h (LeafIs n flat g x state asks) m.top m.kids root in
    ap (option_and_then (λ slot. slot)) one.says ∙ one.is.slot

walk-is : (h : ℕ) (m : MachineValue) (asks : Option RequestValue) → asked_of h m ≡ asks → walk_of h m ≡ walk_for h asks (root_of m)
unfolding walk_of
walk-is h m asks is = ap (λ o. walk_for h o (root_of m)) is

walks-are : (h : ℕ) (m : MachineValue) (ts us : List Turn) → walk_of h m ≡ ts → walk_of h (run_of ts m).machine ≡ us → walks_of h m ≡ ts ++ us
unfolding walks_of
walks-are h m ts us first later = ap (λ l. l ++ walk_of h (run_of l m).machine) first ∙ ap (λ l. ts ++ l) later

-- ---- at rest again

pub settled-leaf : (n : ℕ) (flat : FlatView) (g : FlatHart) (x : ℕ) (state : LeafState) → may_leave state ≡ true → (v : LeafValue) → LeafIs n flat g x state None v → Settled n flat (leaf_node v)
settled-leaf n flat g x state rests v is = record {
  rests = rests-leaf v (record { ways = pass-each way_rests None v.ways (λ k l. at k (ℕ_discrete k x)); buffer = is.buffer; slot = is.slot; replies = is.replies });
  room = is.room;
  copies = is.copies;
} where
  at : (k : ℕ) → Dec (k ≡ x) → way_rests (way_at k v.ways) ≡ true
  at k (yes same) = subst (λ i. way_rests (way_at i v.ways) ≡ true) (sym same) (ap way_rests is.here ∙ (ap may_leave is.in_state ∙ rests))
  at k (no other) = is.others k other

module _ (n : ℕ) (flat : FlatView) (g : FlatHart) (h x : ℕ) (state : LeafState) (rests : may_leave state ≡ true) where
  abbrev Q : LeafValue → Type 0
  Q v = LeafIs n flat g x state None v

  kids-settled-so : (ns : Nodes) (c : ℕ) → ((j : ℕ) → j < length (children ns) → j ≢ c → Settled n flat (child_at j (children ns))) → Settled n flat (child_at c (children ns)) → (trees_rest ns ≡ true) × (trees_have_room n (skeletons ns) ≡ true) × AllHave flat ns
  kids-settled-so ns c others here = subst (λ ms. (trees_rest ms ≡ true) × (trees_have_room n (skeletons ms) ≡ true) × AllHave flat ms) (nodes-children ns) (kids-settled n flat (children ns) (λ j l. at j l (ℕ_discrete j c))) where
    at : (j : ℕ) → j < length (children ns) → Dec (j ≡ c) → Settled n flat (child_at j (children ns))
    at j l (yes same) = subst (λ i. Settled n flat (child_at i (children ns))) (sym same) here
    at j l (no other) = others j l other

  spine-settled : (m : Node) → Spine n flat h Q m → Settled n flat m
  spine-settled (leaf_node v) (at_leaf number is) = settled-leaf n flat g x state rests v is
  spine-settled (dir_node d ns) (over c is there dir room others deeper) =
      let all = kids-settled-so ns c others (spine-settled (child_at c (children ns)) deeper) in
      record { rests = both_true dir all.0; room = both_true room all.1; copies = all.2 }

  pub root-settled : (d : DirValue) (ns : Nodes) → RootSpine n flat h Q d ns → (tree_rests (dir_node d ns) ≡ true) × AllHave flat ns
  root-settled d ns root =
      let all = kids-settled-so ns root.child root.others (spine-settled (child_at root.child (children ns)) root.spine) in
      (both_true root.rests all.0, all.2)

-- ---- the hart's turn

pub issued-answer : (t : Turn) (m : MachineValue) (a : TurnAnswer) → (turn_of t m).answer ≡ a → a ≢ TurnAnswer.Empty → turn_answer t m ≡ Some a
issued-answer t m a is some = at (turn_answer t m) refl where
  at : (o : Option TurnAnswer) → turn_answer t m ≡ o → o ≡ Some a
  at None none = absurd (some (sym is ∙ ap (λ (o : Turned). o.answer) (turn-unanswered t m none)))
  at (Some b) answered = ap Some (sym (ap (λ (o : Turned). o.answer) (turn-answered t m b answered)) ∙ is)

-- trees that are one have one top, and the same under it
pub same-top : (d e : DirValue) (ns ms : Nodes) → dir_node d ns ≡ dir_node e ms → (d ≡ e) × (ns ≡ ms)
same-top d e ns ms same = (ap top-of same, ap kids-of same) where
  top-of : Node → DirValue
  top-of (leaf_node v) = d
  top-of (dir_node f ks) = f

  kids-of : Node → Nodes
  kids-of (leaf_node v) = ns
  kids-of (dir_node f ks) = ks

pub root-same : (n : ℕ) (flat : FlatView) (h : ℕ) (Q : LeafValue → Type 0) (d e : DirValue) (ns ms : Nodes) → dir_node d ns ≡ dir_node e ms → RootSpine n flat h Q e ms → RootSpine n flat h Q d ns
root-same n flat h Q d e ns ms same root =
    let both = same-top d e ns ms same in
    subst (λ k. RootSpine n flat h Q k ns) (sym both.0) (subst (λ ks. RootSpine n flat h Q e ks) (sym both.1) root)

module _ (m : MachineValue) (flat : FlatView) (h victim : ℕ) (kind : TxKind) (x : ℕ) (shaped : IsShaped m) (ok : IsMachineOk m) (rests : is_at_rest m ≡ true) (room : has_room m ≡ true) (have : AllHave flat m.kids) (may : MayEndFor flat h m) (issued : (turn_of (Turn.Hart h victim) m).answer ≡ TurnAnswer.Issued kind x) where
  abbrev t : Turn
  t = Turn.Hart h victim

  abbrev n : ℕ
  n = items_of_machine m

  abbrev m1 : MachineValue
  m1 = (turn_of t m).machine

  some : turn_answer t m ≡ Some (TurnAnswer.Issued kind x)
  some = issued-answer t m (TurnAnswer.Issued kind x) issued (λ e. cc)

  calm : (k : ℕ) → k < length (children m.kids) → Calm n flat (child_at k (children m.kids))
  calm = calm-children n flat m.kids (and_parts (dir_rests m.top) _ rests).1 (and_parts (nat_lt 0 m.top.sizes.down_room) _ room).1 have ok.tree.1

  kid : KidIssued h m.code m.items flat victim kind x m.top m.kids at_top
  kid = kid-issued h m.code m.items flat victim kind x m.top m.kids at_top (λ k l. issued-part h m.code m.items flat victim kind x (child_at k (children m.kids))) calm some

  root-is : root_of m1 ≡ dir_node m.top (nodes (slice_set (children m.kids) kid.child kid.new))
  root-is = turn-root t m (TurnAnswer.Issued kind x) some ∙ ap (dir_node m.top) kid.becomes

  asks-alone : IssuedIn h m.code m.items flat victim kind x (λ g. hart_at h m ≡ Some g) (λ Q. RootSpine n flat h Q m1.top m1.kids)
  asks-alone = onto h m.code m.items flat victim kind x (λ g own. own) (λ Q spine. let s = set-kids h m.code m.items flat victim kind x m.kids kid.child calm kid.there kid.lower kid.new Q spine in root-same n flat h Q m1.top m.top m1.kids (nodes (slice_set (children m.kids) kid.child kid.new)) root-is (record {
    child = kid.child;
    is = s.is;
    there = s.there;
    rests = (and_parts (dir_rests m.top) _ rests).0;
    down = (and_parts (nat_lt 0 m.top.sizes.down_room) _ room).0;
    others = s.others;
    spine = s.spine;
  })) kid.issued

  -- ---- the walks

  abbrev n1 : ℕ
  n1 = items_of_machine m1

  same-items : n1 ≡ n
  same-items = ap (λ (f : Frame). item_count f.items) (turn-frame t m)

  shaped1 : IsShaped m1
  shaped1 = turn-shape t m shaped

  ok1 : IsMachineOk m1
  ok1 = turn-keeps_rules t m ok

  -- what the walks bring, and the hart whose instruction asked for it
  pub record Came (ts : List Turn) : Type 0 where
    pub g : FlatHart
    pub own : hart_at h m ≡ Some g
    pub state : LeafState
    pub usable : may_leave state ≡ true
    pub wants : Wants m.code m.items g x state
    pub served : IsServed m1 ts flat h (LeafIs n1 flat g x state None)

  -- after the first walk
  module _ (g : FlatHart) (ts : List Turn) (state : LeafState) (asks : Option RequestValue) (s : IsServed m1 ts flat h (LeafIs n1 flat g x state asks)) where
    abbrev m2 : MachineValue
    m2 = (run_of ts m1).machine

    root2 : RootSpine n1 flat h (LeafIs n1 flat g x state asks) m2.top m2.kids
    root2 = root-same n1 flat h (LeafIs n1 flat g x state asks) m2.top s.top m2.kids s.kids s.brings.root s.rests

    same-items2 : items_of_machine m2 ≡ n1
    same-items2 = ap (λ (f : Frame). item_count f.items) (run-frame ts m1)

    asked2 : asked_of h m2 ≡ asks
    asked2 = asked-is n1 flat g h x state asks m2 root2

  module _ (g : FlatHart) (own : hart_at h m ≡ Some g) where
    ends : Wants m.code m.items g x LeafState.Exclusive → MayEnd flat x
    ends wants = may g own x (wants-store m.code m.items g x wants)

    come : (ts : List Turn) (state : LeafState) → may_leave state ≡ true → Wants m.code m.items g x state → walks_of h m1 ≡ ts → IsServed m1 ts flat h (LeafIs n1 flat g x state None) → Came (walks_of h m1)
    come ts state leaves wants are s = subst Came (sym are) (record { g = g; own = own; state = state; usable = leaves; wants = wants; served = s })

    -- nothing more is asked for
    one-walk : (ts : List Turn) (state : LeafState) → may_leave state ≡ true → Wants m.code m.items g x state → walk_of h m1 ≡ ts → IsServed m1 ts flat h (LeafIs n1 flat g x state None) → Came (walks_of h m1)
    one-walk ts state leaves wants first s = come ts state leaves wants (walks-are h m1 ts [] first (walk-is h (run_of ts m1).machine None (asked2 g ts state None s)) ∙ append-nil ts) s

    -- the erase that follows a read
    two-walks : (ts : List Turn) → x < n1 → Wants m.code m.items g x LeafState.Exclusive → walk_of h m1 ≡ ts → IsServed m1 ts flat h (LeafIs n1 flat g x LeafState.Waiting (Some (record { kind = EraseTx; item = x }))) → Came (walks_of h m1)
    two-walks ts known wants first s =
        let asks : Option RequestValue = Some (record { kind = EraseTx; item = x }) in
        let k2 = (run_of ts m1).machine in
        let items2 = same-items2 g ts LeafState.Waiting asks s in
        let us = erase_turns h x (root_of k2) in
        let root : RootSpine (items_of_machine k2) flat h (LeafIs (items_of_machine k2) flat g x LeafState.Waiting asks) k2.top k2.kids = subst (λ k. RootSpine k flat h (LeafIs k flat g x LeafState.Waiting asks) k2.top k2.kids) (sym items2) (root2 g ts LeafState.Waiting asks s) in
        let s2 = erase-served k2 flat g h x (subst (λ k. x < k) (sym items2) known) (ends wants) (run-shape ts m1 shaped1) (run-keeps_rules ts m1 ok1) root in
        let both : IsServed m1 (ts ++ us) flat h (LeafIs n1 flat g x LeafState.Exclusive None) = record {
          top = s2.top;
          kids = s2.kids;
          brings = brings-on ts us m1 (dir_node s.top s.kids) (dir_node s2.top s2.kids) s.brings s2.brings;
          rests = subst (λ k. RootSpine k flat h (LeafIs k flat g x LeafState.Exclusive None) s2.top s2.kids) items2 s2.rests;
        } in
        come (ts ++ us) LeafState.Exclusive refl wants (walks-are h m1 ts us first (walk-is h k2 asks (asked2 g ts LeafState.Waiting asks s))) both

  comes : IssuedIn h m.code m.items flat victim kind x (λ g. hart_at h m ≡ Some g) (λ Q. RootSpine n flat h Q m1.top m1.kids) → Came (walks_of h m1)
  comes (reads_in g LeafState.Reading reads is known own wants root) =
      let asks : Option RequestValue = Some (record { kind = ReadTx; item = x }) in
      let root1 = subst (λ k. RootSpine k flat h (LeafIs k flat g x LeafState.Reading asks) m1.top m1.kids) (sym same-items) root in
      one-walk g own (read_turns h x (root_of m1)) LeafState.Shared refl wants (walk-is h m1 asks (asked-is n flat g h x LeafState.Reading asks m1 root)) (read-served m1 flat g h x LeafState.Reading (subst (λ k. x < k) (sym same-items) known) refl shaped1 ok1 root1)
  comes (reads_in g LeafState.ReadingWaiting reads is known own wants root) =
      let asks : Option RequestValue = Some (record { kind = ReadTx; item = x }) in
      let root1 = subst (λ k. RootSpine k flat h (LeafIs k flat g x LeafState.ReadingWaiting asks) m1.top m1.kids) (sym same-items) root in
      let known1 = subst (λ k. x < k) (sym same-items) known in
      two-walks g own (read_turns h x (root_of m1)) known1 wants (walk-is h m1 asks (asked-is n flat g h x LeafState.ReadingWaiting asks m1 root)) (read-served m1 flat g h x LeafState.ReadingWaiting known1 refl shaped1 ok1 root1)
  comes (reads_in g LeafState.Shared reads is known own wants root) = cc
  comes (reads_in g LeafState.Exclusive reads is known own wants root) = cc
  comes (reads_in g LeafState.Waiting reads is known own wants root) = cc
  comes (erases_in g is known own wants root) =
      let asks : Option RequestValue = Some (record { kind = EraseTx; item = x }) in
      let root1 = subst (λ k. RootSpine k flat h (LeafIs k flat g x LeafState.Waiting asks) m1.top m1.kids) (sym same-items) root in
      one-walk g own (erase_turns h x (root_of m1)) LeafState.Exclusive refl wants (walk-is h m1 asks (asked-is n flat g h x LeafState.Waiting asks m1 root)) (erase-served m1 flat g h x (subst (λ k. x < k) (sym same-items) known) (ends g own wants) shaped1 ok1 root1)

  pub came : Came (walks_of h m1)
  came = comes asks-alone

  pub walked : Comes m1 (walks_of h m1) flat h x
  walked =
      let s = came.served in
      let all = root-settled n1 flat came.g h x came.state came.usable s.top s.kids s.rests in
      record { g = came.g; state = came.state; usable = came.usable; served = s; rests = all.0; copies = all.1 }

  -- ---- what can be seen of the walks

  entry-is : (g : FlatHart) (state : LeafState) (asks : Option RequestValue) (v : LeafValue) → LeafIs n1 flat g x state asks v → state_at x v ≡ Some state
  unfolding entry_at
  entry-is g state asks v is = ap (λ o. option_map entry_state (first_some (option_map way_entry o) (option_map buffer_entry (buffered x v.buffer)))) is.here ∙ ap Some is.in_state

  -- the state of the entry after the first walk
  state-told : (g : FlatHart) (ts : List Turn) (state : LeafState) (asks : Option RequestValue) → IsServed m1 ts flat h (LeafIs n1 flat g x state asks) → entry_state_at h x (run_of ts m1).machine ≡ Some (Some state)
  state-told g ts state asks s =
      let k = (run_of ts m1).machine in
      let one = root-reads (of_leaf (λ w v. state_at x v) None) n1 flat h (LeafIs n1 flat g x state asks) k.top k.kids (root2 g ts state asks s) in
      one.says ∙ ap Some (entry-is g state asks one.leaf one.is)

  -- of a first walk that is this one, and another one
  told-by : (ts us : List Turn) → x < n1 → walk_of h m1 ≡ ts → ts ≡ walk_by_kind kind h x (root_of m1) → list_all is_granted (run_of ts m1).answers ≡ true
      → walk_of h (run_of ts m1).machine ≡ us → us ≡ walk_by_state (entry_state_at h x (run_of ts m1).machine) h x (root_of (run_of ts m1).machine) → list_all is_granted (run_of us (run_of ts m1).machine).answers ≡ true → AreTold m1 kind h x
  told-by ts us known first by-kind granted later by-state later-granted = record {
    inside = known;
    first = first ∙ by-kind;
    first_granted = subst (λ l. list_all is_granted (run_of l m1).answers ≡ true) (sym first) granted;
    later = subst (λ l. walk_of h (run_of l m1).machine ≡ walk_by_state (entry_state_at h x (run_of l m1).machine) h x (root_of (run_of l m1).machine)) (sym first) (later ∙ by-state);
    later_granted = subst (λ l. list_all is_granted (run_of (walk_of h (run_of l m1).machine) (run_of l m1).machine).answers ≡ true) (sym first) (subst (λ l. list_all is_granted (run_of l (run_of ts m1).machine).answers ≡ true) (sym later) later-granted);
  }

  -- nothing more is asked for
  one-told : (g : FlatHart) (ts : List Turn) (state : LeafState) → may_leave state ≡ true → x < n1 → walk_of h m1 ≡ ts → ts ≡ walk_by_kind kind h x (root_of m1) → IsServed m1 ts flat h (LeafIs n1 flat g x state None) → AreTold m1 kind h x
  unfolding run_of
  one-told g ts state leaves known first by-kind s =
      told-by ts [] known first by-kind s.brings.granted (walk-is h (run_of ts m1).machine None (asked2 g ts state None s)) (sym (ap (λ o. walk_by_state o h x (root_of (run_of ts m1).machine)) (state-told g ts state None s) ∙ no-more state leaves (root_of (run_of ts m1).machine))) refl where
        no-more : (state : LeafState) → may_leave state ≡ true → (m : Node) → walk_by_state (Some (Some state)) h x m ≡ []
        no-more LeafState.Shared leaves m = refl
        no-more LeafState.Exclusive leaves m = refl
        no-more LeafState.Waiting leaves m = cc
        no-more LeafState.Reading leaves m = cc
        no-more LeafState.ReadingWaiting leaves m = cc

  -- the erase that follows a read
  two-told : (g : FlatHart) (ts : List Turn) → x < n1 → MayEnd flat x → walk_of h m1 ≡ ts → ts ≡ walk_by_kind kind h x (root_of m1) → IsServed m1 ts flat h (LeafIs n1 flat g x LeafState.Waiting (Some (record { kind = EraseTx; item = x }))) → AreTold m1 kind h x
  two-told g ts known may-end first by-kind s =
      let asks : Option RequestValue = Some (record { kind = EraseTx; item = x }) in
      let k2 = (run_of ts m1).machine in
      let items2 = same-items2 g ts LeafState.Waiting asks s in
      let root : RootSpine (items_of_machine k2) flat h (LeafIs (items_of_machine k2) flat g x LeafState.Waiting asks) k2.top k2.kids = subst (λ k. RootSpine k flat h (LeafIs k flat g x LeafState.Waiting asks) k2.top k2.kids) (sym items2) (root2 g ts LeafState.Waiting asks s) in
      let s2 = erase-served k2 flat g h x (subst (λ k. x < k) (sym items2) known) may-end (run-shape ts m1 shaped1) (run-keeps_rules ts m1 ok1) root in
      told-by ts (erase_turns h x (root_of k2)) known first by-kind s.brings.granted (walk-is h k2 asks (asked2 g ts LeafState.Waiting asks s)) (sym (ap (λ o. walk_by_state o h x (root_of k2)) (state-told g ts LeafState.Waiting asks s))) s2.brings.granted

  tells : IssuedIn h m.code m.items flat victim kind x (λ g. hart_at h m ≡ Some g) (λ Q. RootSpine n flat h Q m1.top m1.kids) → AreTold m1 kind h x
  tells (reads_in g LeafState.Reading reads is known own wants root) =
      let asks : Option RequestValue = Some (record { kind = ReadTx; item = x }) in
      let known1 = subst (λ k. x < k) (sym same-items) known in
      let root1 = subst (λ k. RootSpine k flat h (LeafIs k flat g x LeafState.Reading asks) m1.top m1.kids) (sym same-items) root in
      one-told g (read_turns h x (root_of m1)) LeafState.Shared refl known1 (walk-is h m1 asks (asked-is n flat g h x LeafState.Reading asks m1 root)) (ap (λ k. walk_by_kind k h x (root_of m1)) (sym is)) (read-served m1 flat g h x LeafState.Reading known1 refl shaped1 ok1 root1)
  tells (reads_in g LeafState.ReadingWaiting reads is known own wants root) =
      let asks : Option RequestValue = Some (record { kind = ReadTx; item = x }) in
      let known1 = subst (λ k. x < k) (sym same-items) known in
      let root1 = subst (λ k. RootSpine k flat h (LeafIs k flat g x LeafState.ReadingWaiting asks) m1.top m1.kids) (sym same-items) root in
      two-told g (read_turns h x (root_of m1)) known1 (ends g own wants) (walk-is h m1 asks (asked-is n flat g h x LeafState.ReadingWaiting asks m1 root)) (ap (λ k. walk_by_kind k h x (root_of m1)) (sym is)) (read-served m1 flat g h x LeafState.ReadingWaiting known1 refl shaped1 ok1 root1)
  tells (reads_in g LeafState.Shared reads is known own wants root) = cc
  tells (reads_in g LeafState.Exclusive reads is known own wants root) = cc
  tells (reads_in g LeafState.Waiting reads is known own wants root) = cc
  tells (erases_in g is known own wants root) =
      let asks : Option RequestValue = Some (record { kind = EraseTx; item = x }) in
      let known1 = subst (λ k. x < k) (sym same-items) known in
      let root1 = subst (λ k. RootSpine k flat h (LeafIs k flat g x LeafState.Waiting asks) m1.top m1.kids) (sym same-items) root in
      one-told g (erase_turns h x (root_of m1)) LeafState.Exclusive refl known1 (walk-is h m1 asks (asked-is n flat g h x LeafState.Waiting asks m1 root)) (ap (λ k. walk_by_kind k h x (root_of m1)) (sym is)) (erase-served m1 flat g h x known1 (ends g own wants) shaped1 ok1 root1)

  pub told : AreTold m1 kind h x
  told = tells asks-alone
