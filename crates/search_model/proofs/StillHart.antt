-- A hart that is at a quiet instruction, of a machine: what its turn leaves, answers and puts out.
-- Letters: m is a machine, t and u are turns, n is a node, v a leaf, a an action, k the number of a hart.
use Rattle.std.proofs.Common.{◌≡◌, ℕ, Bool, true, false, List, [], ◌∷◌, Option, Some, None, option_map, is_some, nat_eq, refl, sym, ap, subst, ◌∙◌, true≢false, if◌then◌else◌}
use Rattle.std.proofs.lemmas.Bool.{eqb-true, eq-eqb}
use Rattle.search_model.specs.DdmTypes.declared.answers.TurnAnswer.{TurnAnswer}
use Rattle.search_model.specs.DdmTypes.declared.keys.Key.{Key}
use Rattle.search_model.specs.DdmTypes.declared.turns.Turn.{Turn}
use Rattle.search_model.specs.DdmTypes.CodeMap.{CodeWord}
use Rattle.search_model.specs.DdmTypes.ItemTable.{ItemTable}
use Rattle.search_model.specs.FlatModel.Hart.{HartValue, Action, Halts, Computes, Puts, Loads, Stores, Reserves, StoresIfReserved, Changes, action_of}
use Rattle.tree_model.specs.State.Blank.{no_hart}
use Rattle.tree_model.specs.State.Place.{Where, at_top, key_at_leaf, stamp_above}
use Rattle.tree_model.specs.State.Values.{LeafValue, DirValue, Node, Nodes, leaf_node, dir_node, children, MachineValue, root_of}
use Rattle.tree_model.specs.Turns.Bus.{bus_step, bus_judged}
use Rattle.tree_model.specs.Turns.Grant.{Judged, nothing_there, refused, granted, bus_answer}
use Rattle.tree_model.specs.Turns.HartTurn.{Deed, has_halted, waits_for, halts, completes, fetches, upgrades, finds_buffer_full, deed_of, answer_of_deed, leaf_after_deed, leaf_step}
use Rattle.tree_model.specs.Turns.Machine.{named_by, bus_turn_of, victim_of, answer_here, node_after, turn_answer, turn_root, turned_by, turn_of, hart_of, machine_leaves}
use Rattle.tree_model.specs.Turns.Tree.{Name, leaf_of_number, bus_of_number, is_named, has_node, has_among, of_leaf, read_in, changed_in}
use Rattle.tree_model.proofs.BusKeeps.{bus_step-keeps}
use Rattle.tree_model.proofs.Children.{nodes-children}
use Rattle.tree_model.proofs.FrameKept.{turn-frame}
use Rattle.tree_model.proofs.HartKeeps.{leaf_step-keeps}
use Rattle.tree_model.proofs.NamedNode.{read_in-is_some, changed_in-absent}
use Rattle.tree_model.proofs.TurnChanges.{turn-root, turn-unanswered}
use Rattle.time_laws.specs.Forget.{forget_node, put_in}
use Rattle.recording_model.specs.Doing.{had_halted, is_halted}
use Rattle.search_laws.specs.Space.{IsOneOf}
use Rattle.search_model.specs.Tried.{is_quiet_answer, is_quiet}
use Rattle.search_model.proofs.Named.{Placed, place_here, find, read-there, turn-there, turn-nowhere, found-leaf, found-bus}
use Rattle.search_model.proofs.QuietDeed.{is_calm, calm_deed, hart_then, done_then, ends_then, calm-leaf, calm-answer, deed-calm, quiet-leaf}
use Rattle.search_model.proofs.Quieted.{leaf-named, among-by_kept, CalmLeaf, quieted, Ready, ReadyAmong, bus-swaps}
use Rattle.search_model.proofs.Swapped.{SwapsAt, Swaps, swaps, read-ready, changed-ready, find-ready}

-- ---- any turn

-- the tree after it, whether it names a node or not
pub turn-rooted : (t : Turn) (m : MachineValue) → root_of (turn_of t m).machine ≡ turn_root t m
turn-rooted t m = elim (turn_answer t m) as (λ o. turn_answer t m ≡ o → root_of (turn_of t m).machine ≡ turn_root t m) [
  | None ↦ λ none.
      let absent : has_node (named_by t) (root_of m) ≡ false = sym (read_in-is_some (named_by t) (answer_here m.code m.items t) at_top (root_of m)) ∙ ap is_some none in
      ap (λ o. root_of o.machine) (turn-unanswered t m none) ∙ sym (changed_in-absent (named_by t) (node_after m.code m.items t) at_top (root_of m) absent)
  | Some a ↦ λ some. turn-root t m a some
] refl

-- a fact of what a node answers is one of the turn's answer
pub answer-told : {B : Type 0} (of : TurnAnswer → B) (b : B) (t : Turn) (m : MachineValue) → option_map of (turn_answer t m) ≡ Some b → of (turn_of t m).answer ≡ b
unfolding turn_of
answer-told of b t m told = by_answer (turn_answer t m) told
  where
    by_answer : (o : Option TurnAnswer) → option_map of o ≡ Some b → of (turned_by o (turn_root t m) m).answer ≡ b
    by_answer None told = cc
    by_answer (Some a) told = cc

-- ---- what another turn puts out for the hart of this number

module _ (number : ℕ) where
  deed-puts : (now : Key) (v : LeafValue) (d : Deed) → nat_eq v.number number ≡ false → put_in number (answer_of_deed now v d) ≡ []
  deed-puts now v (has_halted cause) apart = refl
  deed-puts now v (waits_for x) apart = refl
  deed-puts now v (halts cause) apart = refl
  deed-puts now v (completes c) apart = rw apart refl
  deed-puts now v (fetches x state way) apart = refl
  deed-puts now v (upgrades x words) apart = refl
  deed-puts now v finds_buffer_full apart = refl

  judged-puts : (bus : ℕ) (j : Judged) → put_in number (bus_answer bus j) ≡ []
  judged-puts bus nothing_there = refl
  judged-puts bus (refused cause) = refl
  judged-puts bus (granted g) = refl

  -- the name isn't that of its leaf
  abbrev pub IsApart : Name → Type 0
  IsApart name = (v : LeafValue) → nat_eq v.number number ≡ true → is_named name (leaf_node v) ≡ false

  apart-leaf : (k : ℕ) (v : LeafValue) → IsApart (leaf_of_number k) → v.number ≡ k → nat_eq v.number number ≡ false
  apart-leaf k v apart is = elim (nat_eq v.number number) as (λ b. nat_eq v.number number ≡ b → b ≡ false) [
    | true ↦ λ same. absurd (true≢false (sym (eq-eqb v.number k is) ∙ apart v same))
    | false ↦ λ same. refl
  ] refl

  module _ (t : Turn) (m : MachineValue) where
    found-puts : (name : Name) (p : Placed) → named_by t ≡ name → IsApart name → find name at_top (root_of m) ≡ Some p → put_in number (answer_here m.code m.items t p.place p.node) ≡ []
    unfolding leaf_step bus_step
    found-puts (leaf_of_number k) p named apart found =
        let leaf = found-leaf k at_top (root_of m) [] p found in
        let v = leaf.leaf in
        ap (λ n. put_in number (answer_here m.code m.items t p.place n)) leaf.is ∙ deed-puts (key_at_leaf p.place v.done) v (deed_of m.code m.items (victim_of t) v) (apart-leaf k v apart leaf.named)
    found-puts (bus_of_number b) p named apart found =
        let bus = found-bus b at_top (root_of m) [] p found in
        let d = bus.parent in
        ap (λ n. put_in number (answer_here m.code m.items t p.place n)) bus.is ∙ judged-puts d.bus (bus_judged (stamp_above p.place) d (children bus.kids) (bus_turn_of t))

    pub other-puts : IsApart (named_by t) → put_in number (turn_of t m).answer ≡ []
    other-puts apart = elim (find (named_by t) at_top (root_of m)) as (λ o. find (named_by t) at_top (root_of m) ≡ o → put_in number (turn_of t m).answer ≡ []) [
      | None ↦ λ none. ap (λ o. put_in number o.answer) (turn-unanswered t m (turn-nowhere (named_by t) t m refl none))
      | Some p ↦ λ found. ap (put_in number) (turn-there m p (named_by t) t refl found) ∙ found-puts (named_by t) p refl apart found
    ] refl

-- ---- what the quiet turn puts out

-- for the hart k, of the hart of this number
abbrev pub puts_by : Action → ℕ → ℕ → List ℕ
puts_by (Halts cause) number k = []
puts_by (Computes after) number k = if nat_eq number k then [] else []
puts_by (Puts byte after) number k = if nat_eq number k then byte ∷ [] else []
puts_by (Loads op rd a) number k = []
puts_by (Stores op v a) number k = []
puts_by (Reserves rd a) number k = []
puts_by (StoresIfReserved rd v a) number k = if nat_eq number k then [] else []
puts_by (Changes op rd v a) number k = []

calm-puts : (a : Action) (v : LeafValue) (now : Key) (k : ℕ) → is_calm a v.reservation ≡ true → put_in k (answer_of_deed now v (calm_deed a v.hart v.reservation)) ≡ puts_by a v.number k
calm-puts (Halts cause) v now k calm = refl
calm-puts (Computes after) v now k calm = refl
calm-puts (Puts byte after) v now k calm = refl
calm-puts (Loads op rd a) v now k calm = cc
calm-puts (Stores op w a) v now k calm = cc
calm-puts (Reserves rd a) v now k calm = cc
calm-puts (StoresIfReserved rd w a) v now k calm = refl
calm-puts (Changes op rd w a) v now k calm = cc

pub puts-apart : (a : Action) (number k : ℕ) → nat_eq number k ≡ false → puts_by a number k ≡ []
puts-apart (Halts cause) number k apart = refl
puts-apart (Computes after) number k apart = rw apart refl
puts-apart (Puts byte after) number k apart = rw apart refl
puts-apart (Loads op rd a) number k apart = refl
puts-apart (Stores op v a) number k apart = refl
puts-apart (Reserves rd a) number k apart = refl
puts-apart (StoresIfReserved rd v a) number k apart = rw apart refl
puts-apart (Changes op rd v a) number k apart = refl

-- ---- a hart that is at a quiet instruction

-- it runs, is at this action, and its leaf is ready
pub record IsStill (number : ℕ) (action : Action) (hart : HartValue) (done : ℕ) (m : MachineValue) : Type 0 where
  pub runs : hart.halt ≡ None
  pub at : action_of m.code m.items hart ≡ action
  pub ready : Ready number action hart done (root_of m)

module _ (number : ℕ) (action : Action) (hart : HartValue) (done : ℕ) (m : MachineValue) (still : IsStill number action hart done m) (victim : ℕ) where
  abbrev turn : Turn
  turn = Turn.Hart number victim

  abbrev IsCalm : LeafValue → Type 0
  IsCalm v = CalmLeaf number action hart done v

  module _ (v : LeafValue) (r : IsCalm v) where
    same_action : action_of m.code m.items v.hart ≡ action
    same_action = ap (action_of m.code m.items) r.same_hart ∙ still.at

    calm_here : is_calm (action_of m.code m.items v.hart) v.reservation ≡ true
    calm_here = ap (λ a. is_calm a v.reservation) same_action ∙ r.calm

    deed-is : deed_of m.code m.items victim v ≡ calm_deed (action_of m.code m.items v.hart) v.hart v.reservation
    deed-is = deed-calm m.code m.items victim v (ap (λ (h : HartValue). h.halt) r.same_hart ∙ still.runs) r.none calm_here

    abbrev made : Action → HartValue → ℕ → LeafValue
    made a h n = record v { hart = hart_then a h; done = done_then a n; reservation = if ends_then a then None else v.reservation }

    after-is : leaf_after_deed v (deed_of m.code m.items victim v) ≡ made action hart done
    after-is =
        ap (leaf_after_deed v) deed-is ∙ calm-leaf (action_of m.code m.items v.hart) v calm_here ∙ ap (λ a. made a v.hart v.done) same_action ∙ ap (λ h. made action h v.done) r.same_hart ∙ ap (made action hart) r.same_done

    puts-are : (now : Key) (k : ℕ) → put_in k (answer_of_deed now v (deed_of m.code m.items victim v)) ≡ puts_by action number k
    puts-are now k =
        let numbered : v.number ≡ number = eqb-true v.number number r.named in
        ap (λ d. put_in k (answer_of_deed now v d)) deed-is ∙ calm-puts (action_of m.code m.items v.hart) v now k calm_here ∙ ap (λ a. puts_by a v.number k) same_action ∙ ap (λ n. puts_by action n k) numbered

    answers-quietly : (now : Key) → is_quiet_answer (answer_of_deed now v (deed_of m.code m.items victim v)) false ≡ true
    answers-quietly now = ap (λ d. is_quiet_answer (answer_of_deed now v d) false) deed-is ∙ calm-answer (action_of m.code m.items v.hart) v now calm_here

  leaf-goes : (w : Where) (v : LeafValue) → IsCalm v → node_after m.code m.items turn w (leaf_node v) ≡ quieted number action hart done (leaf_node v)
  unfolding leaf_step
  leaf-goes w v r = ap leaf_node (after-is v r)

  leaf-puts : (k : ℕ) (w : Where) (v : LeafValue) → IsCalm v → put_in k (answer_here m.code m.items turn w (leaf_node v)) ≡ puts_by action number k
  unfolding leaf_step
  leaf-puts k w v r = puts-are v r (key_at_leaf w v.done) k

  leaf-quiet : (w : Where) (v : LeafValue) → IsCalm v → is_quiet_answer (answer_here m.code m.items turn w (leaf_node v)) false ≡ true
  unfolding leaf_step
  leaf-quiet w v r = answers-quietly v r (key_at_leaf w v.done)

  -- its turn leaves this tree
  pub still-root : root_of (turn_of turn m).machine ≡ quieted number action hart done (root_of m)
  still-root = turn-rooted turn m ∙ changed-ready number action hart done (node_after m.code m.items turn) leaf-goes at_top (root_of m) still.ready

  -- and puts out this
  pub still-puts : (k : ℕ) → put_in k (turn_of turn m).answer ≡ puts_by action number k
  still-puts k = answer-told (put_in k) (puts_by action number k) turn m (read-ready number action hart done (answer_here m.code m.items turn) (put_in k) (puts_by action number k) (leaf-puts k) at_top (root_of m) still.ready)

  runs-there : (o : Option HartValue) → option_map (λ (h : HartValue). is_some h.halt) o ≡ Some false → is_halted o ≡ false
  runs-there None told = cc
  runs-there (Some h) told = cc

  still-runs : had_halted turn m ≡ false
  still-runs =
      let read = read-ready number action hart done (of_leaf (λ w v. v.hart) no_hart) (λ (h : HartValue). is_some h.halt) false (λ w v r. ap (λ (h : HartValue). is_some h.halt) r.same_hart ∙ ap is_some still.runs) at_top (root_of m) still.ready in
      runs-there (hart_of number m) read

  -- it is quiet
  pub still-quiet : is_quiet m turn ≡ true
  unfolding is_quiet
  still-quiet =
      let answer = answer-told (λ a. is_quiet_answer a false) true turn m (read-ready number action hart done (answer_here m.code m.items turn) (λ a. is_quiet_answer a false) true leaf-quiet at_top (root_of m) still.ready) in
      ap (is_quiet_answer (turn_of turn m).answer) still-runs ∙ answer

module _ (number : ℕ) (action : Action) (hart : HartValue) (done : ℕ) (m : MachineValue) (still : IsStill number action hart done m) where
  -- the hart of the leaf that was found has halted
  abbrev halted_at : Placed → Bool
  halted_at p = of_leaf (λ w (v : LeafValue). is_some v.hart.halt) false p.place p.node

  some-place : (o : Option Placed) → find (leaf_of_number number) at_top (root_of m) ≡ o → option_map halted_at o ≡ Some false → (p : Placed) × (find (leaf_of_number number) at_top (root_of m) ≡ Some p) × (halted_at p ≡ false)
  some-place None is told = cc
  some-place (Some p) is told = let runs : halted_at p ≡ false = cc in (p, is, runs)

  -- its leaf is among those of the machine, and hasn't halted
  pub record ItsLeaf : Type 0 where
    pub leaf : LeafValue
    pub named : leaf.number ≡ number
    pub listed : IsOneOf (machine_leaves m) leaf
    pub goes_on : is_some leaf.hart.halt ≡ false

  pub still-leaf : ItsLeaf
  still-leaf =
      let read = read-ready number action hart done place_here halted_at false (λ w v r. ap (λ (h : HartValue). is_some h.halt) r.same_hart ∙ ap is_some still.runs) at_top (root_of m) still.ready in
      let place = some-place (find (leaf_of_number number) at_top (root_of m)) refl read in
      let found = found-leaf number at_top (root_of m) [] place.0 place.1 in
      record {
        leaf = found.leaf;
        named = found.named;
        listed = found.listed;
        goes_on = sym (ap (of_leaf (λ w (v : LeafValue). is_some v.hart.halt) false place.0.place) found.is) ∙ place.2;
      }

  -- ---- beside another turn

  module _ (u : Turn) (apart : IsApart number (named_by u)) where
    keeps-names : (w : Where) (n : Node) → has_node (leaf_of_number number) (node_after m.code m.items u w n) ≡ has_node (leaf_of_number number) n
    keeps-names w (leaf_node v) =
        let keeps = leaf_step-keeps m.code m.items (key_at_leaf w v.done) (victim_of u) v in
        leaf-named (leaf_of_number number) (leaf_step m.code m.items (key_at_leaf w v.done) (victim_of u) v).leaf v keeps.number
    keeps-names w (dir_node d ns) =
        let keeps = bus_step-keeps (stamp_above w) d (children ns) (bus_turn_of u) in
        among-by_kept (leaf_of_number number) _ (children ns) keeps.kids ∙ ap (has_among (leaf_of_number number)) (nodes-children ns)

    dir-swaps : (w : Where) (d : DirValue) (ns : Nodes) → ReadyAmong number action hart done ns
        → SwapsAt number action hart done (named_by u) (answer_here m.code m.items u) (node_after m.code m.items u) w (dir_node d ns)
    dir-swaps w d ns r =
        let s = bus-swaps number action hart done (stamp_above w) (bus_turn_of u) d ns r in
        record { ready = s.ready; same = s.same; reads = s.answer }

    tree-swaps : Swaps number action hart done (named_by u) (answer_here m.code m.items u) (node_after m.code m.items u) at_top (root_of m)
    tree-swaps = swaps number action hart done (named_by u) (answer_here m.code m.items u) (node_after m.code m.items u) keeps-names apart dir-swaps at_top (root_of m) still.ready

    -- it stays so
    pub still-after : IsStill number action hart done (turn_of u m).machine
    still-after =
        let code = ap (λ f. f.code) (turn-frame u m) in
        let items = ap (λ f. f.items) (turn-frame u m) in
        record {
          runs = still.runs;
          at = ap (λ c. action_of c (turn_of u m).machine.items hart) code ∙ ap (λ i. action_of m.code i hart) items ∙ still.at;
          ready = subst (Ready number action hart done) (sym (turn-rooted u m)) tree-swaps.ready;
        }

    -- after the quiet turn the other one answers the same
    module _ (after : MachineValue) (code : after.code ≡ m.code) (items : after.items ≡ m.items) (root : root_of after ≡ quieted number action hart done (root_of m)) where
      abbrev answer_by : List CodeWord → ItemTable → Node → Option TurnAnswer
      answer_by c i n = read_in (named_by u) (answer_here c i u) at_top n

      abbrev root_by : List CodeWord → ItemTable → Node → Node
      root_by c i n = changed_in (named_by u) (node_after c i u) at_top n

      answer-stays : turn_answer u after ≡ turn_answer u m
      answer-stays =
          ap (λ c. answer_by c after.items (root_of after)) code ∙ ap (λ i. answer_by m.code i (root_of after)) items ∙ ap (answer_by m.code m.items) root ∙ tree-swaps.reads

      by_answer : (o : Option TurnAnswer) (r s : Node) (k j : MachineValue) → (turned_by o r k).answer ≡ (turned_by o s j).answer
      by_answer None r s k j = refl
      by_answer (Some a) r s k j = refl

      pub answers-same : (turn_of u after).answer ≡ (turn_of u m).answer
      unfolding turn_of
      answers-same = ap (λ o. (turned_by o (turn_root u after) after).answer) answer-stays ∙ by_answer (turn_answer u m) (turn_root u after) (turn_root u m) after m

      -- and leaves the same tree as the two in the other order, but for time
      pub roots-same : forget_node (root_of (turn_of u after).machine) ≡ forget_node (quieted number action hart done (root_of (turn_of u m).machine))
      roots-same =
          ap forget_node (turn-rooted u after) ∙ ap (λ c. forget_node (root_by c after.items (root_of after))) code ∙ ap (λ i. forget_node (root_by m.code i (root_of after))) items ∙ ap (λ n. forget_node (root_by m.code m.items n)) root
          ∙ tree-swaps.same ∙ ap (λ n. forget_node (quieted number action hart done n)) (sym (turn-rooted u m))

-- ---- a turn that is quiet

-- it is that of a hart that is at a quiet instruction
pub record StillHart (number : ℕ) (m : MachineValue) : Type 0 where
  pub action : Action
  pub hart : HartValue
  pub done : ℕ
  pub still : IsStill number action hart done m

module _ (number victim : ℕ) (m : MachineValue) where
  abbrev its_turn : Turn
  its_turn = Turn.Hart number victim

  found-still : (p : Placed) → find (leaf_of_number number) at_top (root_of m) ≡ Some p → is_quiet m its_turn ≡ true → StillHart number m
  unfolding is_quiet leaf_step
  found-still p found quiet =
      let leaf = found-leaf number at_top (root_of m) [] p found in
      let v = leaf.leaf in
      let now = key_at_leaf p.place v.done in
      let answer : (turn_of its_turn m).answer ≡ answer_of_deed now v (deed_of m.code m.items victim v) = turn-there m p (leaf_of_number number) its_turn refl found ∙ ap (answer_here m.code m.items its_turn p.place) leaf.is in
      let read : hart_of number m ≡ Some v.hart = read-there (leaf_of_number number) (of_leaf (λ w l. l.hart) no_hart) at_top (root_of m) ∙ ap (option_map (λ (q : Placed). of_leaf (λ w l. l.hart) no_hart q.place q.node)) found ∙ ap (λ n. Some (of_leaf (λ w l. l.hart) no_hart p.place n)) leaf.is in
      let quietly : is_quiet_answer (answer_of_deed now v (deed_of m.code m.items victim v)) (is_some v.hart.halt) ≡ true = sym (ap (λ a. is_quiet_answer a (is_some v.hart.halt)) answer) ∙ sym (ap (λ o. is_quiet_answer (turn_of its_turn m).answer (is_halted o)) read) ∙ quiet in
      let q = quiet-leaf m.code m.items victim v now quietly in
      record {
        action = action_of m.code m.items v.hart;
        hart = v.hart;
        done = v.done;
        still = record {
          runs = q.runs;
          at = refl;
          ready = find-ready number (action_of m.code m.items v.hart) v.hart v.done p v leaf.is (record { named = eq-eqb v.number number leaf.named; same_hart = refl; same_done = refl; none = q.none; calm = q.calm }) at_top (root_of m) found;
        };
      }

  pub quiet-still : is_quiet m its_turn ≡ true → StillHart number m
  unfolding is_quiet
  quiet-still quiet = elim (find (leaf_of_number number) at_top (root_of m)) as (λ o. find (leaf_of_number number) at_top (root_of m) ≡ o → StillHart number m) [
    | None ↦ λ none.
        let empty : is_quiet_answer (turn_of its_turn m).answer (had_halted its_turn m) ≡ false = ap (λ o. is_quiet_answer o.answer (had_halted its_turn m)) (turn-unanswered its_turn m (turn-nowhere (leaf_of_number number) its_turn m refl none)) in
        absurd (true≢false (sym quiet ∙ empty))
    | Some p ↦ λ found. found-still p found quiet
  ] refl
