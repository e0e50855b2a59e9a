-- Where every hart has halted, a turn changes no hart and adds no operation.
-- Letters: t is a turn, m a machine, n and k nodes, v a leaf.
use Rattle.std.proofs.Common.{◌≡◌, ℕ, Bool, true, false, List, [], ◌∷◌, ◌++◌, ◌&&◌, map, Option, Some, None, refl, sym, ap, subst, ◌∙◌, append-nil, append_assoc}
use Rattle.std.specs.Prelude.{is_some}
use Rattle.std.specs.List.{list_all}
use Rattle.std.proofs.lemmas.List.{map-append}
use Rattle.outcome_model.specs.DdmTypes.declared.operations.HaltCause.{HaltCause}
use Rattle.outcome_model.specs.DdmTypes.declared.answers.TurnAnswer.{TurnAnswer}
use Rattle.outcome_model.specs.DdmTypes.declared.turns.Turn.{Turn}
use Rattle.outcome_model.specs.DdmTypes.declared.operations.Op.{Op}
use Rattle.outcome_model.specs.TreeModel.State.Values.{LeafValue, DirValue, Node, Nodes, leaf_node, dir_node, no_nodes, more_nodes, nodes, children, MachineValue, root_of}
use Rattle.outcome_model.specs.TreeModel.State.Place.{Where, at_top, stamp_above, key_at_leaf}
use Rattle.outcome_model.specs.TreeModel.Turns.Bus.{bus_step, bus_judged}
use Rattle.outcome_model.specs.TreeModel.Turns.Grant.{Judged, nothing_there, refused, granted, bus_answer}
use Rattle.outcome_model.specs.TreeModel.Turns.HartTurn.{deed_of, leaf_step}
use Rattle.outcome_model.specs.TreeModel.Turns.Machine.{named_by, answer_here, node_after, bus_turn_of, victim_of, turn_answer, turn_root, with_root, recorded, turn_of, run_of, leaves_of, leaves_among, machine_leaves}
use Rattle.outcome_model.specs.TreeModel.Laws.{TurnsHere, Kept, leaf_kept, dir_kept, kept_of}
use Rattle.outcome_model.proofs.TreeModel.BusKeeps.{bus_step-keeps}
use Rattle.outcome_model.proofs.TreeModel.Changed.{changed-keeps}
use Rattle.outcome_model.proofs.TreeModel.Children.{nodes-children}
use Rattle.outcome_model.proofs.TreeModel.NamedNode.{turned}
use Rattle.outcome_model.proofs.TreeModel.Tests.{and-first, and-second, and-both}
use Rattle.outcome_model.proofs.TreeModel.TurnChanges.{turn-root, turn-unanswered, turn-answered}
use Rattle.outcome_model.specs.TreeRules.Witness.{op_of_answer}
use Rattle.headline.proofs.Runs.{run-ops}
use Rattle.outcome_model.specs.Halted.{HaltedStays, LaterTurnsChangeNoOutcome, all_halted, has_halted}
use Rattle.outcome_model.specs.Outcome.{HartEnd, end_of, ends_text, outcome_of}

-- ---- the harts of a part of the tree

abbrev mutual
  ends_in : Node → List HartEnd → List HartEnd
  ends_in (leaf_node v) rest = end_of v ∷ rest
  ends_in (dir_node d ns) rest = ends_among ns rest

  ends_among : Nodes → List HartEnd → List HartEnd
  ends_among no_nodes rest = rest
  ends_among (more_nodes n ns) rest = ends_in n (ends_among ns rest)

mutual
  ends-of-leaves : (n : Node) (rest : List LeafValue) → map end_of (leaves_of n rest) ≡ ends_in n (map end_of rest)
  ends-of-leaves (leaf_node v) rest = refl
  ends-of-leaves (dir_node d ns) rest = ends-among-leaves ns rest

  ends-among-leaves : (ns : Nodes) (rest : List LeafValue) → map end_of (leaves_among ns rest) ≡ ends_among ns (map end_of rest)
  ends-among-leaves no_nodes rest = refl
  ends-among-leaves (more_nodes n ns) rest = ends-of-leaves n (leaves_among ns rest) ∙ ap (ends_in n) (ends-among-leaves ns rest)

-- each hart of a part has halted
abbrev mutual
  halted_in : Node → Bool
  halted_in (leaf_node v) = has_halted v
  halted_in (dir_node d ns) = halted_among ns

  halted_among : Nodes → Bool
  halted_among no_nodes = true
  halted_among (more_nodes n ns) = halted_in n && halted_among ns

and-past : (a b c : Bool) → (a && (b && c)) ≡ ((a && b) && c)
and-past true b c = refl
and-past false b c = refl

mutual
  halted-leaves : (n : Node) (rest : List LeafValue) → list_all has_halted (leaves_of n rest) ≡ (halted_in n && list_all has_halted rest)
  halted-leaves (leaf_node v) rest = refl
  halted-leaves (dir_node d ns) rest = halted-among-leaves ns rest

  halted-among-leaves : (ns : Nodes) (rest : List LeafValue) → list_all has_halted (leaves_among ns rest) ≡ (halted_among ns && list_all has_halted rest)
  halted-among-leaves no_nodes rest = refl
  halted-among-leaves (more_nodes n ns) rest = halted-leaves n (leaves_among ns rest) ∙ ap (λ b. halted_in n && b) (halted-among-leaves ns rest) ∙ and-past (halted_in n) (halted_among ns) (list_all has_halted rest)

-- ---- the node that a turn names

-- the harts of a child, from what no turn of its bus changes
abbrev kept_ends : Kept → List HartEnd → List HartEnd
kept_ends (leaf_kept number sizes hart done) rest = record { number = number; halt = hart.halt } ∷ rest
kept_ends (dir_kept bus level sizes count epoch ns) rest = ends_among ns rest

abbrev kept_ends_among : List Kept → List HartEnd → List HartEnd
kept_ends_among [] rest = rest
kept_ends_among (k ∷ ks) rest = kept_ends k (kept_ends_among ks rest)

ends-kept : (n : Node) (rest : List HartEnd) → ends_in n rest ≡ kept_ends (kept_of n) rest
ends-kept (leaf_node v) rest = refl
ends-kept (dir_node d ns) rest = refl

ends-among-kept : (ns : List Node) (rest : List HartEnd) → ends_among (nodes ns) rest ≡ kept_ends_among (map kept_of ns) rest
ends-among-kept [] rest = refl
ends-among-kept (n ∷ ns) rest = ends-kept n (ends_among (nodes ns) rest) ∙ ap (kept_ends (kept_of n)) (ends-among-kept ns rest)

bus-completes-nothing : (b : ℕ) (j : Judged) → op_of_answer (bus_answer b j) ≡ []
bus-completes-nothing b nothing_there = refl
bus-completes-nothing b (refused cause) = refl
bus-completes-nothing b (granted g) = refl

-- a leaf whose hart has halted stays as it is, and completes nothing
halted-leaf : (t : Turn) (m : MachineValue) (w : Where) (v : LeafValue) → has_halted v ≡ true → (node_after m.code m.items t w (leaf_node v) ≡ leaf_node v) × (op_of_answer (answer_here m.code m.items t w (leaf_node v)) ≡ [])
unfolding leaf_step deed_of
halted-leaf t m w v halted =
    elim v.hart.halt as (λ o. v.hart.halt ≡ o → is_some o ≡ true → (node_after m.code m.items t w (leaf_node v) ≡ leaf_node v) × (op_of_answer (answer_here m.code m.items t w (leaf_node v)) ≡ [])) [
      | None ↦ λ is h. cc
      | Some cause ↦ λ is h. rw is (refl, refl)
    ] refl halted

bus-answer-nothing : (t : Turn) (m : MachineValue) (w : Where) (d : DirValue) (ns : Nodes) → op_of_answer (answer_here m.code m.items t w (dir_node d ns)) ≡ []
unfolding bus_step
bus-answer-nothing t m w d ns = bus-completes-nothing d.bus (bus_judged (stamp_above w) d (children ns) (bus_turn_of t))

bus-ends : (t : Turn) (m : MachineValue) (w : Where) (d : DirValue) (ns : Nodes) (rest : List HartEnd) → ends_in (node_after m.code m.items t w (dir_node d ns)) rest ≡ ends_among ns rest
bus-ends t m w d ns rest =
    let keeps = bus_step-keeps (stamp_above w) d (children ns) (bus_turn_of t) in
    ends-among-kept (bus_step (stamp_above w) (bus_turn_of t) d (children ns)).kids rest ∙ ap (λ ks. kept_ends_among ks rest) keeps.kids ∙ sym (ends-among-kept (children ns) rest) ∙ ap (λ ms. ends_among ms rest) (nodes-children ns)

module _ (t : Turn) (m : MachineValue) (a : TurnAnswer) where
  -- a part of the tree before and after, and the answer
  abbrev Stays : Node → Node → Type 0
  Stays n k = halted_in n ≡ true → ((rest : List HartEnd) → ends_in k rest ≡ ends_in n rest) × (op_of_answer a ≡ [])

  abbrev StaysAmong : Nodes → Nodes → Type 0
  StaysAmong ns ms = halted_among ns ≡ true → ((rest : List HartEnd) → ends_among ms rest ≡ ends_among ns rest) × (op_of_answer a ≡ [])

  here-stays : (w : Where) (n k : Node) → TurnsHere t m a w n k → Stays n k
  here-stays w (leaf_node v) k r halted =
      let leaf = halted-leaf t m w v halted in
      (λ rest. ap (λ x. ends_in x rest) (r.becomes ∙ leaf.0), ap op_of_answer (sym r.reads) ∙ leaf.1)
  here-stays w (dir_node d ns) k r halted = (λ rest. ap (λ x. ends_in x rest) r.becomes ∙ bus-ends t m w d ns rest, ap op_of_answer (sym r.reads) ∙ bus-answer-nothing t m w d ns)

  answered-stays : turn_answer t m ≡ Some a → Stays (root_of m) (turn_root t m)
  answered-stays some =
      let at = turned (named_by t) (answer_here m.code m.items t) (node_after m.code m.items t) a at_top (root_of m) some in
      changed-keeps (TurnsHere t m a) Stays StaysAmong here-stays (λ d ns ms same. same) (λ n k ns same h. let p = same (and-first (halted_in n) (halted_among ns) h) in (λ rest. p.0 (ends_among ns rest), p.1)) (λ n ns ms same h. let p = same (and-second (halted_in n) (halted_among ns) h) in (λ rest. ap (ends_in n) (p.0 rest), p.1)) at_top at.0 (root_of m) (turn_root t m) at.1

-- ---- the machine

abbrev machine_ends : MachineValue → List HartEnd
machine_ends m = map end_of (machine_leaves m)

ends-are : (m : MachineValue) → machine_ends m ≡ ends_in (root_of m) []
ends-are m = ends-of-leaves (root_of m) []

and-true : (a : Bool) → (a && true) ≡ a
and-true true = refl
and-true false = refl

halted-root : (m : MachineValue) → all_halted m ≡ true → halted_in (root_of m) ≡ true
unfolding all_halted
halted-root m h = sym (and-true (halted_in (root_of m))) ∙ sym (halted-leaves (root_of m) []) ∙ h

-- whether all have halted, from their ends
pub halted-ends : (vs : List LeafValue) → list_all has_halted vs ≡ list_all (λ (e : HartEnd). is_some e.halt) (map end_of vs)
halted-ends [] = refl
halted-ends (v ∷ vs) = ap (λ b. has_halted v && b) (halted-ends vs)

-- the harts and the operations after a turn
record SameOutcome (m k : MachineValue) : Type 0 where
  ends : machine_ends k ≡ machine_ends m
  ops : k.ops ≡ m.ops

turn-ops : (t : Turn) (m : MachineValue) → op_of_answer (turn_of t m).answer ≡ [] → (turn_of t m).machine.ops ≡ m.ops
unfolding run_of
turn-ops t m none = run-ops (t ∷ []) m ∙ ap (λ ops. m.ops ++ (ops ++ [])) none ∙ append-nil m.ops

turn-same : (t : Turn) (m : MachineValue) → all_halted m ≡ true → SameOutcome m (turn_of t m).machine
turn-same t m h = elim (turn_answer t m) as (λ o. turn_answer t m ≡ o → SameOutcome m (turn_of t m).machine) [
  | None ↦ λ none. record { ends = ap (λ o. machine_ends o.machine) (turn-unanswered t m none); ops = ap (λ o. o.machine.ops) (turn-unanswered t m none) }
  | Some a ↦ λ some.
      let stays = answered-stays t m a some (halted-root m h) in
      let answer : op_of_answer (turn_of t m).answer ≡ [] = ap (λ o. op_of_answer o.answer) (turn-answered t m a some) ∙ stays.1 in
      record {
        ends = ends-are (turn_of t m).machine ∙ ap (λ n. ends_in n []) (turn-root t m a some) ∙ stays.0 [] ∙ sym (ends-are m);
        ops = turn-ops t m answer;
      }
] refl

pub halted-stays : HaltedStays
unfolding outcome_of all_halted
halted-stays t m h =
    let same = turn-same t m h in (
      ap (λ ops. ends_text ops (machine_ends (turn_of t m).machine)) same.ops ∙ ap (ends_text m.ops) same.ends,
      halted-ends (machine_leaves (turn_of t m).machine) ∙ ap (list_all (λ (e : HartEnd). is_some e.halt)) same.ends ∙ sym (halted-ends (machine_leaves m)) ∙ h,
    )

-- ---- a run

later-turns : (later : List Turn) (m : MachineValue) → all_halted m ≡ true → outcome_of (run_of later m).machine ≡ outcome_of m
unfolding run_of
later-turns [] m h = refl
later-turns (t ∷ ts) m h = let here = halted-stays t m h in later-turns ts (turn_of t m).machine here.1 ∙ here.0

pub joined : (ts later : List Turn) (m : MachineValue) → (run_of (ts ++ later) m).machine ≡ (run_of later (run_of ts m).machine).machine
unfolding run_of
joined [] later m = refl
joined (t ∷ ts) later m = joined ts later (turn_of t m).machine

pub later-turns-change-nothing : LaterTurnsChangeNoOutcome
later-turns-change-nothing ts later m h = ap outcome_of (joined ts later m) ∙ later-turns later (run_of ts m).machine h
