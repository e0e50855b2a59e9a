-- Turns of buses change no hart: where a turn is granted, each leaf keeps its number, its sizes, its hart and how many
-- instructions completed.
-- Letters: t is a turn, m a machine, n and k a node before and after, ns and ms are nodes, rest are leaves behind.
use Rattle.std.proofs.Common.{◌≡◌, ℕ, true, false, List, [], ◌∷◌, map, Option, Some, None, refl, sym, ap, subst, ◌∙◌}
use Rattle.std.specs.List.{list_all}
use Rattle.std.proofs.lemmas.Bool.{and_parts, true≢false}
use Rattle.serving_model.specs.DdmTypes.CodeMap.{CodeWord}
use Rattle.serving_model.specs.DdmTypes.ItemTable.{ItemTable}
use Rattle.serving_model.specs.DdmTypes.declared.keys.Key.{Key}
use Rattle.serving_model.specs.DdmTypes.declared.answers.TurnAnswer.{TurnAnswer}
use Rattle.serving_model.specs.DdmTypes.declared.turns.Turn.{Turn}
use Rattle.serving_model.specs.TreeModel.State.Values.{LeafValue, Node, Nodes, leaf_node, dir_node, no_nodes, more_nodes, nodes, children, MachineValue, root_of}
use Rattle.serving_model.specs.TreeModel.State.Place.{Where, at_top, stamp_above, key_at_leaf}
use Rattle.serving_model.specs.TreeModel.Turns.Bus.{bus_step}
use Rattle.serving_model.specs.TreeModel.Turns.HartTurn.{Deed, has_halted, waits_for, halts, completes, fetches, upgrades, finds_buffer_full, answer_of_deed, deed_of, leaf_step}
use Rattle.serving_model.specs.TreeModel.Turns.Machine.{Turned, bus_turn_of, victim_of, turn_answer, turn_root, turn_of, run_of, leaves_of, leaves_among, machine_leaves, answer_here, node_after, named_by}
use Rattle.bus_laws.specs.TreeModel.Laws.{kept_of, TurnsHere}
use Rattle.serving_model.specs.Parts.{is_granted}
use Rattle.serving_model.specs.Laws.{leaf_kept_of}
use Rattle.serving_model.proofs.TreeModel.BusKeeps.{bus_step-keeps}
use Rattle.serving_model.proofs.TreeModel.Changed.{changed-keeps}
use Rattle.serving_model.proofs.TreeModel.Children.{nodes-children}
use Rattle.serving_model.proofs.TreeModel.NamedNode.{turned}
use Rattle.serving_model.proofs.TreeModel.TurnChanges.{turn-unanswered, turn-answered, turn-root}

-- the leaves of both keep the same, before others that do
abbrev SameLeaves : Node → Node → Type 0
SameLeaves n k = (rest more : List LeafValue) → map leaf_kept_of more ≡ map leaf_kept_of rest → map leaf_kept_of (leaves_of k more) ≡ map leaf_kept_of (leaves_of n rest)

abbrev SameAmong : Nodes → Nodes → Type 0
SameAmong ns ms = (rest more : List LeafValue) → map leaf_kept_of more ≡ map leaf_kept_of rest → map leaf_kept_of (leaves_among ms more) ≡ map leaf_kept_of (leaves_among ns rest)

mutual
  same-self : (n : Node) → SameLeaves n n
  same-self (leaf_node v) rest more same = ap (λ ks. leaf_kept_of v ∷ ks) same
  same-self (dir_node d ns) rest more same = among-self ns rest more same

  among-self : (ns : Nodes) → SameAmong ns ns
  among-self no_nodes rest more same = same
  among-self (more_nodes n ns) rest more same = same-self n (leaves_among ns rest) (leaves_among ns more) (among-self ns rest more same)

-- nodes of which a bus's turn keeps the same have the same leaves
kept-same : (n k : Node) → kept_of k ≡ kept_of n → SameLeaves n k
kept-same (leaf_node v) (leaf_node u) kept rest more same =
    let first : leaf_kept_of u ≡ leaf_kept_of v = kept in
    rw (first, same) refl
kept-same (leaf_node v) (dir_node e ms) kept rest more same = cc
kept-same (dir_node d ns) (leaf_node u) kept rest more same = cc
kept-same (dir_node d ns) (dir_node e ms) kept rest more same =
    let below : ms ≡ ns = cc in
    subst (λ ks. map leaf_kept_of (leaves_among ks more) ≡ map leaf_kept_of (leaves_among ns rest)) (sym below) (among-self ns rest more same)

kept-among : (ns ms : List Node) → map kept_of ms ≡ map kept_of ns → SameAmong (nodes ns) (nodes ms)
kept-among [] [] kept rest more same = same
kept-among [] (m ∷ ms) kept rest more same = cc
kept-among (n ∷ ns) [] kept rest more same = cc
kept-among (n ∷ ns) (m ∷ ms) kept rest more same =
    let first : kept_of m ≡ kept_of n = cc in
    let later : map kept_of ms ≡ map kept_of ns = cc in
    kept-same n m first (leaves_among (nodes ns) rest) (leaves_among (nodes ms) more) (kept-among ns ms later rest more same)

-- a hart's turn is never granted
hart-none : (code : List CodeWord) (items : ItemTable) (now : Key) (victim : ℕ) (v : LeafValue) → is_granted (leaf_step code items now victim v).answer ≡ false
unfolding leaf_step
hart-none code items now victim v = of-deed (deed_of code items victim v) where
  of-deed : (deed : Deed) → is_granted (answer_of_deed now v deed) ≡ false
  of-deed (has_halted cause) = refl
  of-deed (waits_for x) = refl
  of-deed (halts cause) = refl
  of-deed (completes c) = refl
  of-deed (fetches x state way) = refl
  of-deed (upgrades x words) = refl
  of-deed finds_buffer_full = refl

module _ (t : Turn) (m : MachineValue) (granted : is_granted (turn_of t m).answer ≡ true) where
  here : (a : TurnAnswer) → is_granted a ≡ true → (w : Where) (n k : Node) → TurnsHere t m a w n k → SameLeaves n k
  here a is w (leaf_node v) k r rest more same = absurd (true≢false (sym is ∙ (ap is_granted (sym r.reads) ∙ hart-none m.code m.items (key_at_leaf w v.done) (victim_of t) v)))
  here a is w (dir_node d ns) k r rest more same =
      let keeps = bus_step-keeps (stamp_above w) d (children ns) (bus_turn_of t) in
      subst (λ l. map leaf_kept_of (leaves_of l more) ≡ map leaf_kept_of (leaves_among ns rest)) (sym r.becomes)
      (subst (λ ks. map leaf_kept_of (leaves_among (nodes (bus_step (stamp_above w) (bus_turn_of t) d (children ns)).kids) more) ≡ map leaf_kept_of (leaves_among ks rest)) (nodes-children ns) (kept-among (children ns) (bus_step (stamp_above w) (bus_turn_of t) d (children ns)).kids keeps.kids rest more same))

  turn-keeps_leaves : map leaf_kept_of (machine_leaves (turn_of t m).machine) ≡ map leaf_kept_of (machine_leaves m)
  turn-keeps_leaves = at (turn_answer t m) refl where
    at : (o : Option TurnAnswer) → turn_answer t m ≡ o → map leaf_kept_of (machine_leaves (turn_of t m).machine) ≡ map leaf_kept_of (machine_leaves m)
    at None none = ap (λ (o : Turned). map leaf_kept_of (machine_leaves o.machine)) (turn-unanswered t m none)
    at (Some a) some =
        let is : is_granted a ≡ true = sym (ap (λ (o : Turned). is_granted o.answer) (turn-answered t m a some)) ∙ granted in
        let changed = turned (named_by t) (answer_here m.code m.items t) (node_after m.code m.items t) a at_top (root_of m) some in
        let keeps = changed-keeps (TurnsHere t m a) SameLeaves SameAmong (here a is) (λ d ns ms below. below) (λ n k ns first rest more same. first (leaves_among ns rest) (leaves_among ns more) (among-self ns rest more same)) (λ n ns ms later rest more same. same-self n (leaves_among ns rest) (leaves_among ms more) (later rest more same)) at_top changed.0 (root_of m) (turn_root t m) changed.1 in
        ap (λ n. map leaf_kept_of (leaves_of n [])) (turn-root t m a some) ∙ keeps [] [] refl

pub run-keeps_leaves : (ts : List Turn) (m : MachineValue) → list_all is_granted (run_of ts m).answers ≡ true → map leaf_kept_of (machine_leaves (run_of ts m).machine) ≡ map leaf_kept_of (machine_leaves m)
unfolding run_of
run-keeps_leaves [] m granted = refl
run-keeps_leaves (t ∷ ts) m granted =
    let both = and_parts (is_granted (turn_of t m).answer) _ granted in
    run-keeps_leaves ts (turn_of t m).machine both.1 ∙ turn-keeps_leaves t m both.0
