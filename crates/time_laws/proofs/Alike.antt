-- Machines that differ in time alone, and whose harts have put out the same, stay so; and their leaves are the same but for time.
-- Letters: m and n are machines, t a turn, a an answer, hart the number of one.
use Rattle.std.proofs.Common.{◌≡◌, ℕ, List, [], ◌∷◌, ◌++◌, map, Option, Some, None, refl, sym, ap, ◌∙◌, append-nil}
use Rattle.std.specs.Prelude.{flat_map}
use Rattle.std.proofs.lemmas.Grind.{flat_map-append}
use Rattle.time_laws.specs.DdmTypes.declared.answers.TurnAnswer.{TurnAnswer}
use Rattle.time_laws.specs.DdmTypes.declared.turns.Turn.{Turn}
use Rattle.tree_model.specs.State.Values.{LeafValue, Node, Nodes, leaf_node, dir_node, no_nodes, more_nodes, MachineValue, root_of}
use Rattle.tree_model.specs.State.Shape.{Skeleton, Skeletons, leaf_bone, dir_bone, no_bones, more_bones, skeleton, skeletons}
use Rattle.tree_model.specs.Turns.Machine.{turn_answer, turn_root, with_root, recorded, turned_by, turn_of, run_of, leaves_of, leaves_among, machine_leaves}
use Rattle.time_laws.specs.Forget.{forget_leaf, forget_node, forget_nodes, forget, forget_answer, put_by, put_bytes, put_in, Alike}
use Rattle.tree_model.proofs.FrameKept.{turn-frame}
use Rattle.time_laws.proofs.BlindBus.{cons-head, cons-tail}
use Rattle.time_laws.proofs.ForgetTurn.{turn-answer, turn-machine}

-- ---- the bytes put out

module _ (hart : ℕ) where
  rooted-puts : (root : Node) (m : MachineValue) → put_bytes hart (with_root root m) ≡ put_bytes hart m
  unfolding put_bytes
  rooted-puts (leaf_node v) m = refl
  rooted-puts (dir_node d ns) m = refl

  recorded-puts : (a : TurnAnswer) (m : MachineValue) → put_bytes hart (recorded a m) ≡ put_bytes hart m ++ put_in hart a
  unfolding put_bytes
  recorded-puts (TurnAnswer.Retired op) m = flat_map-append (put_by hart) m.ops (op ∷ []) ∙ ap (λ l. flat_map (put_by hart) m.ops ++ l) (append-nil (put_by hart op))
  recorded-puts (TurnAnswer.Issued kind x) m = sym (append-nil _)
  recorded-puts (TurnAnswer.Waiting x) m = sym (append-nil _)
  recorded-puts (TurnAnswer.Halted cause) m = sym (append-nil _)
  recorded-puts (TurnAnswer.Granted entry) m = sym (append-nil _)
  recorded-puts TurnAnswer.Empty m = sym (append-nil _)
  recorded-puts (TurnAnswer.Busy cause) m = sym (append-nil _)

  turned-puts : (o : Option TurnAnswer) (root : Node) (m : MachineValue) → put_bytes hart (turned_by o root m).machine ≡ put_bytes hart m ++ put_in hart (turned_by o root m).answer
  turned-puts None root m = sym (append-nil (put_bytes hart m))
  turned-puts (Some a) root m = recorded-puts a (with_root root m) ∙ ap (λ l. l ++ put_in hart a) (rooted-puts root m)

  pub turn-puts : (t : Turn) (m : MachineValue) → put_bytes hart (turn_of t m).machine ≡ put_bytes hart m ++ put_in hart (turn_of t m).answer
  unfolding turn_of
  turn-puts t m = turned-puts (turn_answer t m) (turn_root t m) m

  -- a key tells nothing of them
  put-forgotten : (a : TurnAnswer) → put_in hart a ≡ put_in hart (forget_answer a)
  put-forgotten (TurnAnswer.Retired op) = refl
  put-forgotten (TurnAnswer.Issued kind x) = refl
  put-forgotten (TurnAnswer.Waiting x) = refl
  put-forgotten (TurnAnswer.Halted cause) = refl
  put-forgotten (TurnAnswer.Granted entry) = refl
  put-forgotten TurnAnswer.Empty = refl
  put-forgotten (TurnAnswer.Busy cause) = refl

-- ---- the leaves

mutual
  leaves-forgotten : (n : Node) (rest : List LeafValue) → map forget_leaf (leaves_of n rest) ≡ leaves_of (forget_node n) (map forget_leaf rest)
  leaves-forgotten (leaf_node v) rest = refl
  leaves-forgotten (dir_node d ns) rest = leaves_among-forgotten ns rest

  leaves_among-forgotten : (ns : Nodes) (rest : List LeafValue) → map forget_leaf (leaves_among ns rest) ≡ leaves_among (forget_nodes ns) (map forget_leaf rest)
  leaves_among-forgotten no_nodes rest = refl
  leaves_among-forgotten (more_nodes n ns) rest = leaves-forgotten n (leaves_among ns rest) ∙ ap (leaves_of (forget_node n)) (leaves_among-forgotten ns rest)

pub leaves-alike : (m n : MachineValue) → Alike m n → map forget_leaf (machine_leaves m) ≡ map forget_leaf (machine_leaves n)
leaves-alike m n alike = leaves-forgotten (root_of m) [] ∙ ap machine_leaves alike.state ∙ sym (leaves-forgotten (root_of n) [])

-- ---- their numbers

abbrev number_of : LeafValue → ℕ
number_of v = v.number

abbrev numbers_of : MachineValue → List ℕ
numbers_of m = map number_of (machine_leaves m)

numbers-forgotten : (vs : List LeafValue) → map number_of (map forget_leaf vs) ≡ map number_of vs
numbers-forgotten [] = refl
numbers-forgotten (v ∷ vs) = ap (λ ks. v.number ∷ ks) (numbers-forgotten vs)

numbers-alike : (m n : MachineValue) → Alike m n → numbers_of m ≡ numbers_of n
numbers-alike m n alike = sym (numbers-forgotten (machine_leaves m)) ∙ ap (map number_of) (leaves-alike m n alike) ∙ numbers-forgotten (machine_leaves n)

abbrev mutual
  bone_numbers : Skeleton → List ℕ → List ℕ
  bone_numbers (leaf_bone number sizes) rest = number ∷ rest
  bone_numbers (dir_bone bus level sizes below) rest = bones_numbers below rest

  bones_numbers : Skeletons → List ℕ → List ℕ
  bones_numbers no_bones rest = rest
  bones_numbers (more_bones b bs) rest = bone_numbers b (bones_numbers bs rest)

mutual
  numbers-bones : (n : Node) (rest : List LeafValue) → map number_of (leaves_of n rest) ≡ bone_numbers (skeleton n) (map number_of rest)
  numbers-bones (leaf_node v) rest = refl
  numbers-bones (dir_node d ns) rest = numbers-bones_among ns rest

  numbers-bones_among : (ns : Nodes) (rest : List LeafValue) → map number_of (leaves_among ns rest) ≡ bones_numbers (skeletons ns) (map number_of rest)
  numbers-bones_among no_nodes rest = refl
  numbers-bones_among (more_nodes n ns) rest = numbers-bones n (leaves_among ns rest) ∙ ap (bone_numbers (skeleton n)) (numbers-bones_among ns rest)

-- a turn keeps them
turn-numbers : (t : Turn) (m : MachineValue) → numbers_of (turn_of t m).machine ≡ numbers_of m
turn-numbers t m = numbers-bones (root_of (turn_of t m).machine) [] ∙ ap (λ f. bone_numbers f.bones []) (turn-frame t m) ∙ sym (numbers-bones (root_of m) [])

-- ---- what each hart has put out

by_number : (m : MachineValue) (vs : List LeafValue) → map (λ v. put_bytes v.number m) vs ≡ map (λ k. put_bytes k m) (map number_of vs)
by_number m [] = refl
by_number m (v ∷ vs) = ap (λ l. put_bytes v.number m ∷ l) (by_number m vs)

-- what two functions agree on, with the same added, they agree on
added-same : (p q after later put other : ℕ → List ℕ) → ((k : ℕ) → after k ≡ p k ++ put k) → ((k : ℕ) → later k ≡ q k ++ other k) → ((k : ℕ) → put k ≡ other k) → (ks : List ℕ) → map p ks ≡ map q ks → map after ks ≡ map later ks
added-same p q after later put other first second same [] agree = refl
added-same p q after later put other first second same (k ∷ ks) agree =
    let here : after k ≡ later k = first k ∙ ap (λ l. l ++ put k) (cons-head (p k) (q k) _ _ agree) ∙ ap (λ l. q k ++ l) (same k) ∙ sym (second k) in
    ap (λ l. l ∷ map after ks) here ∙ ap (λ l. later k ∷ l) (added-same p q after later put other first second same ks (cons-tail (p k) (q k) _ _ agree))

-- ---- turns of two machines that are alike

pub answer-alike : (t : Turn) (m n : MachineValue) → Alike m n → forget_answer (turn_of t m).answer ≡ forget_answer (turn_of t n).answer
answer-alike t m n alike = turn-answer t m ∙ ap (λ k. forget_answer (turn_of t k).answer) alike.state ∙ sym (turn-answer t n)

pub turn-alike : (t : Turn) (m n : MachineValue) → Alike m n → Alike (turn_of t m).machine (turn_of t n).machine
turn-alike t m n alike = record {
  state = turn-machine t m ∙ ap (λ k. forget (turn_of t k).machine) alike.state ∙ sym (turn-machine t n);
  puts =
      let kept : map (λ k. put_bytes k m) (numbers_of m) ≡ map (λ k. put_bytes k n) (numbers_of m) =
      sym (by_number m (machine_leaves m)) ∙ alike.puts ∙ by_number n (machine_leaves n) ∙ ap (map (λ k. put_bytes k n)) (sym (numbers-alike m n alike)) in
      let added = added-same (λ k. put_bytes k m) (λ k. put_bytes k n) (λ k. put_bytes k (turn_of t m).machine) (λ k. put_bytes k (turn_of t n).machine) (λ k. put_in k (turn_of t m).answer) (λ k. put_in k (turn_of t n).answer)
      (λ k. turn-puts k t m) (λ k. turn-puts k t n) (λ k. put-forgotten k _ ∙ ap (put_in k) (answer-alike t m n alike) ∙ sym (put-forgotten k _)) (numbers_of m) kept in
      let before : numbers_of (turn_of t m).machine ≡ numbers_of m = turn-numbers t m in
      let after : numbers_of m ≡ numbers_of (turn_of t n).machine = numbers-alike m n alike ∙ sym (turn-numbers t n) in
      by_number (turn_of t m).machine (machine_leaves (turn_of t m).machine) ∙ ap (map (λ k. put_bytes k (turn_of t m).machine)) before ∙ added ∙ ap (map (λ k. put_bytes k (turn_of t n).machine)) after ∙ sym (by_number (turn_of t n).machine (machine_leaves (turn_of t n).machine));
}

-- ---- runs

pub run-alike : (ts : List Turn) (m n : MachineValue) → Alike m n → Alike (run_of ts m).machine (run_of ts n).machine
unfolding run_of
run-alike [] m n alike = alike
run-alike (t ∷ ts) m n alike = run-alike ts (turn_of t m).machine (turn_of t n).machine (turn-alike t m n alike)

pub answers-alike : (ts : List Turn) (m n : MachineValue) → Alike m n → map forget_answer (run_of ts m).answers ≡ map forget_answer (run_of ts n).answers
unfolding run_of
answers-alike [] m n alike = refl
answers-alike (t ∷ ts) m n alike =
    ap (λ a. a ∷ map forget_answer (run_of ts (turn_of t m).machine).answers) (answer-alike t m n alike) ∙ ap (λ l. forget_answer (turn_of t n).answer ∷ l) (answers-alike ts (turn_of t m).machine (turn_of t n).machine (turn-alike t m n alike))
