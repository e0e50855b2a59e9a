-- What the code does in a turn is the tables' turn.
use Rattle.std.proofs.Common.{◌≡◌, ◌<◌, ◌≤◌, ◌^◌, ℕ, ◌+◌, true, List, [], ◌∷◌, ◌++◌, length, map, take, drop, Option, Some, refl, sym, ap, subst, ◌∙◌, arith}
use Rattle.std.specs.Prelude.{nat_le}
use Rattle.std.specs.List.{list_all}
use Rattle.std.proofs.lemmas.Bool.{leb-true, le-leb}
use Rattle.std.proofs.lemmas.List.{append-nil, drop_all, take_all}
use Rattle.ddm_tree.specs.DdmTypes.declared.answers.TurnAnswer.{TurnAnswer}
use Rattle.ddm_tree.specs.DdmTypes.declared.keys.Stamp.{Stamp}
use Rattle.ddm_tree.specs.DdmTypes.declared.turns.Turn.{Turn}
use Rattle.ddm_tree.specs.DdmTypes.Keys.{stamp_zero}
use Rattle.ddm_tree.specs.DdmTypes.ItemTable.{item_count}
use Rattle.ddm_tree.specs.TreeModel.declared.Traffic.{Traffic}
use Rattle.ddm_tree.specs.TreeModel.State.Values.{DirValue, Node, Nodes, leaf_node, dir_node, no_nodes, more_nodes, nodes, MachineValue, root_of}
use Rattle.ddm_tree.specs.TreeModel.State.Shape.{buses_of, leaf_numbers_of, levels_of, tree_counts, widths_bounded}
use Rattle.ddm_tree.specs.TreeModel.Turns.Machine.{named_by, names_part, recorded, with_root, turn_of}
use Rattle.ddm_tree.specs.TreeModel.Turns.Tree.{Name, leaf_of_number, bus_of_number}
use Rattle.ddm_tree.proofs.TreeModel.FrameKept.{turn-frame}
use Rattle.ddm_tree.proofs.TreeModel.Tests.{and-first, and-second, and-both}
use Rattle.ddm_tree.specs.TreeRules.Bus.Rules.{IsMachineOk, IsTreeOk}
use Rattle.ddm_tree.specs.Counts.{counts_within, counts_among}
use Rattle.ddm_tree.specs.Machine.{IsFound, IsMachine, MachineState, has_path, listed_path, machine_of, ops_after, spare_after, state_after, traffic_after, traffic_within}
use Rattle.ddm_tree.specs.Path.{node_at, present_at, put_at, node_answer, node_turned}
use Rattle.ddm_tree.specs.Ready.{IsReady, Leads}
use Rattle.ddm_tree.proofs.Along.{root_answer, root_turned, turn-along}
use Rattle.ddm_tree.proofs.Names.{part-leads}
use Rattle.ddm_tree.proofs.Reading.{listed-inside}
use Rattle.ddm_tree.proofs.Recorded.{recorded-parts}

-- ---- the path

pub part-found : (width turns : ℕ) (leaf_paths bus_paths : List (List ℕ)) (t : Turn) (m : MachineValue) → IsMachine width m turns leaf_paths bus_paths → names_part t m ≡ true → IsFound t (root_of m) leaf_paths bus_paths
part-found width turns leaf_paths bus_paths t m is named =
    let found = part-leads m t named in
    record { path = found.0; listed = is.paths (named_by t) found.0 found.1.leads; leads = found.1.leads; child = found.1.child }

pub listed-has_path : {X : Type 0} (f : X → List ℕ) (name : Name) (xs ys : List X) (path : List ℕ) → listed_path name (map f xs) (map f ys) ≡ Some path → has_path name (length xs) (length ys)
listed-has_path f (leaf_of_number k) xs ys path e = listed-inside f xs k path e
listed-has_path f (bus_of_number k) xs ys path e = listed-inside f ys k path e

pub same-path : (o : Option (List ℕ)) (p q : List ℕ) → Some p ≡ o → o ≡ Some q → q ≡ p
same-path o p q first second = some-same (sym second ∙ sym first)
  where
    some-same : Some q ≡ Some p → q ≡ p
    some-same e = cc

-- ---- counts

module _ (turns most : ℕ) (below : turns ≤ most) where
  at-most : (n : ℕ) → nat_le n turns ≡ true → nat_le n most ≡ true
  at-most n e =
      let bound = leb-true n turns e in
      le-leb n most (omega (arith, bound, below))

  mutual
    pub counts-most : (n : Node) → counts_within turns n ≡ true → counts_within most n ≡ true
    counts-most (leaf_node v) e = at-most v.done e
    counts-most (dir_node d ns) e = and-both _ _ (at-most d.count (and-first _ (counts_among turns ns) e)) (counts-most-among ns (and-second (nat_le d.count turns) _ e))

    pub counts-most-among : (ns : Nodes) → counts_among turns ns ≡ true → counts_among most ns ≡ true
    counts-most-among no_nodes e = refl
    counts-most-among (more_nodes n ns) e = and-both _ _ (counts-most n (and-first _ (counts_among turns ns) e)) (counts-most-among ns (and-second (counts_within turns n) _ e))

  traffic-most : (t : Traffic) → traffic_within turns t ≡ true → traffic_within most t ≡ true
  traffic-most t e =
      let copies = and-second (nat_le t.reads turns) _ e in
      let erases = and-second (nat_le t.copies turns) _ copies in
      let exclusives = and-second (nat_le t.erases turns) _ erases in
      let outs = and-second (nat_le t.exclusives turns) _ exclusives in
      and-both _ _ (at-most t.reads (and-first _ _ e)) (and-both _ _ (at-most t.copies (and-first _ _ copies)) (and-both _ _ (at-most t.erases (and-first _ _ erases)) (and-both _ _ (at-most t.exclusives (and-first _ _ exclusives)) (and-both _ _ (at-most t.outs (and-first _ _ outs)) (at-most t.injects (and-second (nat_le t.outs turns) _ outs))))))

  pub all-traffic-most : (ts : List Traffic) → list_all (traffic_within turns) ts ≡ true → list_all (traffic_within most) ts ≡ true
  all-traffic-most [] e = refl
  all-traffic-most (t ∷ ts) e = and-both _ _ (traffic-most t (and-first _ (list_all (traffic_within turns) ts) e)) (all-traffic-most ts (and-second (traffic_within turns t) _ e))

-- ---- the machine is ready for the turn

pub machine-ready : (width turns : ℕ) (leaf_paths bus_paths : List (List ℕ)) (m : MachineValue) → IsMachine width m turns leaf_paths bus_paths → width < 2 ^ 32 → turns ≤ 4294967294 → IsReady (item_count m.items) width (root_of m)
machine-ready width turns leaf_paths bus_paths m is fits below = record {
  fits = fits;
  rooms = is.rooms;
  buses = is.shaped.each widths_bounded;
  words = is.words;
  counts = counts-most turns 4294967294 below (root_of m) is.counts;
}

-- ---- the turn

module _ (t : Turn) (m : MachineValue) (path : List ℕ) (leads : Leads (named_by t) path (root_of m)) (answer : TurnAnswer) (top : DirValue) (kids : List Node) (present : Stamp) (zero : present ≡ stamp_zero)
    (answers : answer ≡ node_answer m.code m.items t path (present_at path present (root_of m)) (node_at path (root_of m)))
    (after : dir_node top (nodes kids) ≡ put_at path (node_turned m.code m.items t path (present_at path present (root_of m)) (node_at path (root_of m))) (root_of m)) where
  same-answer : answer ≡ root_answer t path m
  same-answer = subst (λ p. answer ≡ node_answer m.code m.items t path (present_at path p (root_of m)) (node_at path (root_of m))) zero answers

  same-root : dir_node top (nodes kids) ≡ root_turned t path m
  same-root = subst (λ p. dir_node top (nodes kids) ≡ put_at path (node_turned m.code m.items t path (present_at path p (root_of m)) (node_at path (root_of m))) (root_of m)) zero after

  pub made-answer : answer ≡ (turn_of t m).answer
  made-answer = same-answer ∙ ap (λ r. r.answer) (sym (turn-along t path m leads))

  pub made-machine : machine_of m.code m.items top kids (ops_after answer m.ops) (traffic_after answer m.traffic) ≡ (turn_of t m).machine
  made-machine = sym (recorded-parts answer (with_root (dir_node top (nodes kids)) m)) ∙ ap (λ a. recorded a (with_root (dir_node top (nodes kids)) m)) same-answer ∙ ap (λ n. recorded (root_answer t path m) (with_root n m)) same-root ∙ ap (λ r. r.machine) (sym (turn-along t path m leads))

-- ---- the tree that it leaves keeps the rules, as the machine does

recorded-root : (a : TurnAnswer) (m : MachineValue) → root_of (recorded a m) ≡ root_of m
recorded-root (TurnAnswer.Retired op) m = refl
recorded-root (TurnAnswer.Issued kind x) m = refl
recorded-root (TurnAnswer.Waiting x) m = refl
recorded-root (TurnAnswer.Halted cause) m = refl
recorded-root (TurnAnswer.Granted entry) m = refl
recorded-root TurnAnswer.Empty m = refl
recorded-root (TurnAnswer.Busy cause) m = refl

module _ (t : Turn) (m : MachineValue) where
  -- a directory stands at the top
  still-top : (path : List ℕ) → root_of (with_root (root_turned t path m) m) ≡ root_turned t path m
  still-top [] = refl
  still-top (i ∷ path) = refl

  turned-root : (path : List ℕ) → Leads (named_by t) path (root_of m) → root_of (turn_of t m).machine ≡ root_turned t path m
  turned-root path leads = ap (λ r. root_of r.machine) (turn-along t path m leads) ∙ recorded-root (root_answer t path m) (with_root (root_turned t path m) m) ∙ still-top path

  pub turned-ruled : (path : List ℕ) → Leads (named_by t) path (root_of m) → IsMachineOk (turn_of t m).machine → IsTreeOk (item_count m.items) (root_turned t path m)
  turned-ruled path leads ok =
      let items : (turn_of t m).machine.items ≡ m.items = ap (λ f. f.items) (turn-frame t m) in
      subst (IsTreeOk (item_count m.items)) (turned-root path leads) (subst (λ k. IsTreeOk (item_count k) (root_of (turn_of t m).machine)) items ok.tree)

-- ---- all of it, from what the code says of the listed path

pub record Told (t : Turn) (m : MachineValue) (answer : TurnAnswer) (top : DirValue) (kids : List Node) : Type 0 where
  pub answer_is : answer ≡ (turn_of t m).answer
  pub machine_is : machine_of m.code m.items top kids (ops_after answer m.ops) (traffic_after answer m.traffic) ≡ (turn_of t m).machine

pub told-turn : (t : Turn) (m : MachineValue) (leaf_paths bus_paths : List (List ℕ)) (answer : TurnAnswer) (top : DirValue) (kids : List Node) → IsFound t (root_of m) leaf_paths bus_paths
    → ((path : List ℕ) → listed_path (named_by t) leaf_paths bus_paths ≡ Some path → answer ≡ node_answer m.code m.items t path (present_at path stamp_zero (root_of m)) (node_at path (root_of m)))
    → ((path : List ℕ) → listed_path (named_by t) leaf_paths bus_paths ≡ Some path → dir_node top (nodes kids) ≡ put_at path (node_turned m.code m.items t path (present_at path stamp_zero (root_of m)) (node_at path (root_of m))) (root_of m))
    → Told t m answer top kids
told-turn t m leaf_paths bus_paths answer top kids found answers after = record {
  answer_is = made-answer t m found.path found.leads answer top kids stamp_zero refl (answers found.path found.listed) (after found.path found.listed);
  machine_is = made-machine t m found.path found.leads answer top kids stamp_zero refl (answers found.path found.listed) (after found.path found.listed);
}

pub state-made : (t : Turn) (s : MachineState) (machine : MachineValue) (answer : TurnAnswer) (spare : ℕ) → machine ≡ (turn_of t s.machine).machine → answer ≡ (turn_of t s.machine).answer → spare ≡ spare_after answer s.spare
    → record { machine = machine; spare = spare; turns = s.turns + 1 } ≡ state_after t s
state-made t s machine answer spare machine_is answer_is spare_is = rw (machine_is, spare_is, answer_is) refl

pub turn-tree_counts : (t : Turn) (m : MachineValue) → tree_counts (turn_of t m).machine ≡ tree_counts m
turn-tree_counts t m = ap (λ f. record { leaves = length (leaf_numbers_of f.bones []); buses = length (buses_of f.bones []); depth = levels_of f.bones }) (turn-frame t m)

-- a list of which all elements were lent and came back
pub items-back : {X : Type 0} (old new : List X) (len : ℕ) → len ≡ length old → length new ≡ length old → take len (new ++ drop (length new) old) ≡ new
items-back old new len whole same =
    let none : drop (length new) old ≡ [] = drop_all (length new) old (omega (arith, same)) in
    let fits : length new ≤ len = omega (arith, whole, same) in
    ap (λ rest. take len (new ++ rest)) none ∙ ap (take len) (append-nil new) ∙ take_all len new fits
