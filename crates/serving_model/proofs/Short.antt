-- Walks are short: of each bus a walk has two turns at most, so an instruction takes four turns of each bus and two of
-- its hart at most.
-- Letters: h is the leaf, x the item, n a part of the tree, ns are children of a bus, c and k child numbers, m a
-- machine.
use Rattle.std.proofs.Common.{◌≡◌, ◌≢◌, ℕ, zero, suc, ◌+◌, ◌*◌, ◌≤◌, Bool, true, false, List, [], ◌∷◌, ◌++◌, length, Option, Some, None, refl, sym, ap, subst, ◌∙◌, arith}
use Rattle.std.specs.Prelude.{not, ◌&&◌, nat_eq, if◌then◌else◌}
use Rattle.std.specs.List.{flat_map}
use Rattle.std.proofs.lemmas.Bool.{and_parts, not-true, true≢false, eq-eqb}
use Rattle.std.proofs.lemmas.List.{length-append}
use Rattle.serving_model.specs.DdmTypes.declared.answers.TurnAnswer.{TurnAnswer}
use Rattle.serving_model.specs.DdmTypes.declared.answers.TxKind.{TxKind}
use Rattle.serving_model.specs.DdmTypes.declared.turns.Turn.{Turn}
use Rattle.serving_model.specs.TreeModel.State.States.{is_held, is_exclusive}
use Rattle.serving_model.specs.TreeModel.State.Values.{RequestValue, DirValue, Node, Nodes, leaf_node, dir_node, no_nodes, more_nodes, children, MachineValue, root_of}
use Rattle.serving_model.specs.TreeModel.State.Directory.{dir_hold}
use Rattle.serving_model.specs.TreeModel.State.Child.{child_hold, child_holds}
use Rattle.serving_model.specs.TreeModel.State.Blank.{no_node}
use Rattle.serving_model.specs.TreeModel.State.Shape.{Skeleton, Skeletons, leaf_bone, dir_bone, no_bones, more_bones, skeleton, skeletons, Frame, buses_of, buses_among, tree_counts}
use Rattle.serving_model.specs.TreeModel.Turns.Children.{child_at, other_holds}
use Rattle.serving_model.specs.TreeModel.Turns.Machine.{turn_of, run_of}
use Rattle.serving_model.specs.Walk.{child_over, holder, other_holder, turns_by, turns_of_child, turns_of_others, take_turns, takes, ask_turns, asks, give_turns, gives, read_turns, reads, read_across, lose_turns, loses, clear_turns, clears, erase_turns, erases}
use Rattle.serving_model.specs.Serving.{asked_of, walk_by_kind, walk_for, walk_of, walks_of, turns_behind, turns_to_complete}
use Rattle.serving_model.proofs.TreeModel.Children.{found-passes}
use Rattle.serving_model.proofs.TreeModel.FrameKept.{turn-frame, run-frame}

-- ---- buses of a part

abbrev mutual
  count : Skeleton → ℕ
  count (leaf_bone number sizes) = 0
  count (dir_bone bus level sizes bones) = counts bones + 1

  counts : Skeletons → ℕ
  counts no_bones = 0
  counts (more_bones b bs) = count b + counts bs

mutual
  count-is : (s : Skeleton) (rest : List ℕ) → length (buses_of s rest) ≡ count s + length rest
  count-is (leaf_bone number sizes) rest = omega arith
  count-is (dir_bone bus level sizes bones) rest =
      let below = counts-are bones rest in
      omega (arith, below)

  counts-are : (ss : Skeletons) (rest : List ℕ) → length (buses_among ss rest) ≡ counts ss + length rest
  counts-are no_bones rest = omega arith
  counts-are (more_bones b bs) rest =
      let first = count-is b (buses_among bs rest) in
      let later = counts-are bs rest in
      omega (arith, first, later)

abbrev buses : Node → ℕ
buses n = count (skeleton n)

abbrev buses_below : Nodes → ℕ
buses_below ns = counts (skeletons ns)

-- one child, and two that differ, have no more buses than all
one-fits : (ns : Nodes) (c : ℕ) → buses (child_at c (children ns)) ≤ buses_below ns
one-fits no_nodes c = omega arith
one-fits (more_nodes n ns) zero = omega arith
one-fits (more_nodes n ns) (suc c) =
    let rest = one-fits ns c in
    omega (arith, rest)

two-fit : (ns : Nodes) (c k : ℕ) → c ≢ k → buses (child_at c (children ns)) + buses (child_at k (children ns)) ≤ buses_below ns
two-fit no_nodes c k ne = omega arith
two-fit (more_nodes n ns) zero zero ne = absurd (ne refl)
two-fit (more_nodes n ns) zero (suc k) ne =
    let rest = one-fits ns k in
    omega (arith, rest)
two-fit (more_nodes n ns) (suc c) zero ne =
    let rest = one-fits ns c in
    omega (arith, rest)
two-fit (more_nodes n ns) (suc c) (suc k) ne =
    let rest = two-fit ns c k (λ same. ne (ap suc same)) in
    omega (arith, rest)

-- turns by a child are no more than each child's
by-short : (f : ℕ → List Turn) (most : ℕ) → ((c : ℕ) → length (f c) ≤ most) → (o : Option ℕ) → length (turns_by f o) ≤ most
by-short f most each None = omega arith
by-short f most each (Some c) = each c

module _ (h x : ℕ) where
  -- ---- a read

  mutual
    take-short : (n : Node) → length (take_turns h n) ≤ buses n
    take-short (leaf_node v) = omega arith
    take-short (dir_node d ns) =
        let rest = by-short (λ c. turns_of_child c (takes h ns)) (buses_below ns) (λ c. within ns c (takes-short ns c)) (child_over h ns) in
        omega (arith, rest)
      where
        within : (ns : Nodes) (c : ℕ) → length (turns_of_child c (takes h ns)) ≤ buses (child_at c (children ns)) → length (turns_of_child c (takes h ns)) ≤ buses_below ns
        within ns c l =
            let fits = one-fits ns c in
            omega (arith, l, fits)

    takes-short : (ns : Nodes) (c : ℕ) → length (turns_of_child c (takes h ns)) ≤ buses (child_at c (children ns))
    takes-short no_nodes c = omega arith
    takes-short (more_nodes n ns) zero = take-short n
    takes-short (more_nodes n ns) (suc c) = takes-short ns c

  mutual
    ask-short : (n : Node) → length (ask_turns h n) ≤ buses n
    ask-short (leaf_node v) = omega arith
    ask-short (dir_node d ns) = by-short (λ c. turns_of_child c (asks h ns) ++ Turn.Request d.bus c ∷ []) (buses_below ns + 1) (λ c. within d ns c (asks-short ns c)) (child_over h ns) where
      within : (d : DirValue) (ns : Nodes) (c : ℕ) → length (turns_of_child c (asks h ns)) ≤ buses (child_at c (children ns)) → length (turns_of_child c (asks h ns) ++ Turn.Request d.bus c ∷ []) ≤ buses_below ns + 1
      within d ns c l =
          let fits = one-fits ns c in
          let both = length-append (turns_of_child c (asks h ns)) (Turn.Request d.bus c ∷ []) in
          omega (arith, l, fits, both)

    asks-short : (ns : Nodes) (c : ℕ) → length (turns_of_child c (asks h ns)) ≤ buses (child_at c (children ns))
    asks-short no_nodes c = omega arith
    asks-short (more_nodes n ns) zero = ask-short n
    asks-short (more_nodes n ns) (suc c) = asks-short ns c

  mutual
    give-short : (n : Node) → length (give_turns x n) ≤ 2 * buses n
    give-short (leaf_node v) = omega arith
    give-short (dir_node d ns) =
        let rest = by-short (λ k. turns_of_child k (gives x ns) ++ Turn.Reply d.bus k ∷ []) (2 * buses_below ns + 1) (λ k. within d ns k (gives-short ns k)) (holder x ns) in
        omega (arith, rest)
      where
        within : (d : DirValue) (ns : Nodes) (k : ℕ) → length (turns_of_child k (gives x ns)) ≤ 2 * buses (child_at k (children ns)) → length (turns_of_child k (gives x ns) ++ Turn.Reply d.bus k ∷ []) ≤ 2 * buses_below ns + 1
        within d ns k l =
            let fits = one-fits ns k in
            let both = length-append (turns_of_child k (gives x ns)) (Turn.Reply d.bus k ∷ []) in
            omega (arith, l, fits, both)

    gives-short : (ns : Nodes) (k : ℕ) → length (turns_of_child k (gives x ns)) ≤ 2 * buses (child_at k (children ns))
    gives-short no_nodes k = omega arith
    gives-short (more_nodes n ns) zero = give-short n
    gives-short (more_nodes n ns) (suc k) = gives-short ns k

  across-short : (bus c : ℕ) (ns : Nodes) → length (read_across h x bus c ns) ≤ 2 * buses_below ns + 2
  across-short bus c ns = at (other_holder c x ns) refl where
    at : (o : Option ℕ) → other_holder c x ns ≡ o → length (turns_of_child c (asks h ns) ++ Turn.Request bus c ∷ turns_by (λ k. turns_of_child k (gives x ns) ++ Turn.Reply bus k ∷ turns_of_child c (takes h ns)) o) ≤ 2 * buses_below ns + 2
    at None none =
        let both = length-append (turns_of_child c (asks h ns)) (Turn.Request bus c ∷ []) in
        let asked = asks-short ns c in
        let fits = one-fits ns c in
        omega (arith, both, asked, fits)
    at (Some k) found =
        let both = length-append (turns_of_child c (asks h ns)) (Turn.Request bus c ∷ (turns_of_child k (gives x ns) ++ Turn.Reply bus k ∷ turns_of_child c (takes h ns))) in
        let more = length-append (turns_of_child k (gives x ns)) (Turn.Reply bus k ∷ turns_of_child c (takes h ns)) in
        let asked = asks-short ns c in
        let given = gives-short ns k in
        let taken = takes-short ns c in
        let passes : (not (nat_eq k c) && child_holds x (child_at k (children ns))) ≡ true = found-passes (other_holds c x) k (children ns) no_node found in
        let fit = two-fit ns c k (λ same. true≢false (sym (eq-eqb k c (sym same)) ∙ not-true _ (and_parts (not (nat_eq k c)) _ passes).0)) in
        omega (arith, both, more, asked, given, taken, fit)

  mutual
    read-short : (n : Node) → length (read_turns h x n) ≤ 2 * buses n
    read-short (leaf_node v) = omega arith
    read-short (dir_node d ns) = by-short (λ c. if child_holds x (child_at c (children ns)) then turns_of_child c (reads h x ns) else read_across h x d.bus c ns) (2 * (buses_below ns + 1)) (λ c. within d ns c (reads-short ns c) (child_holds x (child_at c (children ns)))) (child_over h ns) where
      within : (d : DirValue) (ns : Nodes) (c : ℕ) → length (turns_of_child c (reads h x ns)) ≤ 2 * buses (child_at c (children ns)) → (b : Bool) → length (if b then turns_of_child c (reads h x ns) else read_across h x d.bus c ns) ≤ 2 * (buses_below ns + 1)
      within d ns c l true =
          let fits = one-fits ns c in
          omega (arith, l, fits)
      within d ns c l false =
          let short = across-short d.bus c ns in
          omega (arith, short)

    reads-short : (ns : Nodes) (c : ℕ) → length (turns_of_child c (reads h x ns)) ≤ 2 * buses (child_at c (children ns))
    reads-short no_nodes c = omega arith
    reads-short (more_nodes n ns) zero = read-short n
    reads-short (more_nodes n ns) (suc c) = reads-short ns c

  -- ---- an erase

  mutual
    lose-short : (n : Node) → length (lose_turns x n) ≤ buses n
    lose-short (leaf_node v) = omega arith
    lose-short (dir_node d ns) = at (is_held (dir_hold x d)) d ns (loses-short ns) where
      at : (b : Bool) (d : DirValue) (ns : Nodes) → length (flat_map (λ turns. turns) (loses x ns)) ≤ buses_below ns → length (if b then Turn.Down d.bus ∷ flat_map (λ turns. turns) (loses x ns) else []) ≤ buses_below ns + 1
      at true d ns l = omega (arith, l)
      at false d ns l = omega arith

    loses-short : (ns : Nodes) → length (flat_map (λ turns. turns) (loses x ns)) ≤ buses_below ns
    loses-short no_nodes = omega arith
    loses-short (more_nodes n ns) =
        let first = lose-short n in
        let rest = loses-short ns in
        let both = length-append (lose_turns x n) (flat_map (λ turns. turns) (loses x ns)) in
        omega (arith, first, rest, both)

  others-short : (ns : Nodes) (c : ℕ) → length (turns_of_others c (loses x ns)) + buses (child_at c (children ns)) ≤ buses_below ns
  others-short no_nodes c = omega arith
  others-short (more_nodes n ns) zero =
      let rest = loses-short ns in
      omega (arith, rest)
  others-short (more_nodes n ns) (suc c) =
      let first = lose-short n in
      let rest = others-short ns c in
      let both = length-append (lose_turns x n) (turns_of_others c (loses x ns)) in
      omega (arith, first, rest, both)

  abbrev cleared : DirValue → Nodes → ℕ → List Turn
  cleared d ns c = turns_of_child c (clears h x ns) ++ Turn.Request d.bus c ∷ turns_of_others c (loses x ns)

  mutual
    clear-short : (n : Node) → length (clear_turns h x n) ≤ buses n
    clear-short (leaf_node v) = omega arith
    clear-short (dir_node d ns) = by-short (cleared d ns) (buses_below ns + 1) (λ c. within d ns c (clears-short ns c)) (child_over h ns) where
      within : (d : DirValue) (ns : Nodes) (c : ℕ) → length (turns_of_child c (clears h x ns)) ≤ buses (child_at c (children ns)) → length (cleared d ns c) ≤ buses_below ns + 1
      within d ns c l =
          let others = others-short ns c in
          let both = length-append (turns_of_child c (clears h x ns)) (Turn.Request d.bus c ∷ turns_of_others c (loses x ns)) in
          omega (arith, l, others, both)

    clears-short : (ns : Nodes) (c : ℕ) → length (turns_of_child c (clears h x ns)) ≤ buses (child_at c (children ns))
    clears-short no_nodes c = omega arith
    clears-short (more_nodes n ns) zero = clear-short n
    clears-short (more_nodes n ns) (suc c) = clears-short ns c

  mutual
    erase-short : (n : Node) → length (erase_turns h x n) ≤ 2 * buses n
    erase-short (leaf_node v) = omega arith
    erase-short (dir_node d ns) = at (child_over h ns) (λ c. erases-short ns c) where
      within : (c : ℕ) → length (turns_of_child c (erases h x ns)) ≤ 2 * buses (child_at c (children ns)) → (b : Bool) → length (if b then turns_of_child c (erases h x ns) else cleared d ns c ++ Turn.Down d.bus ∷ turns_of_child c (takes h ns)) ≤ 2 * (buses_below ns + 1)
      within c l true =
          let fits = one-fits ns c in
          omega (arith, l, fits)
      within c l false =
          let all = length-append (cleared d ns c) (Turn.Down d.bus ∷ turns_of_child c (takes h ns)) in
          let both = length-append (turns_of_child c (clears h x ns)) (Turn.Request d.bus c ∷ turns_of_others c (loses x ns)) in
          let up = clears-short ns c in
          let others = others-short ns c in
          let down = takes-short ns c in
          let fits = one-fits ns c in
          omega (arith, all, both, up, others, down, fits)

      at : (o : Option ℕ) → ((c : ℕ) → length (turns_of_child c (erases h x ns)) ≤ 2 * buses (child_at c (children ns))) → length (turns_by (λ c. if is_exclusive (child_hold x (child_at c (children ns))) then turns_of_child c (erases h x ns) else turns_by (cleared d ns) o ++ Turn.Down d.bus ∷ turns_of_child c (takes h ns)) o) ≤ 2 * (buses_below ns + 1)
      at None each = omega arith
      at (Some c) each = within c (each c) (is_exclusive (child_hold x (child_at c (children ns))))

    erases-short : (ns : Nodes) (c : ℕ) → length (turns_of_child c (erases h x ns)) ≤ 2 * buses (child_at c (children ns))
    erases-short no_nodes c = omega arith
    erases-short (more_nodes n ns) zero = erase-short n
    erases-short (more_nodes n ns) (suc c) = erases-short ns c

-- ---- of a machine

walk-short : (h : ℕ) (m : MachineValue) → length (walk_of h m) ≤ 2 * (tree_counts m).buses
unfolding walk_of
walk-short h m = at (asked_of h m) where
  total : (tree_counts m).buses ≡ buses (root_of m)
  total =
      let is = count-is (skeleton (root_of m)) [] in
      omega (arith, is)

  by-kind : (kind : TxKind) (x : ℕ) → length (walk_by_kind kind h x (root_of m)) ≤ 2 * (tree_counts m).buses
  by-kind TxKind.ReadTx x = subst (λ k. length (read_turns h x (root_of m)) ≤ 2 * k) (sym total) (read-short h x (root_of m))
  by-kind TxKind.EraseTx x = subst (λ k. length (erase_turns h x (root_of m)) ≤ 2 * k) (sym total) (erase-short h x (root_of m))
  by-kind TxKind.DataTx x = omega arith
  by-kind TxKind.ExclusiveTx x = omega arith
  by-kind TxKind.InjectTx x = omega arith
  by-kind TxKind.OutTx x = omega arith

  at : (o : Option RequestValue) → length (walk_for h o (root_of m)) ≤ 2 * (tree_counts m).buses
  at None = omega arith
  at (Some r) = by-kind r.kind r.item

walks-short : (h : ℕ) (m : MachineValue) → length (walks_of h m) ≤ 4 * (tree_counts m).buses
unfolding walks_of
walks-short h m =
    let first = walk-short h m in
    let later = walk-short h (run_of (walk_of h m) m).machine in
    let same : (tree_counts (run_of (walk_of h m) m).machine).buses ≡ (tree_counts m).buses = ap (λ (f : Frame). length (buses_of f.bones [])) (run-frame (walk_of h m) m) in
    let both = length-append (walk_of h m) (walk_of h (run_of (walk_of h m) m).machine) in
    omega (arith, first, later, same, both)

pub instruction-short : (h : ℕ) (m : MachineValue) → length (turns_to_complete h m) ≤ 4 * (tree_counts m).buses + 2
unfolding turns_to_complete
instruction-short h m = at (turn_of (Turn.Hart h 0) m).answer where
  at : (a : TurnAnswer) → length (Turn.Hart h 0 ∷ turns_behind h a (turn_of (Turn.Hart h 0) m).machine) ≤ 4 * (tree_counts m).buses + 2
  at (TurnAnswer.Issued kind x) =
      let walks = walks-short h (turn_of (Turn.Hart h 0) m).machine in
      let same : (tree_counts (turn_of (Turn.Hart h 0) m).machine).buses ≡ (tree_counts m).buses = ap (λ (f : Frame). length (buses_of f.bones [])) (turn-frame (Turn.Hart h 0) m) in
      let both = length-append (walks_of h (turn_of (Turn.Hart h 0) m).machine) (Turn.Hart h 0 ∷ []) in
      omega (arith, walks, same, both)
  at (TurnAnswer.Retired op) = omega arith
  at (TurnAnswer.Waiting x) = omega arith
  at (TurnAnswer.Halted cause) = omega arith
  at (TurnAnswer.Granted e) = omega arith
  at TurnAnswer.Empty = omega arith
  at (TurnAnswer.Busy cause) = omega arith
