-- The node that a name names is the one at the end of the path to it: it is read there and changed there.
use Rattle.std.proofs.Common.{◌≡◌, ℕ, suc, ◌+◌, ◌<◌, ◌++◌, Bool, true, false, List, [], ◌∷◌, length, Option, Some, None, refl, sym, ap, ◌∙◌, arith, option_map}
use Rattle.std.specs.Prelude.{is_some, slice_set, ◌||◌, if◌then◌else◌}
use Rattle.std.proofs.lemmas.List.{append_assoc, append-nil}
use Rattle.ddm_tree.specs.DdmTypes.declared.answers.TurnAnswer.{TurnAnswer}
use Rattle.ddm_tree.specs.DdmTypes.declared.turns.Turn.{Turn}
use Rattle.ddm_tree.specs.DdmTypes.Keys.{stamp_zero}
use Rattle.ddm_tree.specs.DdmTypes.ItemTable.{ItemTable}
use Rattle.ddm_tree.specs.DdmTypes.CodeMap.{CodeWord}
use Rattle.ddm_tree.specs.TreeModel.State.Lists.{first_some, some_if}
use Rattle.ddm_tree.specs.TreeModel.State.Values.{LeafValue, DirValue, Node, Nodes, leaf_node, dir_node, no_nodes, more_nodes, nodes, children, MachineValue, root_of}
use Rattle.ddm_tree.specs.TreeModel.State.Place.{Where, at_top, at_child, where_path, stamp_above, spot_in}
use Rattle.ddm_tree.specs.TreeModel.State.Shape.{skeleton, skeletons}
use Rattle.ddm_tree.specs.TreeModel.Turns.Children.{child_at}
use Rattle.ddm_tree.specs.TreeModel.Turns.Machine.{named_by, answer_here, node_after, turn_answer, turn_root, with_root, recorded, turn_of}
use Rattle.ddm_tree.specs.TreeModel.Turns.Tree.{Name, leaf_of_number, bus_of_number, is_named, has_node, has_among, read_in, read_among, changed_in, changed_among}
use Rattle.ddm_tree.proofs.TreeModel.Children.{nodes-children}
use Rattle.ddm_tree.proofs.TreeModel.TurnChanges.{turn-changes_nothing}
use Rattle.ddm_tree.specs.Path.{is_bone, step_down, path_to, path_among, below, present_below, node_at, present_at, put_at, node_answer, node_turned}

-- ---- where the node at the path's end stands

abbrev pub where_below : Where → ℕ → Node → Where
where_below w i n = at_child (record { above = where_path w; number = i; present = present_below (stamp_above w) n })

abbrev pub where_end : Where → List ℕ → Node → Where
where_end w [] n = w
where_end w (i ∷ path) n = where_end (where_below w i n) path (child_at i (below n))

pub where_end-path : (w : Where) (path : List ℕ) (n : Node) → where_path (where_end w path n) ≡ where_path w ++ path
where_end-path w [] n = sym (append-nil (where_path w))
where_end-path w (i ∷ path) n = where_end-path (where_below w i n) path (child_at i (below n)) ∙ append_assoc (where_path w) (i ∷ []) path

pub where_end-present : (w : Where) (path : List ℕ) (n : Node) → stamp_above (where_end w path n) ≡ present_at path (stamp_above w) n
where_end-present w [] n = refl
where_end-present w (i ∷ path) n = where_end-present (where_below w i n) path (child_at i (below n))

-- ---- options

abbrev no_steps : List ℕ
no_steps = []

some_if-there : (b : Bool) → is_some (some_if b no_steps) ≡ b
some_if-there true = refl
some_if-there false = refl

some_if-own : (b : Bool) (path : List ℕ) → some_if b no_steps ≡ Some path → b ≡ true
some_if-own true path e = refl
some_if-own false path e = cc

pub some_if-same : (b : Bool) (path : List ℕ) → some_if b no_steps ≡ Some path → [] ≡ path
some_if-same true path e = cc
some_if-same false path e = cc

own_or-there : (own : Bool) (o : Option (List ℕ)) → is_some (if own then Some no_steps else o) ≡ (own || is_some o)
own_or-there true o = refl
own_or-there false o = refl

first-there : (k : ℕ) (a b : Option (List ℕ)) → is_some (first_some (option_map (step_down k) a) b) ≡ (is_some a || is_some b)
first-there k None b = refl
first-there k (Some path) b = refl

or-same : (a b c d : Bool) → a ≡ c → b ≡ d → (a || b) ≡ (c || d)
or-same a b c d first second = rw (first, second) refl

same-first : (i j : ℕ) (p q : List ℕ) → i ∷ p ≡ j ∷ q → i ≡ j
same-first i j p q e = cc

same-rest : (i j : ℕ) (p q : List ℕ) → i ∷ p ≡ j ∷ q → p ≡ q
same-rest i j p q e = cc

-- ---- a name and a skeleton

pub bone-named : (name : Name) (n : Node) → is_bone name (skeleton n) ≡ is_named name n
bone-named (leaf_of_number k) (leaf_node v) = refl
bone-named (leaf_of_number k) (dir_node d ns) = refl
bone-named (bus_of_number k) (leaf_node v) = refl
bone-named (bus_of_number k) (dir_node d ns) = refl

module _ (name : Name) where
  mutual
    pub path_to-there : (n : Node) → is_some (path_to name (skeleton n)) ≡ has_node name n
    path_to-there (leaf_node v) = some_if-there (is_bone name (skeleton (leaf_node v))) ∙ bone-named name (leaf_node v)
    path_to-there (dir_node d ns) = own_or-there (is_bone name (skeleton (dir_node d ns))) (path_among name 0 (skeletons ns)) ∙ or-same _ _ _ _ (bone-named name (dir_node d ns)) (path_among-there 0 ns)

    pub path_among-there : (k : ℕ) (ns : Nodes) → is_some (path_among name k (skeletons ns)) ≡ has_among name ns
    path_among-there k no_nodes = refl
    path_among-there k (more_nodes n ns) = first-there k (path_to name (skeleton n)) (path_among name (k + 1) (skeletons ns)) ∙ or-same _ _ _ _ (path_to-there n) (path_among-there (k + 1) ns)

  -- ---- among children, from number k on: a path begins with the number of the first child that has the node

  module _ {A : Type 0} (read : Where → Node → A) (change : Where → Node → Node) (above : List ℕ) (d : DirValue) where
    abbrev spot : ℕ → Where
    spot i = at_child (spot_in above d i)

    pub record Leads (k : ℕ) (ns : Nodes) (path : List ℕ) (i : ℕ) (rest : List ℕ) : Type 0 where
      pub is : path ≡ (k + i) ∷ rest
      pub there : i < length (children ns)
      pub leads : path_to name (skeleton (child_at i (children ns))) ≡ Some rest
      pub reads : read_among name read above d k ns ≡ read_in name read (spot (k + i)) (child_at i (children ns))
      pub changes : changed_among name change above d k ns ≡ nodes (slice_set (children ns) i (changed_in name change (spot (k + i)) (child_at i (children ns))))

    pub leads-among : (k : ℕ) (ns : Nodes) (path : List ℕ) → path_among name k (skeletons ns) ≡ Some path → (i : ℕ) × (rest : List ℕ) × Leads k ns path i rest
    leads-among k no_nodes path e = cc
    leads-among k (more_nodes n ns) path e =
        elim (path_to name (skeleton n)) as (λ o. path_to name (skeleton n) ≡ o → first_some (option_map (step_down k) o) (path_among name (k + 1) (skeletons ns)) ≡ Some path → (i : ℕ) × (rest : List ℕ) × Leads k (more_nodes n ns) path i rest) [
          | Some rest ↦ λ leads e.
              let has : has_node name n ≡ true = sym (path_to-there n) ∙ ap is_some leads in
              let same : k ∷ rest ≡ path = cc in
              let at : k ≡ k + 0 = omega arith in (
                0,
                rest,
                record {
                  is = sym same ∙ ap (λ i. i ∷ rest) at;
                  there = omega arith;
                  leads = leads;
                  reads = rw has (ap (λ i. read_in name read (spot i) n) at);
                  changes = rw (has, nodes-children ns) (ap (λ i. more_nodes (changed_in name change (spot i) n) ns) at);
                },
              )
          | None ↦ λ leads e.
              let has : has_node name n ≡ false = sym (path_to-there n) ∙ ap is_some leads in
              let found = leads-among (k + 1) ns path e in
              let r = found.2 in
              let at : k + 1 + found.0 ≡ k + suc found.0 = omega arith in (
                suc found.0,
                found.1,
                record {
                  is = r.is ∙ ap (λ i. i ∷ found.1) at;
                  there = omega (arith, r.there);
                  leads = r.leads;
                  reads = rw has (r.reads ∙ ap (λ i. read_in name read (spot i) (child_at found.0 (children ns))) at);
                  changes = rw has (ap (more_nodes n) (r.changes ∙ ap (λ i. nodes (slice_set (children ns) found.0 (changed_in name change (spot i) (child_at found.0 (children ns))))) at));
                },
              )
        ] refl e

-- ---- the node at the path's end is read and changed

module _ (name : Name) {A : Type 0} (read : Where → Node → A) (change : Where → Node → Node) where
  pub record Along (w : Where) (path : List ℕ) (n : Node) : Type 0 where
    pub named : is_named name (node_at path n) ≡ true
    pub reads : read_in name read w n ≡ Some (read (where_end w path n) (node_at path n))
    pub changes : changed_in name change w n ≡ put_at path (change (where_end w path n) (node_at path n)) n

  leaf-along : (w : Where) (v : LeafValue) (path : List ℕ) → path_to name (skeleton (leaf_node v)) ≡ Some path → Along w path (leaf_node v)
  leaf-along w v path e =
      let own : is_named name (leaf_node v) ≡ true = sym (bone-named name (leaf_node v)) ∙ some_if-own _ path e in
      let same : [] ≡ path = some_if-same _ path e in
      rw (sym same) (record { named = own; reads = rw own refl; changes = rw own refl })

  step-along : (w : Where) (d : DirValue) (ns : Nodes) (i : ℕ) (rest : List ℕ) → is_named name (dir_node d ns) ≡ false
      → read_among name read (where_path w) d 0 ns ≡ read_in name read (where_below w i (dir_node d ns)) (child_at i (children ns))
      → changed_among name change (where_path w) d 0 ns ≡ nodes (slice_set (children ns) i (changed_in name change (where_below w i (dir_node d ns)) (child_at i (children ns))))
      → Along (where_below w i (dir_node d ns)) rest (child_at i (children ns)) → Along w (i ∷ rest) (dir_node d ns)
  step-along w d ns i rest other reads changes child = record {
    named = child.named;
    reads = rw other (reads ∙ child.reads);
    changes = rw other (ap (dir_node d) (changes ∙ ap (λ n. nodes (slice_set (children ns) i n)) child.changes));
  }

  leads-along : (w : Where) (d : DirValue) (ns : Nodes) → is_named name (dir_node d ns) ≡ false → (i : ℕ) (rest : List ℕ) (j : ℕ) (path : List ℕ) → Leads name read change (where_path w) d 0 ns (i ∷ rest) j path
      → (path_to name (skeleton (child_at i (children ns))) ≡ Some rest → Along (where_below w i (dir_node d ns)) rest (child_at i (children ns))) → Along w (i ∷ rest) (dir_node d ns)
  leads-along w d ns other i rest j path r child =
      let number : 0 + j ≡ i = same-first _ _ _ _ (sym r.is) in
      let same : j ≡ i = omega (arith, number) in
      let none : 0 + i ≡ i = omega arith in
      let steps : path ≡ rest = same-rest _ _ _ _ (sym r.is) in
      step-along w d ns i rest other (rw none at (rw same at r.reads)) (rw none at (rw same at r.changes)) (child (rw same at (rw steps at r.leads)))

  own-along : (w : Where) (d : DirValue) (ns : Nodes) → is_named name (dir_node d ns) ≡ true → Along w [] (dir_node d ns)
  own-along w d ns named = record { named = named; reads = rw named refl; changes = rw named refl }

  pub along : (w : Where) (path : List ℕ) (n : Node) → path_to name (skeleton n) ≡ Some path → Along w path n
  along w path (leaf_node v) e = leaf-along w v path e
  along w [] (dir_node d ns) e =
      elim (is_bone name (skeleton (dir_node d ns))) as (λ b. is_bone name (skeleton (dir_node d ns)) ≡ b → (if b then Some no_steps else path_among name 0 (skeletons ns)) ≡ Some [] → Along w [] (dir_node d ns)) [
        | true ↦ λ own e. own-along w d ns (sym (bone-named name (dir_node d ns)) ∙ own)
        | false ↦ λ other e.
            let r = (leads-among name read change (where_path w) d 0 ns [] e).2 in
            let no = r.is in
            cc
      ] refl e
  along w (i ∷ rest) (dir_node d ns) e =
      elim (is_bone name (skeleton (dir_node d ns))) as (λ b. is_bone name (skeleton (dir_node d ns)) ≡ b → (if b then Some no_steps else path_among name 0 (skeletons ns)) ≡ Some (i ∷ rest) → Along w (i ∷ rest) (dir_node d ns)) [
        | true ↦ λ own e. cc
        | false ↦ λ other e.
            let found = leads-among name read change (where_path w) d 0 ns (i ∷ rest) e in
            leads-along w d ns (sym (bone-named name (dir_node d ns)) ∙ other) i rest found.0 found.1 found.2 (along (where_below w i (dir_node d ns)) rest (child_at i (children ns)))
      ] refl e

-- ---- a turn of the machine

answer-stands : (code : List CodeWord) (items : ItemTable) (t : Turn) (w : Where) (n : Node) → answer_here code items t w n ≡ node_answer code items t (where_path w) (stamp_above w) n
answer-stands code items t w (leaf_node v) = refl
answer-stands code items t w (dir_node d ns) = refl

turned-stands : (code : List CodeWord) (items : ItemTable) (t : Turn) (w : Where) (n : Node) → node_after code items t w n ≡ node_turned code items t (where_path w) (stamp_above w) n
turned-stands code items t w (leaf_node v) = refl
turned-stands code items t w (dir_node d ns) = refl

-- the root after a turn of the node at this path's end, and what that node answers
abbrev pub root_turned : Turn → List ℕ → MachineValue → Node
root_turned t path m = put_at path (node_turned m.code m.items t path (present_at path stamp_zero (root_of m)) (node_at path (root_of m))) (root_of m)

abbrev pub root_answer : Turn → List ℕ → MachineValue → TurnAnswer
root_answer t path m = node_answer m.code m.items t path (present_at path stamp_zero (root_of m)) (node_at path (root_of m))

pub turn-along : (t : Turn) (path : List ℕ) (m : MachineValue) → path_to (named_by t) (skeleton (root_of m)) ≡ Some path → turn_of t m ≡ record { answer = root_answer t path m; machine = recorded (root_answer t path m) (with_root (root_turned t path m) m) }
unfolding turn_of
turn-along t path m leads =
    let there = along (named_by t) (answer_here m.code m.items t) (node_after m.code m.items t) at_top path (root_of m) leads in
    let w = where_end at_top path (root_of m) in
    let at : where_path w ≡ path = where_end-path at_top path (root_of m) in
    let present : stamp_above w ≡ present_at path stamp_zero (root_of m) = where_end-present at_top path (root_of m) in
    let n = node_at path (root_of m) in
    let answers : turn_answer t m ≡ Some (root_answer t path m) = there.reads ∙ ap Some (answer-stands m.code m.items t w n ∙ rw (at, present) refl) in
    let becomes : turn_root t m ≡ root_turned t path m = there.changes ∙ ap (λ new. put_at path new (root_of m)) (turned-stands m.code m.items t w n ∙ rw (at, present) refl) in
    rw (answers, becomes) refl

pub turn-nowhere : (t : Turn) (m : MachineValue) → path_to (named_by t) (skeleton (root_of m)) ≡ None → turn_of t m ≡ record { answer = TurnAnswer.Empty; machine = m }
turn-nowhere t m nowhere = turn-changes_nothing t m (sym (path_to-there (named_by t) (root_of m)) ∙ ap is_some nowhere)
