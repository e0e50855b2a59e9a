-- The walk: the turns of buses that serve what one leaf asks for, in a machine at rest otherwise.
--
-- A read goes up from the leaf to the first bus below which another child holds the item. There that child's side is
-- asked, down to a leaf that has it; the copy comes up to that bus, across, and down to the leaf. An erase goes up to
-- the first bus whose parent holds the item Exclusive. On each bus on the way all other copies are erased at once,
-- level by level, before it goes on; then exclusive comes down to the leaf. So a list has one entry at a time, and at
-- the end nothing is under way.
--
-- Letters: h is the leaf, x the item, n a part of the tree, ns are children of a bus, c and k child numbers.
-- To be believed: it is what is printed.
use Rattle.std.specs.Prelude.{ℕ, Bool, List, [], ◌∷◌, ◌++◌, Option, None, Some, slice_index_or, slice_set, if◌then◌else◌}
use Rattle.std.specs.List.{flat_map}
use Rattle.serving_model.specs.DdmTypes.declared.turns.Turn.{Turn}
use Rattle.serving_model.specs.TreeModel.State.Lists.{find_from}
use Rattle.serving_model.specs.TreeModel.State.States.{is_held, is_exclusive}
use Rattle.serving_model.specs.TreeModel.State.Values.{Node, Nodes, leaf_node, dir_node, no_nodes, more_nodes, children}
use Rattle.serving_model.specs.TreeModel.State.Directory.{dir_hold}
use Rattle.serving_model.specs.TreeModel.State.Child.{child_hold, child_holds}
use Rattle.serving_model.specs.TreeModel.Turns.Children.{child_at, holds_item, other_holds}
use Rattle.serving_model.specs.TreeModel.Turns.Tree.{leaf_of_number, has_node}

-- ---- children

-- child i is over the leaf
abbrev pub is_over : ℕ → ℕ → Node → Bool
is_over h i n = has_node (leaf_of_number h) n

abbrev pub child_over : ℕ → Nodes → Option ℕ
child_over h ns = find_from (is_over h) 0 (children ns)

-- the lowest child that holds the item, and the lowest other than c
abbrev pub holder : ℕ → Nodes → Option ℕ
holder x ns = find_from (holds_item x) 0 (children ns)

abbrev pub other_holder : ℕ → ℕ → Nodes → Option ℕ
other_holder c x ns = find_from (other_holds c x) 0 (children ns)

-- turns by the number of a child, where there is such a child
abbrev pub turns_by : (ℕ → List Turn) → Option ℕ → List Turn
turns_by turns None = []
turns_by turns (Some c) = turns c

-- those of one child, and those of all others, of the turns of each
abbrev pub turns_of_child : ℕ → List (List Turn) → List Turn
turns_of_child c each = slice_index_or each c []

abbrev pub turns_of_others : ℕ → List (List Turn) → List Turn
turns_of_others c each = flat_map (λ turns. turns) (slice_set each c [])

-- ---- down to the leaf

-- what comes to the leaf, data or exclusive, comes down on each bus of this part that is over the leaf
abbrev mutual
  pub take_turns : ℕ → Node → List Turn
  take_turns h (leaf_node v) = []
  take_turns h (dir_node d ns) = Turn.Down d.bus ∷ turns_by (λ c. turns_of_child c (takes h ns)) (child_over h ns)

  pub takes : ℕ → Nodes → List (List Turn)
  takes h no_nodes = []
  takes h (more_nodes n ns) = take_turns h n ∷ takes h ns

-- ---- a read

-- the read goes up on each bus of this part that is over the leaf
abbrev mutual
  pub ask_turns : ℕ → Node → List Turn
  ask_turns h (leaf_node v) = []
  ask_turns h (dir_node d ns) = turns_by (λ c. turns_of_child c (asks h ns) ++ Turn.Request d.bus c ∷ []) (child_over h ns)

  pub asks : ℕ → Nodes → List (List Turn)
  asks h no_nodes = []
  asks h (more_nodes n ns) = ask_turns h n ∷ asks h ns

-- a part that was told to answer: the read comes down to the lowest leaf that holds the item, and its reply goes up
abbrev mutual
  pub give_turns : ℕ → Node → List Turn
  give_turns x (leaf_node v) = []
  give_turns x (dir_node d ns) = Turn.Down d.bus ∷ turns_by (λ k. turns_of_child k (gives x ns) ++ Turn.Reply d.bus k ∷ []) (holder x ns)

  pub gives : ℕ → Nodes → List (List Turn)
  gives x no_nodes = []
  gives x (more_nodes n ns) = give_turns x n ∷ gives x ns

-- from child c, which is over the leaf, to another child, and back
abbrev pub read_across : ℕ → ℕ → ℕ → ℕ → Nodes → List Turn
read_across h x bus c ns =
    turns_of_child c (asks h ns) ++ Turn.Request bus c
    ∷ turns_by (λ k. turns_of_child k (gives x ns) ++ Turn.Reply bus k ∷ turns_of_child c (takes h ns))
    (other_holder c x ns)

-- the bus where the read turns, the lowest over the leaf with a child that holds the item
abbrev mutual
  pub read_turns : ℕ → ℕ → Node → List Turn
  read_turns h x (leaf_node v) = []
  read_turns h x (dir_node d ns) =
      turns_by
      (λ c. if child_holds x (child_at c (children ns)) then turns_of_child c (reads h x ns)
      else read_across h x d.bus c ns) (child_over h ns)

  pub reads : ℕ → ℕ → Nodes → List (List Turn)
  reads h x no_nodes = []
  reads h x (more_nodes n ns) = read_turns h x n ∷ reads h x ns

-- ---- an erase

-- a part that was told to lose the item: where it held it, the erase comes down on each bus below which there is a copy
abbrev mutual
  pub lose_turns : ℕ → Node → List Turn
  lose_turns x (leaf_node v) = []
  lose_turns x (dir_node d ns) = if is_held (dir_hold x d) then Turn.Down d.bus ∷ flat_map (λ turns. turns) (loses x ns) else []

  pub loses : ℕ → Nodes → List (List Turn)
  loses x no_nodes = []
  loses x (more_nodes n ns) = lose_turns x n ∷ loses x ns

-- the erase goes up on each bus of this part that is over the leaf, and all other copies below it are erased
abbrev mutual
  pub clear_turns : ℕ → ℕ → Node → List Turn
  clear_turns h x (leaf_node v) = []
  clear_turns h x (dir_node d ns) =
      turns_by (λ c. turns_of_child c (clears h x ns) ++ Turn.Request d.bus c ∷ turns_of_others c (loses x ns))
      (child_over h ns)

  pub clears : ℕ → ℕ → Nodes → List (List Turn)
  clears h x no_nodes = []
  clears h x (more_nodes n ns) = clear_turns h x n ∷ clears h x ns

-- the lowest bus over the leaf whose parent holds the item Exclusive: the erase goes up to it, and exclusive comes down
abbrev mutual
  pub erase_turns : ℕ → ℕ → Node → List Turn
  erase_turns h x (leaf_node v) = []
  erase_turns h x (dir_node d ns) =
      turns_by (λ c. if is_exclusive (child_hold x (child_at c (children ns))) then turns_of_child c (erases h x ns)
      else clear_turns h x (dir_node d ns) ++ Turn.Down d.bus ∷ turns_of_child c (takes h ns)) (child_over h ns)

  pub erases : ℕ → ℕ → Nodes → List (List Turn)
  erases h x no_nodes = []
  erases h x (more_nodes n ns) = erase_turns h x n ∷ erases h x ns
