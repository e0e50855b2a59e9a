-- What no bus can see of its children. A change of children that keeps all that a bus reads of them, and goes with all that a bus
-- makes of them, changes no turn: whether the children are changed first or the bus has its turn first, the rest is the same,
-- but for time.
-- Letters: f is a change of each child by its number i, n and m are children, x is an item, s a stamp, o and u what a turn comes
-- to without and with f.
-- To be believed with the laws: it is what they speak of.
use Rattle.std.specs.Prelude.{◌≡◌, ℕ, Bool, List, None, map, if◌then◌else◌}
use Rattle.time_laws.specs.DdmTypes.declared.answers.TxKind.{TxKind}
use Rattle.time_laws.specs.DdmTypes.declared.keys.Stamp.{Stamp}
use Rattle.tree_model.specs.State.Lists.{map_from}
use Rattle.time_laws.specs.FlatModel.Hart.{HartValue}
use Rattle.tree_model.specs.State.Values.{Node, Nodes, leaf_node, dir_node}
use Rattle.tree_model.specs.State.Child.{child_hold, child_waits, child_room, reader_has_place, child_full_for}
use Rattle.tree_model.specs.State.Child.{child_request, child_reply, child_leaving, pending_below, child_given}
use Rattle.tree_model.specs.State.Child.{child_lose, child_take_data, child_take_exclusive, child_answer}
use Rattle.tree_model.specs.State.Child.{child_take_inject, child_request_taken, child_reply_taken, child_give_up}
use Rattle.tree_model.specs.Turns.Grant.{Outcome}
use Rattle.time_laws.specs.Forget.{forget_dir, forget_node}

-- all that a bus reads of a child is the same of both
pub record SeenAlike (n m : Node) : Type 0 where
  pub hold : (x : ℕ) → child_hold x n ≡ child_hold x m
  pub waits : (x : ℕ) → child_waits x n ≡ child_waits x m
  pub room : (x : ℕ) → child_room x n ≡ child_room x m
  pub reader_place : (x : ℕ) → reader_has_place x n ≡ reader_has_place x m
  pub full : (kind : TxKind) (x : ℕ) → child_full_for kind x n ≡ child_full_for kind x m
  pub request : child_request n ≡ child_request m
  pub reply : child_reply n ≡ child_reply m
  pub leaving : (choice : ℕ) → child_leaving choice n ≡ child_leaving choice m
  pub below : (x : ℕ) → pending_below x n ≡ pending_below x m
  pub given : (x : ℕ) → child_given x n ≡ child_given x m

module _ (f : ℕ → Node → Node) where
  -- f goes with what a bus makes of a child, but for time
  abbrev GoesWith : (Node → Node) → Type 0
  GoesWith told = (i : ℕ) (n : Node) → forget_node (f i (told n)) ≡ forget_node (told (f i n))

  pub record Unseen : Type 0 where
    pub seen : (i : ℕ) (n : Node) → SeenAlike n (f i n)
    pub lose : (x : ℕ) (s : Stamp) → GoesWith (child_lose x s)
    pub take_data : (x : ℕ) (words : List ℕ) (s : Stamp) → GoesWith (child_take_data x words s)
    pub take_exclusive : (x : ℕ) (s : Stamp) → GoesWith (child_take_exclusive x s)
    pub answer : (x : ℕ) (s : Stamp) → GoesWith (child_answer x s)
    pub take_inject : (x : ℕ) (words : List ℕ) (s : Stamp) → GoesWith (child_take_inject x words s)
    pub request_taken : GoesWith child_request_taken
    pub reply_taken : GoesWith child_reply_taken
    pub give_up : (x : ℕ) → GoesWith (child_give_up x)

  -- the same answer, the same parent but for time, and f of each child but for time
  pub record ChangedAlone (o u : Outcome) : Type 0 where
    pub answer : o.answer ≡ u.answer
    pub parent : forget_dir o.parent ≡ forget_dir u.parent
    pub kids : map forget_node (map_from f 0 o.kids) ≡ map forget_node u.kids

-- What a bus doesn't see of a child: of a leaf its hart, how many instructions that has completed, and that its reservation ends;
-- of a directory all that is below it.
abbrev pub with_inside : HartValue → ℕ → Bool → (Nodes → Nodes) → Node → Node
with_inside hart done ends below (leaf_node v) =
    leaf_node (record v { hart = hart; done = done; reservation = if ends then None else v.reservation })
with_inside hart done ends below (dir_node d ns) = dir_node d (below ns)
