-- The turn of one bus of a tree: where the bus is, its parent and its children before and after, and where the copies of an item
-- come from that stand in a part of the tree which has that bus.
-- Proofs alone need it.
use Rattle.std.specs.Prelude.{◌≡◌, ℕ, ◌+◌, ◌*◌, ◌<◌, ◌≤◌, true, false, List, [], ◌∷◌, ◌++◌, length, take}
use Rattle.order_laws.specs.DdmTypes.declared.keys.Stamp.{Stamp}
use Rattle.order_laws.specs.TreeModel.State.States.{is_held}
use Rattle.order_laws.specs.TreeModel.State.Values.{DirValue, Node, Nodes, leaf_node, dir_node, children}
use Rattle.order_laws.specs.TreeModel.State.Leaf.{words_of_item, leaf_hold}
use Rattle.order_laws.specs.TreeModel.State.Directory.{stamp_of}
use Rattle.order_laws.specs.TreeModel.State.Child.{child_hold}
use Rattle.order_laws.specs.TreeModel.State.Place.{Where, at_top, at_child, where_path, spot_in}
use Rattle.order_laws.specs.TreeModel.Turns.Children.{child_at}
use Rattle.order_laws.specs.TreeRules.Order.Copies.{CopyAt, copies_here, inner, handed, erases_in}
use Rattle.order_laws.specs.TreeRules.Order.Claims.{ClaimAt, child_is_exclusive, claim, claims_in, claims_among}
use Rattle.order_laws.specs.TreeRules.Order.Moments.{less_at, moment_at, moment_length, is_under, spot_moment, GoesOn}
use Rattle.order_laws.specs.Moves.LeavesKept.{LeavesKept, leaves_below}
use Rattle.order_laws.specs.Moves.Moved.{In, Moved, AllFrom}
use Rattle.order_laws.specs.TreeRules.Order.Places.{LeafAt, leaf_path, leaf_now, placed_leaves}
use Rattle.std.specs.List.{AllByRecursion}
use Rattle.std.proofs.Common.{◌⊎◌}
use Rattle.order_laws.specs.Moves.ClaimsMoved.{ClaimsFrom}
use Rattle.order_laws.specs.Moves.Parent.{hand_of}

-- the node at this path below another
abbrev pub node_at : List ℕ → Node → Node
node_at [] n = n
node_at (i ∷ path) (leaf_node v) = leaf_node v
node_at (i ∷ path) (dir_node d ns) = node_at path (child_at i (children ns))

-- the path of the bus; its parent and its children before and after
pub record BusTurned : Type 0 where
  pub path : List ℕ
  pub dir : DirValue
  pub kids : Nodes
  pub dir_after : DirValue
  pub kids_after : Nodes

abbrev pub old_moment : BusTurned → List ℕ
old_moment t = moment_at t.path (stamp_of t.dir)

abbrev pub new_moment : BusTurned → List ℕ
new_moment t = moment_at t.path (stamp_of t.dir_after)

-- a leaf holds nothing of the item
abbrev pub IsLeafFree : ℕ → Node → Type 0
IsLeafFree x (leaf_node v) = is_held (leaf_hold x v) ≡ false
IsLeafFree x (dir_node d ns) = Unit {0}

-- a child of the bus holds the item afterwards, which a leaf did not before
abbrev pub HoldsAfter : ℕ → BusTurned → ℕ → Type 0
HoldsAfter x t i = (is_held (child_hold x (child_at i (children t.kids_after))) ≡ true) × IsLeafFree x (child_at i (children t.kids))

abbrev pub MovedBy : ℕ → BusTurned → CopyAt → CopyAt → Type 0
MovedBy x t = Moved t.path (old_moment t) (new_moment t) (HoldsAfter x t)

-- a moment with which that of this stamp begins, or none
pub record IsBoundOf (path : List ℕ) (stamp : Stamp) (b : List ℕ) : Type 0 where
  pub begins : take (length b) (moment_at path stamp) ≡ b
  pub size : 2 * length path ≤ length b + 1

abbrev pub IsBoundAt : Where → List ℕ → Type 0
IsBoundAt at_top b = Unit {0}
IsBoundAt (at_child c) b = IsBoundOf c.above c.present b

-- what a node hands up, wherever it stands; b is the clock of its replies
abbrev pub hand_at : ℕ → Where → List ℕ → Node → List CopyAt
hand_at x at_top b (leaf_node v) = []
hand_at x (at_child c) b (leaf_node v) = inner x c (leaf_node v) ++ copies_here c.above b (words_of_item x v.replies)
hand_at x w b (dir_node d ns) = hand_of x w b d ns

-- a moment goes on from the present one of the bus above
abbrev pub GoesOnAbove : Where → List ℕ → Type 0
GoesOnAbove at_top moment = Unit {0}
GoesOnAbove (at_child c) moment = GoesOn moment (spot_moment c)

-- the claims on the item of a node and of all below it; the top is no child
abbrev pub claims_at : ℕ → Where → Node → List ClaimAt
claims_at x at_top (leaf_node v) = []
claims_at x at_top (dir_node d ns) = claims_among x [] d 0 ns
claims_at x (at_child c) n = claims_in x c n

-- where the node holds the item Exclusive then, it did before, and as far as its bus knows its claim hasn't fallen
abbrev pub OwnKept : ℕ → Where → Node → Node → Type 0
OwnKept x at_top n k = Unit {0}
OwnKept x (at_child c) n k =
    child_is_exclusive x k ≡ true →
    (child_is_exclusive x n ≡ true)
    × (less_at (moment_length (length c.above)) (claim x c k) (claim x c n) ≡ false)

pub record ClaimsAt (x : ℕ) (bus : BusTurned) (w : Where) (n k : Node) : Type 0 where
  pub own : OwnKept x w n k
  pub from : ClaimsFrom bus.path (new_moment bus) (claims_at x w n) (claims_at x w k)

-- of a child of the bus with this path, before and after; s is the present stamp of that bus
abbrev pub KidKept : ℕ → List ℕ → Stamp → ℕ → Node → Node → Type 0
KidKept x above s i n k = OwnKept x (at_child (record { above = above; number = i; present = s })) n k

pub record ClaimsAmong (x : ℕ) (bus : BusTurned) (above : List ℕ) (d : DirValue) (j : ℕ) (ns ms : Nodes) : Type 0 where
  pub many : length (children ms) ≡ length (children ns)
  pub own : (i : ℕ) → i < length (children ns) → KidKept x above (stamp_of d) (j + i) (child_at i (children ns)) (child_at i (children ms))
  pub from : ClaimsFrom bus.path (new_moment bus) (claims_among x above d j ns) (claims_among x above d j ms)

-- each erase of the item inside a child then was there before, or it is of the new moment, and no child holds the item Exclusive
abbrev pub NewErases : ℕ → BusTurned → Type 0
NewErases x t =
    (i : ℕ) → i < length (children t.kids) → (e : List ℕ) →
    In e (erases_in x (spot_in t.path t.dir_after i) (child_at i (children t.kids_after)))
    → In e (erases_in x (spot_in t.path t.dir i) (child_at i (children t.kids)))
    ⊎ ((e ≡ new_moment t)
    × ((j : ℕ) → j < length (children t.kids) →
    child_is_exclusive x (child_at j (children t.kids_after)) ≡ false))

-- a leaf under the bus isn't past the bus's old moment
abbrev pub IsBelowOld : BusTurned → LeafAt → Type 0
IsBelowOld t a = is_under t.path (leaf_path a) ≡ true → GoesOn (leaf_now a) (old_moment t)

-- the bus is that of the node at a path below n, which became k; of `count` items the claims are known
pub record Carries (x count : ℕ) (w : Where) (rest : List ℕ) (n k : Node) : Type 0 where
  pub bus : BusTurned
  pub at : bus.path ≡ where_path w ++ rest
  pub before : node_at rest n ≡ dir_node bus.dir bus.kids
  pub after : node_at rest k ≡ dir_node bus.dir_after bus.kids_after
  pub deep : length bus.path < 4
  pub rises : less_at (moment_length (length bus.path)) (old_moment bus) (new_moment bus) ≡ true
  pub past : GoesOnAbove w (new_moment bus)
  pub moved : (b : List ℕ) → IsBoundAt w b → AllFrom (MovedBy x bus) (hand_at x w b n) (hand_at x w b k)
  pub claims : x < count → ClaimsAt x bus w n k
  pub erases : NewErases x bus
  pub leaves : LeavesKept (leaves_below w n) (leaves_below w k)
  pub nows : AllByRecursion (IsBelowOld bus) (leaves_below w n)

-- the same below one of the children from number j on
pub record CarriesAmong (x count : ℕ) (above : List ℕ) (d : DirValue) (j i : ℕ) (rest : List ℕ) (ns ms : Nodes) : Type 0 where
  pub bus : BusTurned
  pub offset : ℕ
  pub is : i ≡ j + offset
  pub at : bus.path ≡ above ++ i ∷ rest
  pub before : node_at rest (child_at offset (children ns)) ≡ dir_node bus.dir bus.kids
  pub after : node_at rest (child_at offset (children ms)) ≡ dir_node bus.dir_after bus.kids_after
  pub deep : length bus.path < 4
  pub rises : less_at (moment_length (length bus.path)) (old_moment bus) (new_moment bus) ≡ true
  pub past : GoesOn (new_moment bus) (moment_at above (stamp_of d))
  pub moved : (b : List ℕ) → IsBoundOf above (stamp_of d) b → AllFrom (MovedBy x bus) (handed x above b d j ns) (handed x above b d j ms)
  pub claims : x < count → ClaimsAmong x bus above d j ns ms
  pub erases : NewErases x bus
  pub leaves : LeavesKept (placed_leaves above d j ns) (placed_leaves above d j ms)
  pub nows : AllByRecursion (IsBelowOld bus) (placed_leaves above d j ns)
