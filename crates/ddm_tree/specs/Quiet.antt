-- Turns of buses that find nothing, and of harts that are idle: what a machine remembers of them, so that it needn't look.
-- Letters: n is a node, v a leaf, d a directory over the nodes ns, t a turn, k and j numbers of buses or harts, c a child, e and f what is
-- known under a number, p and q paths, near the numbers of the leaves near a path, busy whether a turn is counted as a busy one, a its
-- answer.
-- To be believed with the contracts: it is what a machine remembers of its buses.
use Rattle.std.specs.Prelude.{◌≡◌, ◌≢◌, ◌<◌, ◌⊎◌, ℕ, ◌+◌, ◌*◌, Bool, true, false, List, [], ◌∷◌, ◌++◌, Option, Some}
use Rattle.std.specs.Prelude.{None, ◌||◌, is_none, length, nat_eq, nat_lt, slice_get, if◌then◌else◌, ⊤}
use Rattle.ddm_tree.specs.DdmTypes.declared.answers.Place.{Place}
use Rattle.ddm_tree.specs.DdmTypes.declared.answers.TurnAnswer.{TurnAnswer}
use Rattle.ddm_tree.specs.DdmTypes.declared.turns.Turn.{Turn}
use Rattle.ddm_tree.specs.TreeModel.declared.BusTurn.{BusTurn}
use Rattle.ddm_tree.specs.TreeModel.State.Lists.{first_of}
use Rattle.ddm_tree.specs.TreeModel.State.Values.{Node, leaf_node, dir_node, children}
use Rattle.ddm_tree.specs.TreeModel.State.Child.{child_request, child_reply, child_leaving}
use Rattle.ddm_tree.specs.TreeModel.Turns.Children.{child_at}
use Rattle.ddm_tree.specs.TreeModel.Turns.Tree.{bus_of_number}
use Rattle.ddm_tree.specs.declared.idle.Idle.{Idle}
use Rattle.ddm_tree.specs.declared.quiet.Known.{Known}
use Rattle.ddm_tree.specs.Path.{node_at}
use Rattle.ddm_tree.specs.Ready.{Leads}

-- the turn finds nothing on the bus below this directory; a leaf has none
abbrev pub finds_nothing : BusTurn → Node → Bool
finds_nothing t (leaf_node v) = false
finds_nothing BusTurn.Down (dir_node d ns) = is_none (first_of d.down)
finds_nothing (BusTurn.Request c) (dir_node d ns) = is_none (child_request (child_at c (children ns)))
finds_nothing (BusTurn.Reply c) (dir_node d ns) = is_none (child_reply (child_at c (children ns)))
finds_nothing (BusTurn.Leave c choice) (dir_node d ns) = is_none (child_leaving choice (child_at c (children ns)))

-- ---- what is known under a number, of the turns of the bus and of the hart that have it: rows of 16 places, one for the hart, one for
-- Down, and one each for requests, replies and copies that leave, with a place for each child of the bus.

abbrev pub Entry : Type 0
Entry = List Known

abbrev pub row_of : BusTurn → ℕ
row_of BusTurn.Down = 1
row_of (BusTurn.Request c) = 2
row_of (BusTurn.Reply c) = 3
row_of (BusTurn.Leave c choice) = 4

abbrev pub column_of : BusTurn → ℕ
column_of BusTurn.Down = 0
column_of (BusTurn.Request c) = c
column_of (BusTurn.Reply c) = c
column_of (BusTurn.Leave c choice) = c

abbrev pub known_there : Option Known → Known
known_there None = Known.Nothing
known_there (Some known) = known

abbrev pub entry_there : Option Entry → Entry
entry_there None = []
entry_there (Some e) = e

-- what is known of a turn, if it is: whether it is counted as a busy one
abbrev pub busy_if : Known → Option Bool
busy_if Known.Nothing = None
busy_if Known.Quiet = Some false
busy_if Known.Busy = Some true

-- a row has no more than 16 places
abbrev pub busy_at : ℕ → ℕ → Entry → Option Bool
busy_at row column e = if nat_lt column 16 then busy_if (known_there (slice_get e (row * 16 + column))) else None

abbrev pub busy_of : BusTurn → Entry → Option Bool
busy_of t e = busy_at (row_of t) (column_of t) e

-- a turn that finds nothing, or doesn't
abbrev pub quiet_if : Bool → Known
quiet_if false = Known.Nothing
quiet_if true = Known.Quiet

-- whatever is known of this turn of the bus is so at this node, and it isn't a busy one
abbrev pub IsRight : BusTurn → Entry → Node → Type 0
IsRight t e n = (busy : Bool) → busy_of t e ≡ Some busy → (busy ≡ false) × (finds_nothing t n ≡ true)

-- so is all that is known of the bus
pub record IsQuietOf (e : Entry) (n : Node) : Type 0 where
  pub each : (t : BusTurn) → IsRight t e n

-- whatever the bus above finds nothing of at the one, it finds nothing of at the other
pub record KeepsQuiet (n after : Node) : Type 0 where
  pub request : is_none (child_request n) ≡ true → is_none (child_request after) ≡ true
  pub reply : is_none (child_reply n) ≡ true → is_none (child_reply after) ≡ true
  pub leaving : (choice : ℕ) → is_none (child_leaving choice n) ≡ true → is_none (child_leaving choice after) ≡ true

-- ---- what a machine remembers: an entry for each number of a bus or a hart

abbrev pub entry_at : ℕ → List Entry → Entry
entry_at k known = entry_there (slice_get known k)

abbrev pub number_of : Turn → ℕ
number_of (Turn.Hart hart victim) = hart
number_of (Turn.Down bus) = bus
number_of (Turn.Request bus child) = bus
number_of (Turn.Reply bus child) = bus
number_of (Turn.Leave bus child choice) = bus

abbrev pub turn_row : Turn → ℕ
turn_row (Turn.Hart hart victim) = 0
turn_row (Turn.Down bus) = 1
turn_row (Turn.Request bus child) = 2
turn_row (Turn.Reply bus child) = 3
turn_row (Turn.Leave bus child choice) = 4

abbrev pub turn_column : Turn → ℕ
turn_column (Turn.Hart hart victim) = 0
turn_column (Turn.Down bus) = 0
turn_column (Turn.Request bus child) = child
turn_column (Turn.Reply bus child) = child
turn_column (Turn.Leave bus child choice) = child

abbrev pub known_as : Turn → List Entry → Option Bool
known_as t known = busy_at (turn_row t) (turn_column t) (entry_at (number_of t) known)

-- what is remembered of the buses below a node is so there, and so where these paths lead below another one
pub record AreQuiet (known : List Entry) (n after : Node) : Type 0 where
  pub each : (k : ℕ) (path : List ℕ) → Leads (bus_of_number k) path n → IsQuietOf (entry_at k known) (node_at path after)

-- of a hart of which this is known, whether its turns are counted as busy ones
abbrev pub idle_as : Option Idle → Option Bool
idle_as None = None
idle_as (Some (Idle.Waits x)) = Some false
idle_as (Some (Idle.BufferFull leaf)) = Some true
idle_as (Some (Idle.Halted cause)) = Some false

abbrev pub idle_as_there : Option (Option Idle) → Option Bool
idle_as_there None = None
idle_as_there (Some known) = idle_as known

abbrev pub hart_as : ℕ → List Entry → Option Bool
hart_as k known = busy_at 0 0 (entry_at k known)

-- whatever is known of a hart by the one is so by the other
pub record HartsAgree (known : List Entry) (idle : List (Option Idle)) : Type 0 where
  pub each : (k : ℕ) (busy : Bool) → hart_as k known ≡ Some busy → idle_as_there (slice_get idle k) ≡ Some busy

-- nothing is remembered
pub record IsBlank (known : List Entry) : Type 0 where
  pub each : (k row column : ℕ) → busy_at row column (entry_at k known) ≡ None

-- ---- what is learned anew after a turn

-- of the turns of a bus the same is known
pub record AreSame (e f : Entry) : Type 0 where
  pub each : (t : BusTurn) → busy_of t f ≡ busy_of t e

pub record KeepsBuses (before after : List Entry) : Type 0 where
  pub each : (k : ℕ) → AreSame (entry_at k before) (entry_at k after)

-- and of the turns of every hart
pub record KeepsHarts (before after : List Entry) : Type 0 where
  pub each : (j : ℕ) → hart_as j after ≡ hart_as j before

-- what is known of a turn is as before, and the turn isn't one of these; or it is right at this node
abbrev pub IsLearned : Type 0 → BusTurn → Node → Entry → Entry → Type 0
IsLearned Among t n e f = ((busy_of t f ≡ busy_of t e) × (Among → ⊥)) ⊎ IsRight t f n

-- of each of these turns of a bus
pub record AreLearned (Among : BusTurn → Type 0) (n : Node) (e f : Entry) : Type 0 where
  pub each : (t : BusTurn) → IsLearned (Among t) t n e f
  pub hart : busy_at 0 0 f ≡ busy_at 0 0 e

-- the number of the bus below a node; a leaf has none
abbrev pub bus_in : Node → Option ℕ
bus_in (leaf_node v) = None
bus_in (dir_node d ns) = Some d.bus

-- what is known of a turn is right of a bus of this number that a path leads to
pub record IsRightThere (k : ℕ) (t : BusTurn) (n : Node) (known : List Entry) : Type 0 where
  pub path : List ℕ
  pub number : bus_in (node_at path n) ≡ Some k
  pub right : IsRight t (entry_at k known) (node_at path n)

-- or it is as before, and no bus of this number below the node has the turn among these
pub record IsAsBefore (Among : List ℕ → BusTurn → Type 0) (k : ℕ) (t : BusTurn) (n : Node) (before after : List Entry) : Type 0 where
  pub same : busy_of t (entry_at k after) ≡ busy_of t (entry_at k before)
  pub none : (path : List ℕ) → bus_in (node_at path n) ≡ Some k → Among path t → ⊥

-- of each of these turns of the buses below a node, by the path to the bus
pub record AreLearnedBelow (Among : List ℕ → BusTurn → Type 0) (n : Node) (before after : List Entry) : Type 0 where
  pub each : (k : ℕ) (t : BusTurn) → IsAsBefore Among k t n before after ⊎ IsRightThere k t n after

-- the turn is one that the child shows its bus
abbrev pub OfChild : ℕ → BusTurn → Type 0
OfChild c BusTurn.Down = ⊥
OfChild c (BusTurn.Request child) = child ≡ c
OfChild c (BusTurn.Reply child) = child ≡ c
OfChild c (BusTurn.Leave child choice) = child ≡ c

-- where a grant came from or went to is this child, or may be
abbrev pub may_be_child : ℕ → Place → Bool
may_be_child c Place.Parent = false
may_be_child c (Place.Child k) = nat_eq c k
may_be_child c Place.Parking = false
may_be_child c Place.All = true
may_be_child c Place.Gone = false
may_be_child c Place.Joined = false
may_be_child c Place.Readers = true

-- a turn of a bus that answers so may have changed this child
abbrev pub touches_child : ℕ → TurnAnswer → Bool
touches_child c (TurnAnswer.Retired op) = false
touches_child c (TurnAnswer.Issued kind x) = false
touches_child c (TurnAnswer.Waiting x) = false
touches_child c (TurnAnswer.Halted cause) = false
touches_child c (TurnAnswer.Granted entry) = may_be_child c entry.source || may_be_child c entry.taker
touches_child c TurnAnswer.Empty = false
touches_child c (TurnAnswer.Busy cause) = false

-- what a turn of the same bus finds: what comes down, or what such a child shows
abbrev pub OfTouched : TurnAnswer → BusTurn → Type 0
OfTouched a BusTurn.Down = ⊤
OfTouched a (BusTurn.Request c) = touches_child c a ≡ true
OfTouched a (BusTurn.Reply c) = touches_child c a ≡ true
OfTouched a (BusTurn.Leave c choice) = touches_child c a ≡ true

-- the turns of a bus, by its path q, of which a turn of the leaf or bus at the path p that answers so may have changed what they find:
-- those of the bus itself, those that it shows the bus above, and what comes down to the bus below a child
abbrev pub IsTouched : TurnAnswer → List ℕ → List ℕ → BusTurn → Type 0
IsTouched a p q t =
    ((q ≡ p) × OfTouched a t)
    ⊎ (((c : ℕ) × (p ≡ q ++ c ∷ []) × OfChild c t)
    ⊎ ((c : ℕ) × (q ≡ p ++ c ∷ []) × (touches_child c a ≡ true) × (t ≡ BusTurn.Down)))

-- the turn is one that a child of this number shows its bus, if there is a number
abbrev pub OfNamed : Option ℕ → BusTurn → Type 0
OfNamed named t = (c : ℕ) × (named ≡ Some c) × OfChild c t

-- what comes down to a bus, or what one of two children shows it
abbrev pub OfTwo : Option ℕ → Option ℕ → BusTurn → Type 0
OfTwo first second t = (t ≡ BusTurn.Down) ⊎ (OfNamed first t ⊎ OfNamed second t)

-- a turn that answers so may have changed what the bus above, or another one, finds
abbrev pub touches : TurnAnswer → Bool
touches (TurnAnswer.Retired op) = false
touches (TurnAnswer.Issued kind x) = true
touches (TurnAnswer.Waiting x) = false
touches (TurnAnswer.Halted cause) = false
touches (TurnAnswer.Granted entry) = true
touches TurnAnswer.Empty = false
touches (TurnAnswer.Busy cause) = false

-- the turn at this path answered so
abbrev pub IsTouchedBy : TurnAnswer → List ℕ → List ℕ → BusTurn → Type 0
IsTouchedBy a p q t = (touches a ≡ true) × IsTouched a p q t

-- ---- the leaves near a bus

-- neither path is the other's, nor one of its children's
pub record AreApart (q p : List ℕ) : Type 0 where
  pub other : q ≡ p → ⊥
  pub parent : (c : ℕ) → p ≡ q ++ c ∷ [] → ⊥
  pub child : (c : ℕ) → q ≡ p ++ c ∷ [] → ⊥

-- k is none of the first of these numbers
abbrev pub IsNoneOf : ℕ → ℕ → List ℕ → Type 0
IsNoneOf k count near = (i : ℕ) → i < count → slice_get near i ≡ Some k → ⊥

-- these are near a path, by their numbers: each other one is apart from it
pub record IsNear (p near : List ℕ) (paths : List (List ℕ)) : Type 0 where
  pub others : (k : ℕ) (q : List ℕ) → slice_get paths k ≡ Some q → IsNoneOf k (length near) near → AreApart q p

-- there is a list of those near each path
pub record AreNear (nears from paths : List (List ℕ)) : Type 0 where
  pub as_many : length nears ≡ length from
  pub each : (m : ℕ) (p near : List ℕ) → slice_get from m ≡ Some p → slice_get nears m ≡ Some near → IsNear p near paths

-- ---- harts

-- of a hart, what is known of its turns
pub record IsHartNoted (k : ℕ) (known : Option Bool) (before after : List Entry) : Type 0 where
  pub own : (busy : Bool) → hart_as k after ≡ Some busy → known ≡ Some busy
  pub others : (j : ℕ) → j ≢ k → hart_as j after ≡ hart_as j before
  pub buses : KeepsBuses before after

-- how the answer of a turn that may be passed is counted: as a turn alone, or as a busy one too. Nothing completed, nothing was asked
-- for, and nothing was granted.
abbrev pub passed_as : TurnAnswer → Option Bool
passed_as (TurnAnswer.Retired op) = None
passed_as (TurnAnswer.Issued kind x) = None
passed_as (TurnAnswer.Waiting x) = Some false
passed_as (TurnAnswer.Halted cause) = Some false
passed_as (TurnAnswer.Granted entry) = None
passed_as TurnAnswer.Empty = Some false
passed_as (TurnAnswer.Busy cause) = Some true

-- the turn of a hart, and not of a bus
abbrev pub is_hart_turn : Turn → Bool
is_hart_turn (Turn.Hart hart victim) = true
is_hart_turn (Turn.Down bus) = false
is_hart_turn (Turn.Request bus child) = false
is_hart_turn (Turn.Reply bus child) = false
is_hart_turn (Turn.Leave bus child choice) = false
