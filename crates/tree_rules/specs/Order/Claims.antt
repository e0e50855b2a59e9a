-- The claims on an item: since when a leaf or directory has it Exclusive.
-- To be believed where a rule is relied on; the order of the witness needs no reader here.
use Rattle.std.specs.Prelude.{ℕ, ◌+◌, Bool, ◌||◌, List, [], ◌∷◌, ◌++◌, Option, Some, None, unwrap_or, if◌then◌else◌}
use Rattle.tree_rules.specs.DdmTypes.declared.answers.TxKind.TheVariants.{ExclusiveTx, InjectTx}
use Rattle.tree_model.specs.State.Lists.{first_some, some_if}
use Rattle.tree_model.specs.State.Kinds.{is_kind}
use Rattle.tree_model.specs.State.States.{is_exclusive}
use Rattle.tree_model.specs.State.Values.{DownValue, DirValue, Node, Nodes, leaf_node, dir_node, no_nodes, more_nodes, MachineValue}
use Rattle.tree_model.specs.State.Directory.{queue_of}
use Rattle.tree_model.specs.State.Child.{child_hold}
use Rattle.tree_model.specs.State.Place.{Spot, spot_path, spot_in}
use Rattle.tree_rules.specs.Order.Moments.{moment_at, spot_moment}

abbrev pub gives_exclusive : DownValue → Bool
gives_exclusive e = is_kind ExclusiveTx e.kind || is_kind InjectTx e.kind

-- the moment of the last exclusive or inject of a queue, on the bus of this path
abbrev pub last_exclusive : List ℕ → List DownValue → Option (List ℕ)
last_exclusive above [] = None
last_exclusive above (e ∷ es) = first_some (last_exclusive above es) (some_if (gives_exclusive e) (moment_at above e.stamp))

abbrev pub child_is_exclusive : ℕ → Node → Bool
child_is_exclusive x n = is_exclusive (child_hold x n)

abbrev mutual
  -- The claim on x of a child that holds it Exclusive. For a leaf it is the present moment of its bus. For a directory it is
  -- the moment of the last exclusive or inject of x in its down list; else the claim of the first of its children that holds
  -- x Exclusive; else the moment of the last stamp that its own bus took over.
  pub claim : ℕ → Spot → Node → List ℕ
  claim x c (leaf_node v) = spot_moment c
  claim x c (dir_node d ns) =
      unwrap_or (first_some (last_exclusive c.above (queue_of x d.down)) (first_claim x (spot_path c) d 0 ns))
      (moment_at c.above d.epoch)

  -- the claim of the first child that holds x Exclusive, from child i on
  pub first_claim : ℕ → List ℕ → DirValue → ℕ → Nodes → Option (List ℕ)
  first_claim x path d i no_nodes = None
  first_claim x path d i (more_nodes n ns) =
      if child_is_exclusive x n then Some (claim x (spot_in path d i) n) else first_claim x path d (i + 1) ns

-- a claim with the path of its child
pub record ClaimAt : Type 0 where
  pub child : List ℕ
  pub moment : List ℕ

abbrev pub claim_here : ℕ → Spot → Node → List ℕ → List ClaimAt
claim_here x c n moment = if child_is_exclusive x n then record { child = spot_path c; moment = moment } ∷ [] else []

abbrev mutual
  -- the claims on x of a node and of all below it
  pub claims_in : ℕ → Spot → Node → List ClaimAt
  claims_in x c (leaf_node v) = claim_here x c (leaf_node v) (claim x c (leaf_node v))
  claims_in x c (dir_node d ns) = claim_here x c (dir_node d ns) (claim x c (dir_node d ns)) ++ claims_among x (spot_path c) d 0 ns

  pub claims_among : ℕ → List ℕ → DirValue → ℕ → Nodes → List ClaimAt
  claims_among x path d i no_nodes = []
  claims_among x path d i (more_nodes n ns) = claims_in x (spot_in path d i) n ++ claims_among x path d (i + 1) ns

-- the claims on x of every leaf and directory of a machine that holds it Exclusive, without the top
unfoldable pub claims_of : ℕ → MachineValue → List ClaimAt
claims_of x m = claims_among x [] m.top 0 m.kids
