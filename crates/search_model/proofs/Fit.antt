-- The search of a machine with all turns that do something: they are enough, and each leaf keeps its ways.
-- Letters: m is a machine, t a turn, v a leaf, n a node.
use Rattle.std.proofs.Common.{◌≡◌, Bool, true, List, [], ◌&&◌, refl, sym, ap, subst, ◌∙◌, inl, inr}
use Rattle.std.specs.Prelude.{nat_lt}
use Rattle.std.specs.List.{list_all}
use Rattle.search_model.specs.DdmTypes.declared.turns.Turn.{Turn}
use Rattle.tree_model.specs.State.Values.{LeafValue, Node, Nodes, leaf_node, dir_node, no_nodes, more_nodes, MachineValue, root_of}
use Rattle.tree_model.specs.State.Shape.{Skeleton, Skeletons, leaf_bone, dir_bone, no_bones, more_bones, skeleton, skeletons}
use Rattle.tree_model.specs.Turns.Machine.{leaves_of, leaves_among, turn_of}
use Rattle.tree_model.proofs.FrameKept.{turn-frame}
use Rattle.time_laws.specs.Forget.{forget, puts_of, Alike}
use Rattle.recording_model.specs.Doing.{does_something}
use Rattle.recording_model.proofs.Doing.{turn-rests}
use Rattle.search_laws.specs.Space.{IsOneOf}
use Rattle.search_laws.specs.Rules.{Tried, changes_nothing, does_what, all_others, QuietFirst}
use Rattle.search_laws.proofs.Lists.{true-or-false}
use Rattle.search_laws.proofs.Right.{search-right}
use Rattle.search_model.specs.Tried.{doing_turns}
use Rattle.search_model.specs.Machines.{space_by, whole_space, has_way, has_ways}
use Rattle.search_model.specs.Claims.{WholeSearchIsRight}
use Rattle.search_model.proofs.AlikeTurns.{doing-alike}
use Rattle.search_model.proofs.AlikeSpace.{keeps-alike, ends-stay}
use Rattle.search_model.proofs.Listed.{doing-listed, in-doing}

-- ---- ways

abbrev mutual
  ways_of_bone : Skeleton → Bool → Bool
  ways_of_bone (leaf_bone number sizes) rest = nat_lt 0 sizes.way_count && rest
  ways_of_bone (dir_bone bus level sizes below) rest = ways_of_bones below rest

  ways_of_bones : Skeletons → Bool → Bool
  ways_of_bones no_bones rest = rest
  ways_of_bones (more_bones b bs) rest = ways_of_bone b (ways_of_bones bs rest)

mutual
  ways-bones : (n : Node) (rest : List LeafValue) → list_all has_way (leaves_of n rest) ≡ ways_of_bone (skeleton n) (list_all has_way rest)
  ways-bones (leaf_node v) rest = refl
  ways-bones (dir_node d ns) rest = ways-bones_among ns rest

  ways-bones_among : (ns : Nodes) (rest : List LeafValue) → list_all has_way (leaves_among ns rest) ≡ ways_of_bones (skeletons ns) (list_all has_way rest)
  ways-bones_among no_nodes rest = refl
  ways-bones_among (more_nodes n ns) rest = ways-bones n (leaves_among ns rest) ∙ ap (ways_of_bone (skeleton n)) (ways-bones_among ns rest)

pub turn-ways : (t : Turn) (m : MachineValue) → has_ways m ≡ true → has_ways (turn_of t m).machine ≡ true
unfolding has_ways
turn-ways t m ways = ways-bones (root_of (turn_of t m).machine) [] ∙ ap (λ f. ways_of_bone f.bones true) (turn-frame t m) ∙ sym (ways-bones (root_of m) []) ∙ ways

-- ---- enough turns

module _ (same : MachineValue → MachineValue → Bool) where
  -- where all that do something are tried
  pub doing-tried : (turns : MachineValue → List Turn) (m : MachineValue) → has_ways m ≡ true → turns m ≡ doing_turns m → (t : Turn) → Tried (space_by same turns) Alike m t
  doing-tried turns m ways all t = elim (true-or-false (does_something t m)) [
    | inl does ↦
        let l = doing-listed t m ways does in
        does_what l.turn (subst (λ ts. IsOneOf ts l.turn) (sym all) (in-doing t m l does)) (record { state = ap (λ o. forget o.machine) (sym l.same); puts = ap (λ o. puts_of o.machine) (sym l.same) })
    | inr nothing ↦ changes_nothing (record { state = ap forget (turn-rests t m nothing); puts = ap puts_of (turn-rests t m nothing) })
  ]

  -- no turn is quiet here
  abbrev NeverQuiet : MachineValue → Turn → Type 0
  NeverQuiet m t = ⊥

  doing-enough : QuietFirst (whole_space same) Alike NeverQuiet (λ m. has_ways m ≡ true)
  doing-enough = record {
    stays_fit = turn-ways;
    enough = λ m ways runs. all_others (doing-tried doing_turns m ways refl);
    beside = λ m t u ways quiet. absurd quiet;
    runs = λ m t quiet. absurd quiet;
    moves = λ m t ways quiet. absurd quiet;
  }

pub whole-right : WholeSearchIsRight
whole-right same test most m some ways runs =
    search-right (whole_space same) Alike (keeps-alike same test doing_turns doing-alike) (ends-stay same test doing_turns doing-alike) (NeverQuiet same) (λ k. has_ways k ≡ true) (doing-enough same) most m some ways runs
