-- A turn of the machine changes the node that it names, and what its answer adds.
use Rattle.std.proofs.Common.{◌≡◌, true, false, Some, None, refl, sym, ap, subst, ◌∙◌}
use Rattle.std.specs.Prelude.{is_some}
use Rattle.tree_model.specs.DdmTypes.declared.answers.TurnAnswer.{TurnAnswer}
use Rattle.tree_model.specs.DdmTypes.declared.turns.Turn.{Turn}
use Rattle.tree_model.specs.State.Values.{MachineValue, root_of}
use Rattle.tree_model.specs.State.Place.{at_top}
use Rattle.tree_model.specs.Turns.Tree.{is_named, has_node, ChangedAt}
use Rattle.tree_model.specs.Turns.Machine.{named_by, answer_here, node_after, turn_answer, turn_root, with_root, recorded, turn_of}
use Rattle.tree_model.specs.Laws.{TurnsHere, ChangesOneNode, ChangesNothing}
use Rattle.tree_model.proofs.NamedNode.{read_in-absent, read_in-is_some, turned}

-- the root stays a directory
turn_root-root : (t : Turn) (m : MachineValue) → root_of (with_root (turn_root t m) m) ≡ turn_root t m
turn_root-root t m =
    elim (is_named (named_by t) (root_of m)) as (λ b. is_named (named_by t) (root_of m) ≡ b → root_of (with_root (turn_root t m) m) ≡ turn_root t m) [ true ↦ λ here. rw here refl | false ↦ λ here. rw here refl ] refl

-- what an answer adds is outside of the tree
pub recorded-root : (a : TurnAnswer) (m : MachineValue) → root_of (recorded a m) ≡ root_of m
recorded-root (TurnAnswer.Retired op) m = refl
recorded-root (TurnAnswer.Issued kind x) m = refl
recorded-root (TurnAnswer.Waiting x) m = refl
recorded-root (TurnAnswer.Halted cause) m = refl
recorded-root (TurnAnswer.Granted e) m = refl
recorded-root TurnAnswer.Empty m = refl
recorded-root (TurnAnswer.Busy cause) m = refl

module _ (t : Turn) (m : MachineValue) where
  -- ---- by what is answered

  pub turn-unanswered : turn_answer t m ≡ None → ChangesNothing t m
  unfolding turn_of
  turn-unanswered none = rw none refl

  pub turn-answered : (a : TurnAnswer) → turn_answer t m ≡ Some a → turn_of t m ≡ record { answer = a; machine = recorded a (with_root (turn_root t m) m) }
  unfolding turn_of
  turn-answered a some = rw some refl

  pub turn-root : (a : TurnAnswer) → turn_answer t m ≡ Some a → root_of (turn_of t m).machine ≡ turn_root t m
  turn-root a some = ap (λ o. root_of o.machine) (turn-answered a some) ∙ recorded-root a (with_root (turn_root t m) m) ∙ turn_root-root t m

  -- ---- by whether the node is there

  pub turn-changes_nothing : has_node (named_by t) (root_of m) ≡ false → ChangesNothing t m
  turn-changes_nothing absent = turn-unanswered (read_in-absent (named_by t) (answer_here m.code m.items t) at_top (root_of m) absent)

  answered-changes : (a : TurnAnswer) → turn_answer t m ≡ Some a → ChangesOneNode t m
  answered-changes a some =
      let at = turned (named_by t) (answer_here m.code m.items t) (node_after m.code m.items t) a at_top (root_of m) some in
      let answer : a ≡ (turn_of t m).answer = sym (ap (λ o. o.answer) (turn-answered a some)) in
      let root : turn_root t m ≡ root_of (turn_of t m).machine = sym (turn-root a some) in
      let changed = subst (λ b. ChangedAt (TurnsHere t m b) at_top at.0 (root_of m) (turn_root t m)) answer at.1 in
      (at.0, subst (λ n. ChangedAt (TurnsHere t m (turn_of t m).answer) at_top at.0 (root_of m) n) root changed)

  pub turn-changes_one_node : has_node (named_by t) (root_of m) ≡ true → ChangesOneNode t m
  turn-changes_one_node there =
      elim (turn_answer t m) as (λ o. turn_answer t m ≡ o → ChangesOneNode t m) [
        | None ↦ λ none.
            let some : is_some (turn_answer t m) ≡ true = read_in-is_some (named_by t) (answer_here m.code m.items t) at_top (root_of m) ∙ there in
            cc
        | Some a ↦ λ some. answered-changes a some
      ] refl
