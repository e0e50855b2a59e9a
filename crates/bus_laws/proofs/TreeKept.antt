-- A turn keeps the rules of every bus, and so does a run.
use Rattle.std.proofs.Common.{◌≡◌, ℕ, ◌<◌, true, false, List, [], ◌∷◌, map, refl, sym, ap, subst}
use Rattle.std.specs.List.{AllByRecursion}
use Rattle.bus_laws.specs.DdmTypes.declared.answers.TurnAnswer.{TurnAnswer}
use Rattle.bus_laws.specs.DdmTypes.declared.turns.Turn.{Turn}
use Rattle.bus_laws.specs.DdmTypes.Keys.{stamp_zero}
use Rattle.bus_laws.specs.DdmTypes.ItemTable.{item_count}
use Rattle.bus_laws.specs.TreeModel.State.Values.{Node, Nodes, leaf_node, dir_node, no_nodes, more_nodes, nodes, children, MachineValue, root_of}
use Rattle.bus_laws.specs.TreeModel.State.Place.{Where, at_top, stamp_above, key_at_leaf}
use Rattle.bus_laws.specs.TreeModel.Turns.Grant.{Outcome}
use Rattle.bus_laws.specs.TreeModel.Turns.Bus.{bus_step}
use Rattle.bus_laws.specs.TreeModel.Turns.Tree.{has_node, ChangedAt}
use Rattle.bus_laws.specs.TreeModel.Turns.Machine.{named_by, node_after, bus_turn_of, victim_of, turn_of, run_of}
use Rattle.bus_laws.specs.TreeModel.Laws.{TurnsHere, kept_of}
use Rattle.bus_laws.proofs.TreeModel.Changed.{changed-holds}
use Rattle.bus_laws.proofs.TreeModel.Children.{children-nodes, nodes-children}
use Rattle.bus_laws.proofs.TreeModel.BusKeeps.{bus_step-keeps}
use Rattle.bus_laws.proofs.TreeModel.TurnChanges.{turn-changes_nothing, turn-changes_one_node}
use Rattle.bus_laws.proofs.TreeModel.FrameKept.{turn-frame}
use Rattle.tree_rules.specs.Bus.Faces.{parent_face}
use Rattle.tree_rules.specs.Bus.Rules.{IsBusOk, IsChildOk, IsTreeOk, AreTreesOk, IsMachineOk, items_of_machine}
use Rattle.bus_laws.specs.KeepsBus.{as_before, IsTopBusOk, KeepsBus}
use Rattle.bus_laws.proofs.HartTurns.{leaf_step-keeps_rules}
use Rattle.bus_laws.proofs.BusKept.{bus-keeps}
use Rattle.bus_laws.proofs.TreeSeen.{IsSeenAs, OneSeen, seen_first, seen_later, IsBusOk-above, top_holds-above}

-- ---- a bus, its children, and what is below them

child-of : (n : ℕ) (m : Node) → IsTreeOk n m → IsChildOk n m
child-of n (leaf_node v) ok = ok
child-of n (dir_node d ns) ok = ok.0

children-of : (n : ℕ) (ns : Nodes) → AreTreesOk n ns → AllByRecursion (IsChildOk n) (children ns)
children-of n no_nodes ok = tt
children-of n (more_nodes m ns) ok = (child-of n m ok.0, children-of n ns ok.1)

-- a child that keeps its own rules, over what was there before
rejoin : (n : ℕ) (x y : Node) → kept_of y ≡ kept_of x → IsTreeOk n x → IsChildOk n y → IsTreeOk n y
rejoin n (leaf_node v) (leaf_node w) same ok kid = kid
rejoin n (leaf_node v) (dir_node e ms) same ok kid = cc
rejoin n (dir_node d ns) (leaf_node w) same ok kid = cc
rejoin n (dir_node d ns) (dir_node e ms) same ok kid =
    let below : ms ≡ ns = cc in
    (kid, subst (λ ks. AreTreesOk n ks) (sym below) ok.1)

rejoin-all : (n : ℕ) (xs ys : List Node) → map kept_of ys ≡ map kept_of xs → AreTreesOk n (nodes xs) → AllByRecursion (IsChildOk n) ys → AreTreesOk n (nodes ys)
rejoin-all n [] [] same ok kids = tt
rejoin-all n [] (y ∷ ys) same ok kids = cc
rejoin-all n (x ∷ xs) [] same ok kids = tt
rejoin-all n (x ∷ xs) (y ∷ ys) same ok kids =
    let head : kept_of y ≡ kept_of x = cc in
    let tail : map kept_of ys ≡ map kept_of xs = cc in
    (rejoin n x y head ok.0 kids.0, rejoin-all n xs ys tail ok.1 kids.1)

-- the top's rules, of a node that stands there
abbrev IsTopThere : ℕ → Node → Type 0
IsTopThere n (leaf_node v) = Unit {0}
IsTopThere n (dir_node d ns) = IsTopBusOk n d (children ns)

-- of a part of the tree, before and after
record KeepsPart (n : ℕ) (w : Where) (m k : Node) : Type 0 where
  tree : IsTreeOk n k
  seen : IsSeenAs m k
  top : stamp_above w ≡ stamp_zero → IsTopThere n m → IsTopThere n k

record KeepsRun (n : ℕ) (ns ms : Nodes) : Type 0 where
  trees : AreTreesOk n ms
  seen : OneSeen (children ns) (children ms)

module _ (t : Turn) (m : MachineValue) where
  abbrev count : ℕ
  count = items_of_machine m

  here-kept : (w : Where) (n : Node) → IsTreeOk count n → KeepsPart count w n (node_after m.code m.items t w n)
  here-kept w (leaf_node v) ok =
      let kept = leaf_step-keeps_rules m.code m.items (key_at_leaf w v.done) (victim_of t) v ok in
      record { tree = kept.own; seen = λ x. as_before (kept.seen x); top = λ none top. tt }
  here-kept w (dir_node d ns) ok =
      let o : Outcome = bus_step (stamp_above w) (bus_turn_of t) d (children ns) in
      let kept : KeepsBus count (stamp_above w) d (children ns) o = bus-keeps count (stamp_above w) (bus_turn_of t) d (children ns) ok.0 (children-of count ns ok.1) in
      let back = sym (children-nodes o.kids) in
      let below : AreTreesOk count (nodes (children ns)) = subst (λ ks. AreTreesOk count ks) (sym (nodes-children ns)) ok.1 in
      record {
        tree = (subst (λ ys. IsBusOk count o.parent ys) back kept.bus, rejoin-all count (children ns) o.kids (bus_step-keeps (stamp_above w) d (children ns) (bus_turn_of t)).kids below kept.kids);
        seen = kept.seen;
        top = λ none top. subst (λ ys. IsTopBusOk count o.parent ys) back (kept.top none top);
      }

  part-kept : (a : TurnAnswer) (w : Where) (path : List ℕ) (n k : Node) → ChangedAt (TurnsHere t m a) w path n k → IsTreeOk count n → KeepsPart count w n k
  part-kept a =
      changed-holds (TurnsHere t m a)
      (λ w path n k. IsTreeOk count n → KeepsPart count w n k)
      (λ above d j i path ns ms. AreTreesOk count ns → KeepsRun count ns ms)
      (λ w n k r ok. subst (λ j. KeepsPart count w n j) (sym r.becomes) (here-kept w n ok))
      (λ w d i path ns ms kept ok.
      let below = kept ok.1 in
      record {
        tree = (IsBusOk-above count d (children ns) (children ms) below.seen ok.0, below.trees);
        seen = λ x. as_before refl;
        top = λ none top. record { own = top.own; held = λ x l. top_holds-above (parent_face x d) x (children ns) (children ms) below.seen (top.held x l) };
      })
      (λ above d j path n k ns kept ok.
      let first = kept ok.0 in
      record { trees = (first.tree, ok.1); seen = seen_first first.seen })
      (λ above d j i path n ns ms kept ok.
      let later = kept ok.1 in
      record { trees = (ok.0, later.trees); seen = seen_later later.seen })

  pub turn-keeps_rules : IsMachineOk m → IsMachineOk (turn_of t m).machine
  turn-keeps_rules ok =
      elim (has_node (named_by t) (root_of m)) as (λ b. has_node (named_by t) (root_of m) ≡ b → IsMachineOk (turn_of t m).machine) [
        | false ↦ λ absent. subst (λ o. IsMachineOk o.machine) (sym (turn-changes_nothing t m absent)) ok
        | true ↦ λ there.
            let at = turn-changes_one_node t m there in
            let next : MachineValue = (turn_of t m).machine in
            let kept : KeepsPart count at_top (root_of m) (root_of next) = part-kept (turn_of t m).answer at_top at.0 (root_of m) (root_of next) at.1 ok.tree in
            let top : IsTopBusOk count next.top (children next.kids) = kept.top refl (record { own = ok.top; held = ok.held }) in
            let items : items_of_machine next ≡ count = ap (λ f. item_count f.items) (turn-frame t m) in
            record {
              tree = subst (λ n. IsTreeOk n (root_of next)) (sym items) kept.tree;
              top = top.own;
              held = λ x l. top.held x (subst (λ n. x < n) items l);
            }
      ] refl

pub run-keeps_rules : (ts : List Turn) (m : MachineValue) → IsMachineOk m → IsMachineOk (run_of ts m).machine
unfolding run_of
run-keeps_rules [] m ok = ok
run-keeps_rules (t ∷ ts) m ok = run-keeps_rules ts (turn_of t m).machine (turn-keeps_rules t m ok)
