-- Every turn of a bus: where the copies of each item in the machine come from.
-- Letters: m is the machine, t the turn, w where a node stands, d a directory over the children ns.
use Rattle.std.specs.List.{AllByRecursion}
use Rattle.std.proofs.Common.{◌≡◌, ℕ, ◌<◌, true, false, List, [], ◌++◌, map, length, None, refl, sym, ap, subst, ◌∙◌, ◌⊎◌, inl, inr, arith}
use Rattle.std.specs.Prelude.{nat_eq}
use Rattle.std.proofs.lemmas.Bool.{and_parts, eqb-true}
use Rattle.order_laws.specs.DdmTypes.declared.answers.TurnAnswer.{TurnAnswer}
use Rattle.order_laws.specs.DdmTypes.declared.turns.Turn.{Turn}
use Rattle.order_laws.specs.TreeModel.declared.BusTurn.{BusTurn}
use Rattle.order_laws.specs.TreeModel.State.States.{is_held}
use Rattle.order_laws.specs.TreeModel.State.Values.{DirValue, Node, Nodes, leaf_node, dir_node, nodes, children, MachineValue, root_of}
use Rattle.order_laws.specs.TreeModel.State.Directory.{stamp_of}
use Rattle.order_laws.specs.TreeModel.State.Child.{child_hold}
use Rattle.order_laws.specs.TreeModel.State.Place.{Where, at_top, at_child, where_path, spot_path, spot_in, stamp_above}
use Rattle.order_laws.specs.TreeModel.State.Shape.{IsShaped, levels_known, levels_fit, depth_of, skeleton}
use Rattle.order_laws.specs.TreeModel.Turns.Bus.{bus_step, bus_judged}
use Rattle.order_laws.specs.TreeModel.Turns.Children.{child_at}
use Rattle.order_laws.specs.TreeModel.Turns.Grant.{Grant, Judged, Outcome, nothing_there, refused, granted, outcome_of}
use Rattle.order_laws.specs.TreeModel.Turns.Machine.{named_by, bus_turn_of, turn_of}
use Rattle.order_laws.specs.TreeModel.Turns.Tree.{has_node}
use Rattle.order_laws.specs.TreeModel.Laws.{TurnsHere}
use Rattle.order_laws.proofs.TreeModel.Children.{children-nodes, nodes-children}
use Rattle.order_laws.proofs.TreeModel.Rows.{row-of}
use Rattle.order_laws.proofs.TreeModel.TurnChanges.{turn-changes_nothing, turn-changes_one_node}
use Rattle.order_laws.specs.TreeRules.Bus.Rules.{IsTreeOk, AreTreesOk, IsMachineOk, items_of_machine}
use Rattle.order_laws.specs.TreeRules.Order.Copies.{CopyAt, cut, copies_of, gathered, erases_in}
use Rattle.order_laws.specs.TreeRules.Order.Claims.{child_is_exclusive, claims_of}
use Rattle.order_laws.specs.TreeRules.Order.Directories.{IsClocked, IsOrdered}
use Rattle.order_laws.specs.TreeRules.Order.Moments.{is_under, GoesOn}
use Rattle.order_laws.proofs.Moves.Below.{NowGoesOn, placed_go_on, AreCommandsPast, dirs_ordered}
use Rattle.order_lists.proofs.Filters.{each-weaker}
use Rattle.order_laws.specs.TreeRules.Order.Places.{LeafAt, leaf_path, leaf_now, placed_dirs, dirs_at, placed_leaves, leaves_at}
use Rattle.order_laws.specs.TreeRules.Order.Rules.{IsTimed}
use Rattle.bus_laws.specs.KeepsBus.{IsTopBusOk}
use Rattle.order_laws.specs.Moves.Moved.{In, Moved, AllFrom}
use Rattle.order_laws.specs.Moves.ClaimsMoved.{ClaimsFrom}
use Rattle.order_laws.specs.Moves.Parent.{moment_in, hand_of}
use Rattle.order_laws.specs.Moves.Carries.{IsBelowOld, IsLeafFree, ClaimsAt, claims_at, node_at, BusTurned, new_moment, MovedBy, IsBoundAt, hand_at, Carries}
use Rattle.order_laws.specs.Moves.CopiesMoved.{IsBusTurn, TurnMoves, MovesOf, CopiesMoved, ClaimsMoved, ErasesNew}
use Rattle.order_laws.proofs.Moves.Cuts.{cut-nothing}
use Rattle.order_laws.proofs.Moves.Leaves.{back}
use Rattle.order_laws.proofs.Moves.BusFacts.{BusFacts}
use Rattle.order_laws.specs.Moves.LeavesKept.{LeavesKept, leaves_below}
use Rattle.order_laws.proofs.Moves.LeavesKept.{row-leaves, kept-same}
use Rattle.order_laws.proofs.Moves.ClaimsHere.{bus-claims}
use Rattle.order_laws.proofs.Moves.Lift.{children-of, carried}
use Rattle.order_laws.proofs.Moves.Ordered.{OrderedAt, TopAt}
use Rattle.order_laws.proofs.Moves.TurnFrame.{not-leaf}
use Rattle.order_laws.proofs.Moves.RowMoves.{RowMoves, row-moves}

-- ---- the node that the turn names

pub bus-facts : (n : ℕ) (w : Where) (d : DirValue) (ns : Nodes) → IsTreeOk n (dir_node d ns) → OrderedAt w (dir_node d ns) → TopAt n w (dir_node d ns) → BusFacts n w d (children ns)
bus-facts n w d ns ok ordered top = record {
  bus = ok.0;
  kids = children-of n ns ok.1;
  trees = subst (AreTreesOk n) (sym (nodes-children ns)) ok.1;
  ordered = subst (λ ks. OrderedAt w (dir_node d ks)) (sym (nodes-children ns)) ordered;
  top = λ is. subst (λ u. TopAt n u (dir_node d ns)) is top;
}

abbrev after_node : Outcome → Node
after_node o = dir_node o.parent (nodes o.kids)

-- the erases inside the children, of which ms are those after
abbrev Erases : ℕ → Where → DirValue → Nodes → DirValue → List Node → List Node → Type 0
Erases x w d ns q kids ms =
    (i : ℕ) → i < length (children ns) → (e : List ℕ) → In e (erases_in x (spot_in (where_path w) q i) (child_at i ms))
    → In e (erases_in x (spot_in (where_path w) d i) (child_at i (children ns))) ⊎ ((e ≡ moment_in w q) × ((j : ℕ) → j < length (children ns) → child_is_exclusive x (child_at j ms) ≡ false))

module _ (x count : ℕ) (w : Where) (d : DirValue) (ns : Nodes) (f : BusFacts count w d (children ns)) where
  granted-carries : (g : Grant) (k : Node) → k ≡ dir_node g.parent (nodes g.kids) → RowMoves count w d (children ns) f g → Carries x count w [] (dir_node d ns) k
  granted-carries g k is r =
      let bus : BusTurned = record { path = where_path w; dir = d; kids = ns; dir_after = g.parent; kids_after = nodes g.kids } in
      record {
        bus = bus;
        at = sym (back (where_path w));
        before = refl;
        after = is;
        deep = deep w f.ordered;
        rises = r.time.time.rises;
        past = r.time.time.past;
        moved = λ b bound. moved b bound;
        claims = λ within. subst (ClaimsAt x bus w (dir_node d ns)) (sym is) (claims within);
        erases = subst (Erases x w d ns g.parent g.kids) (sym (children-nodes g.kids)) ((r.erases x).kids (where_path w) (stamp_of d));
        leaves = subst (λ j. LeavesKept (leaves_below w (dir_node d ns)) (leaves_below w j)) (sym is) (leaves w placed);
        nows = nows w f.ordered;
      } where
        placed : LeavesKept (placed_leaves (where_path w) d 0 ns) (placed_leaves (where_path w) g.parent 0 (nodes g.kids))
        placed = subst (λ ks. LeavesKept (placed_leaves (where_path w) d 0 ks) (placed_leaves (where_path w) g.parent 0 (nodes g.kids))) (nodes-children ns) (row-leaves (where_path w) d g.parent r.time.time.next.rises 0 (children ns) g.kids r.leaves.many r.leaves.kids)

        deep : (u : Where) → OrderedAt u (dir_node d (nodes (children ns))) → length (where_path u) < 4
        deep at_top h = omega arith
        deep (at_child c) h = h.0.clocked.deep

        go-on : (u : Where) → AllByRecursion IsOrdered (placed_dirs (where_path u) d 0 ns) → AllByRecursion (λ (a : LeafAt). is_under (where_path u) (leaf_path a) ≡ true → GoesOn (leaf_now a) (moment_in u d)) (placed_leaves (where_path u) d 0 ns)
        go-on u h = each-weaker (NowGoesOn (moment_in u d)) _ (λ a g under. g) (placed_leaves (where_path u) d 0 ns) (placed_go_on (where_path u) d 0 ns (each-weaker IsOrdered IsClocked (λ c o. o.clocked) (placed_dirs (where_path u) d 0 ns) h))

        nows : (u : Where) → OrderedAt u (dir_node d (nodes (children ns))) → AllByRecursion (λ (a : LeafAt). is_under (where_path u) (leaf_path a) ≡ true → GoesOn (leaf_now a) (moment_in u d)) (leaves_below u (dir_node d ns))
        nows at_top h = go-on at_top (subst (λ ks. AllByRecursion IsOrdered (placed_dirs [] d 0 ks)) (nodes-children ns) h.1)
        nows (at_child c) h = go-on (at_child c) (subst (λ ks. AllByRecursion IsOrdered (placed_dirs (spot_path c) d 0 ks)) (nodes-children ns) h.1)

        leaves : (u : Where) → LeavesKept (placed_leaves (where_path u) d 0 ns) (placed_leaves (where_path u) g.parent 0 (nodes g.kids)) → LeavesKept (leaves_below u (dir_node d ns)) (leaves_below u (dir_node g.parent (nodes g.kids)))
        leaves at_top h = h
        leaves (at_child c) h = h

        claims : x < count → ClaimsAt x (record { path = where_path w; dir = d; kids = ns; dir_after = g.parent; kids_after = nodes g.kids }) w (dir_node d ns) (dir_node g.parent (nodes g.kids))
        claims within = subst (λ ks. ClaimsAt x (record { path = where_path w; dir = d; kids = ns; dir_after = g.parent; kids_after = nodes g.kids }) w (dir_node d ks) (dir_node g.parent (nodes g.kids))) (nodes-children ns) (bus-claims x count w d (children ns) f g.parent g.kids within r.time.time (r.claims x) ns)

        Move : List Node → CopyAt → CopyAt → Type 0
        Move ms = Moved (where_path w) (moment_in w d) (moment_in w g.parent) (λ i. (is_held (child_hold x (child_at i ms)) ≡ true) × IsLeafFree x (child_at i (children ns)))

        moved : (b : List ℕ) → IsBoundAt w b → AllFrom (Move (children (nodes g.kids))) (hand_at x w b (dir_node d ns)) (hand_at x w b k)
        moved b bound =
            let hands : AllFrom (Move g.kids) (hand_of x w b d (nodes (children ns))) (hand_of x w b g.parent (nodes g.kids)) = r.hands x b bound in
            let same : AllFrom (Move (children (nodes g.kids))) (hand_of x w b d (nodes (children ns))) (hand_of x w b g.parent (nodes g.kids)) = subst (λ ms. AllFrom (Move ms) (hand_of x w b d (nodes (children ns))) (hand_of x w b g.parent (nodes g.kids))) (sym (children-nodes g.kids)) hands in
            let from : AllFrom (Move (children (nodes g.kids))) (hand_at x w b (dir_node d ns)) (hand_of x w b g.parent (nodes g.kids)) = subst (λ ks. AllFrom (Move (children (nodes g.kids))) (hand_of x w b d ks) (hand_of x w b g.parent (nodes g.kids))) (nodes-children ns) same in
            subst (λ j. AllFrom (Move (children (nodes g.kids))) (hand_at x w b (dir_node d ns)) (hand_at x w b j)) (sym is) from

  judged-carries : (bt : BusTurn) (j : Judged) → ((g : Grant) → j ≡ granted g → RowMoves count w d (children ns) f g) → (k : Node) → k ≡ after_node (outcome_of d (children ns) j) → (k ≡ dir_node d ns) ⊎ Carries x count w [] (dir_node d ns) k
  judged-carries bt nothing_there rows k is = inl (is ∙ ap (dir_node d) (nodes-children ns))
  judged-carries bt (refused cause) rows k is = inl (is ∙ ap (dir_node d) (nodes-children ns))
  judged-carries bt (granted g) rows k is = inr (granted-carries g k is (rows g refl))

  at-dir : (bt : BusTurn) (k : Node) → k ≡ after_node (bus_step (stamp_above w) bt d (children ns)) → (k ≡ dir_node d ns) ⊎ Carries x count w [] (dir_node d ns) k
  unfolding bus_step
  at-dir bt k is = judged-carries bt (bus_judged (stamp_above w) d (children ns) bt) (λ g e. row-moves count w d (children ns) f bt g (row-of (stamp_above w) d (children ns) bt g e)) k is

here-carried : (x count : ℕ) (t : Turn) (m : MachineValue) (a : TurnAnswer) → IsBusTurn t → (w : Where) (n k : Node) → TurnsHere t m a w n k → IsTreeOk count n → OrderedAt w n → TopAt count w n → (k ≡ n) ⊎ Carries x count w [] n k
here-carried x count t m a bus w (leaf_node v) k here ok ordered top = absurd (not-leaf t v bus here.named)
here-carried x count t m a bus w (dir_node d ns) k here ok ordered top = at-dir x count w d ns (bus-facts count w d ns ok ordered top) (bus_turn_of t) k here.becomes

-- ---- the machine

-- what the top hands up is all copies
top-hands : (x : ℕ) (b : List ℕ) (m : MachineValue) → hand_at x at_top b (root_of m) ≡ copies_of x m
unfolding copies_of
top-hands x b m = back (map (cut None) (gathered x [] [] m.top m.kids) ++ []) ∙ (back (map (cut None) (gathered x [] [] m.top m.kids)) ∙ cut-nothing (gathered x [] [] m.top m.kids))

pub root-ordered : (m : MachineValue) → IsShaped m → IsTimed m → AreCommandsPast m → OrderedAt at_top (root_of m)
unfolding dirs_at
root-ordered m shaped timed past =
    let fit : levels_fit (depth_of m) 0 (skeleton (root_of m)) ≡ true = shaped.each levels_known in
    (eqb-true m.top.level 0 (and_parts (nat_eq m.top.level 0) _ fit).0, dirs_ordered m shaped timed past)

-- trees that are the same have the same copies
pub copies-same : (x : ℕ) (m m' : MachineValue) → root_of m' ≡ root_of m → copies_of x m' ≡ copies_of x m
copies-same x m m' same = sym (top-hands x [] m') ∙ (ap (hand_at x at_top []) same ∙ top-hands x [] m)

-- all claims, and all leaves
top-claims : (x : ℕ) (m : MachineValue) → claims_at x at_top (root_of m) ≡ claims_of x m
unfolding claims_of
top-claims x m = refl

pub claims-of-same : (x : ℕ) (m m' : MachineValue) → root_of m' ≡ root_of m → claims_of x m' ≡ claims_of x m
claims-of-same x m m' same = sym (top-claims x m') ∙ (ap (claims_at x at_top) same ∙ top-claims x m)

top-leaves : (m : MachineValue) → leaves_below at_top (root_of m) ≡ leaves_at m
unfolding leaves_at
top-leaves m = refl

module _ (m : MachineValue) (shaped : IsShaped m) (ok : IsMachineOk m) (timed : IsTimed m) (past : AreCommandsPast m) (t : Turn) (bus : IsBusTurn t) where
  abbrev next : MachineValue
  next = (turn_of t m).machine

  machine-moves : (x : ℕ) (path : List ℕ) → Carries x (items_of_machine m) at_top path (root_of m) (root_of next) → TurnMoves x m next
  machine-moves x path c = record {
    bus = c.bus;
    before = ap (λ p. node_at p (root_of m)) c.at ∙ c.before;
    after = ap (λ p. node_at p (root_of next)) c.at ∙ c.after;
    deep = c.deep;
    rises = c.rises;
    copies = subst (λ l. AllFrom (MovedBy x c.bus) l (copies_of x next)) (top-hands x [] m) (subst (λ l. AllFrom (MovedBy x c.bus) (hand_at x at_top [] (root_of m)) l) (top-hands x [] next) (c.moved [] tt));
    claims = λ within. subst (λ l. ClaimsFrom c.bus.path (new_moment c.bus) l (claims_of x next)) (top-claims x m) (subst (λ l. ClaimsFrom c.bus.path (new_moment c.bus) (claims_at x at_top (root_of m)) l) (top-claims x next) (c.claims within).from);
    erases = c.erases;
    nows = subst (AllByRecursion (IsBelowOld c.bus)) (top-leaves m) c.nows;
    leaves = subst (λ l. LeavesKept l (leaves_at next)) (top-leaves m) (subst (λ l. LeavesKept (leaves_below at_top (root_of m)) l) (top-leaves next) c.leaves);
  }

  pub turn-moves : (x : ℕ) → MovesOf t m x
  turn-moves x =
      elim (has_node (named_by t) (root_of m)) as (λ b. has_node (named_by t) (root_of m) ≡ b → MovesOf t m x) [
        | false ↦ λ absent. inl (ap (λ o. root_of o.machine) (turn-changes_nothing t m absent))
        | true ↦ λ there.
            let at = turn-changes_one_node t m there in
            let count : ℕ = items_of_machine m in
            let top : IsTopBusOk count m.top (children m.kids) = record { own = ok.top; held = ok.held } in
            elim (carried x count t m (turn_of t m).answer (here-carried x count t m (turn_of t m).answer bus) at_top at.0 (root_of m) (root_of next) at.1 ok.tree (root-ordered m shaped timed past) top) as (λ _. MovesOf t m x) [ inl same ↦ inl same | inr c ↦ inr (machine-moves x at.0 c) ]
      ] refl

  -- ---- the parts by themselves

  pub copies-moved : (x : ℕ) → CopiesMoved t m x
  copies-moved x = elim (turn-moves x) as (λ _. CopiesMoved t m x) [ inl same ↦ inl same | inr c ↦ inr (c.bus, c.copies) ]

  pub claims-moved : (x : ℕ) → x < items_of_machine m → ClaimsMoved t m x
  claims-moved x within = elim (turn-moves x) as (λ _. ClaimsMoved t m x) [ inl same ↦ inl same | inr c ↦ inr (c.bus, c.claims within) ]

  pub erases-new : (x : ℕ) → ErasesNew t m x
  erases-new x = elim (turn-moves x) as (λ _. ErasesNew t m x) [ inl same ↦ inl same | inr c ↦ inr (c.bus, (c.before, (c.after, c.erases))) ]

  pub reservations-kept : LeavesKept (leaves_at m) (leaves_at next)
  reservations-kept = elim (turn-moves 0) as (λ _. LeavesKept (leaves_at m) (leaves_at next)) [
    | inl same ↦ subst (LeavesKept (leaves_at m)) (sym (sym (top-leaves next) ∙ (ap (leaves_below at_top) same ∙ top-leaves m))) (kept-same (leaves_at m))
    | inr c ↦ c.leaves
  ]
