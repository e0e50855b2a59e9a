-- What holds of the copies that the parent of a bus hands up holds of all copies of the machine.
use Rattle.std.proofs.Common.{◌≡◌, true, false, sym, ℕ, ◌<◌, suc, ◌+◌, List, [], ◌∷◌, ◌++◌, map, refl, ap, subst, ◌∙◌, ◌⊎◌, inl, inr, arith, append_assoc}
use Rattle.std.specs.List.{AllByRecursion}
use Rattle.order_laws.specs.DdmTypes.declared.answers.TurnAnswer.{TurnAnswer}
use Rattle.order_laws.specs.DdmTypes.declared.turns.Turn.{Turn}
use Rattle.order_laws.specs.TreeModel.State.Values.{no_nodes, DirValue, Node, Nodes, leaf_node, dir_node, more_nodes, children, MachineValue}
use Rattle.order_laws.specs.TreeModel.State.Leaf.{words_of_item}
use Rattle.order_laws.specs.TreeModel.State.Directory.{stamp_of}
use Rattle.order_laws.specs.TreeModel.State.Child.{child_replies}
use Rattle.order_laws.specs.TreeModel.State.Place.{Where, at_top, at_child, where_path, spot_in}
use Rattle.order_laws.specs.TreeModel.Turns.Children.{child_at}
use Rattle.order_laws.specs.TreeModel.Turns.Tree.{ChangedAt}
use Rattle.order_laws.specs.TreeModel.Laws.{TurnsHere}
use Rattle.order_laws.proofs.TreeModel.Changed.{changed-holds}
use Rattle.order_laws.specs.TreeRules.Bus.Rules.{IsChildOk, IsTreeOk, AreTreesOk}
use Rattle.order_laws.specs.TreeRules.Order.Copies.{CopyAt, cut, copies_here, inner, handed}
use Rattle.order_laws.specs.TreeRules.Order.Directories.{IsOrdered}
use Rattle.order_laws.specs.TreeRules.Order.Moments.{is_under, moment_at, GoesOn}
use Rattle.order_laws.specs.TreeRules.Order.Places.{LeafAt, leaf_path, leaves_in, placed_leaves, dirs_in, placed_dirs}
use Rattle.order_lists.proofs.Filters.{each-append, each-weaker, each-left, each-right}
use Rattle.order_laws.specs.Moves.Moved.{AllFrom}
use Rattle.order_laws.specs.Moves.Parent.{bound_at, erased_at, downs_at, replies_up, hand_of}
use Rattle.order_laws.specs.Moves.Carries.{IsBelowOld, node_at, BusTurned, old_moment, new_moment, HoldsAfter, MovedBy, IsBoundOf, hand_at, ClaimsAt, Carries, CarriesAmong}
use Rattle.order_laws.specs.Moves.LeavesKept.{LeafKept, LeavesKept, leaves_below}
use Rattle.order_laws.proofs.Moves.LeavesKept.{kept-same}
use Rattle.order_laws.proofs.Pairs.{pairs-append}
use Rattle.order_lists.proofs.Paths.{IsFrom, under-trans, under-append, one_child, leaves_under, placed_from}
use Rattle.order_laws.proofs.Moves.LiftClaims.{below-claims, first-claims, later-claims}
use Rattle.order_laws.proofs.Moves.Ordered.{OrderedAt, TopAt, ordered-below, own-bound, above-goes_on, erased-later}
use Rattle.order_laws.proofs.Moves.Sources.{AllFrom-append, AllFrom-same, AllFrom-map}
use Rattle.order_laws.proofs.Moves.Cuts.{Moved-same, Moved-cut}

-- ---- one step up

module _ (x : ℕ) (bus : BusTurned) where
  abbrev Move : CopyAt → CopyAt → Type 0
  Move = MovedBy x bus

  same : (k : CopyAt) → Move k k
  same = Moved-same bus.path (old_moment bus) (new_moment bus) (HoldsAfter x bus)

  pub under-parent : (w : Where) (d : DirValue) (ns ms : Nodes) → OrderedAt w (dir_node d ns) → GoesOn (new_moment bus) (moment_at (where_path w) (stamp_of d)) → ((b : List ℕ) → IsBoundOf (where_path w) (stamp_of d) b → AllFrom Move (handed x (where_path w) b d 0 ns) (handed x (where_path w) b d 0 ms)) → (b : List ℕ) → AllFrom Move (hand_of x w b d ns) (hand_of x w b d ms)
  under-parent w d ns ms ordered on kids b =
      let erased = erased_at x w d in
      let parked = copies_here (where_path w) (bound_at w d) (words_of_item x d.parked) in
      let before = handed x (where_path w) (bound_at w d) d 0 ns in
      let after = handed x (where_path w) (bound_at w d) d 0 ms in
      let below : AllFrom Move (before ++ parked) (after ++ parked) = AllFrom-append Move before after parked parked (kids (bound_at w d) (own-bound w d ns ordered)) (AllFrom-same Move same parked) in
      let gathered : AllFrom Move (map (cut erased) (before ++ parked)) (map (cut erased) (after ++ parked)) = AllFrom-map Move (cut erased) (Moved-cut bus.path (old_moment bus) (new_moment bus) (HoldsAfter x bus) erased (erased-later x w d ns ordered (new_moment bus) on)) (before ++ parked) (after ++ parked) below in
      let down = downs_at x w d in
      AllFrom-append Move (map (cut erased) (before ++ parked) ++ down) (map (cut erased) (after ++ parked) ++ down) (replies_up x w b d) (replies_up x w b d) (AllFrom-append Move (map (cut erased) (before ++ parked)) (map (cut erased) (after ++ parked)) down down gathered (AllFrom-same Move same down)) (AllFrom-same Move same (replies_up x w b d))

-- a child, at its spot, as its parent sees it
child-hand : (x : ℕ) (above : List ℕ) (d : DirValue) (j : ℕ) (b : List ℕ) (n : Node) → hand_at x (at_child (spot_in above d j)) b n ≡ inner x (spot_in above d j) n ++ copies_here above b (words_of_item x (child_replies n))
child-hand x above d j b (leaf_node v) = refl
child-hand x above d j b (dir_node e ns) = refl

-- ---- leaves beside the bus aren't under it

module _ (bus : BusTurned) (above : List ℕ) (d : DirValue) (j : ℕ) where
  under-first : (i : ℕ) (rest : List ℕ) → bus.path ≡ above ++ i ∷ rest → (a : LeafAt) → is_under bus.path (leaf_path a) ≡ true → is_under (above ++ i ∷ []) (leaf_path a) ≡ true
  under-first i rest at a is = under-trans (above ++ i ∷ []) bus.path (leaf_path a) (subst (λ p. is_under (above ++ i ∷ []) p ≡ true) (sym (at ∙ sym (append_assoc above (i ∷ []) rest))) (under-append (above ++ i ∷ []) rest)) is

  later-nows : (rest : List ℕ) (ns : Nodes) → bus.path ≡ above ++ j ∷ rest → AllByRecursion (IsBelowOld bus) (placed_leaves above d (j + 1) ns)
  later-nows rest ns at = each-weaker (λ (a : LeafAt). IsFrom above (j + 1) (leaf_path a)) (IsBelowOld bus) (λ a f is. absurd (let wrong : false ≡ true = sym (f.later j (omega arith)) ∙ under-first j rest at a is in cc)) (placed_leaves above d (j + 1) ns) (placed_from above d (j + 1) ns)

  earlier-nows : (i : ℕ) (rest : List ℕ) (n : Node) → bus.path ≡ above ++ i ∷ rest → j < i → AllByRecursion (IsBelowOld bus) (leaves_in (spot_in above d j) n)
  earlier-nows i rest n at l = each-weaker (λ (a : LeafAt). is_under (above ++ j ∷ []) (leaf_path a) ≡ true) (IsBelowOld bus) (λ a u is. absurd (let same : i ≡ j = one_child above (leaf_path a) i j (under-first i rest at a is) u in let no : ⊥ = omega (arith, same, l) in no)) (leaves_in (spot_in above d j) n) (leaves_under (spot_in above d j) n)

-- ---- the tree

child-of : (n : ℕ) (m : Node) → IsTreeOk n m → IsChildOk n m
child-of n (leaf_node v) ok = ok
child-of n (dir_node d ns) ok = ok.0

pub children-of : (n : ℕ) (ns : Nodes) → AreTreesOk n ns → AllByRecursion (IsChildOk n) (children ns)
children-of n no_nodes ok = tt
children-of n (more_nodes m ns) ok = (child-of n m ok.0, children-of n ns ok.1)

module _ (x : ℕ) (count : ℕ) (t : Turn) (m : MachineValue) (a : TurnAnswer) (turned : (w : Where) (n k : Node) → TurnsHere t m a w n k → IsTreeOk count n → OrderedAt w n → TopAt count w n → (k ≡ n) ⊎ Carries x count w [] n k) where
  first-carried : (above : List ℕ) (d : DirValue) (j : ℕ) (rest : List ℕ) (n k : Node) (ns : Nodes) → Carries x count (at_child (spot_in above d j)) rest n k → CarriesAmong x count above d j j rest (more_nodes n ns) (more_nodes k ns)
  first-carried above d j rest n k ns c =
      let c_at : c.bus.path ≡ (above ++ j ∷ []) ++ rest = c.at in
      record {
        bus = c.bus;
        offset = 0;
        is = omega arith;
        at = c_at ∙ append_assoc above (j ∷ []) rest;
        before = c.before;
        after = c.after;
        deep = c.deep;
        rises = c.rises;
        past = c.past;
        moved = λ b is.
            let later = handed x above b d (j + 1) ns in
            let hands : AllFrom (MovedBy x c.bus) (inner x (spot_in above d j) n ++ copies_here above b (words_of_item x (child_replies n))) (inner x (spot_in above d j) k ++ copies_here above b (words_of_item x (child_replies k))) = subst (λ l. AllFrom (MovedBy x c.bus) l (inner x (spot_in above d j) k ++ copies_here above b (words_of_item x (child_replies k)))) (child-hand x above d j b n) (subst (λ l. AllFrom (MovedBy x c.bus) (hand_at x (at_child (spot_in above d j)) b n) l) (child-hand x above d j b k) (c.moved b is)) in
            AllFrom-append (MovedBy x c.bus) _ _ later later hands (AllFrom-same (MovedBy x c.bus) (same x c.bus) later);
        claims = λ within. first-claims x c.bus above d j n k ns (c.claims within);
        erases = c.erases;
        leaves = pairs-append LeafKept (leaves_in (spot_in above d j) n) (leaves_in (spot_in above d j) k) (placed_leaves above d (j + 1) ns) (placed_leaves above d (j + 1) ns) c.leaves (kept-same (placed_leaves above d (j + 1) ns));
        nows = each-append (IsBelowOld c.bus) (leaves_in (spot_in above d j) n) (placed_leaves above d (j + 1) ns) c.nows (later-nows c.bus above d j rest ns (c_at ∙ append_assoc above (j ∷ []) rest));
      }

  later-carried : (above : List ℕ) (d : DirValue) (j i : ℕ) (rest : List ℕ) (n : Node) (ns ms : Nodes) → CarriesAmong x count above d (j + 1) i rest ns ms → CarriesAmong x count above d j i rest (more_nodes n ns) (more_nodes n ms)
  later-carried above d j i rest n ns ms c =
      let c_is : i ≡ j + 1 + c.offset = c.is in
      record {
        bus = c.bus;
        offset = suc c.offset;
        is = omega (arith, c_is);
        at = c.at;
        before = c.before;
        after = c.after;
        deep = c.deep;
        rises = c.rises;
        past = c.past;
        moved = λ b is.
            let own = inner x (spot_in above d j) n ++ copies_here above b (words_of_item x (child_replies n)) in
            AllFrom-append (MovedBy x c.bus) own own _ _ (AllFrom-same (MovedBy x c.bus) (same x c.bus) own) (c.moved b is);
        claims = λ within. later-claims x c.bus above d j n ns ms (c.claims within);
        erases = c.erases;
        leaves = pairs-append LeafKept (leaves_in (spot_in above d j) n) (leaves_in (spot_in above d j) n) (placed_leaves above d (j + 1) ns) (placed_leaves above d (j + 1) ms) (kept-same (leaves_in (spot_in above d j) n)) c.leaves;
        nows = each-append (IsBelowOld c.bus) (leaves_in (spot_in above d j) n) (placed_leaves above d (j + 1) ns) (earlier-nows c.bus above d j i rest n c.at (omega (arith, c_is))) c.nows;
      }

  below-carried : (w : Where) (d : DirValue) (i : ℕ) (rest : List ℕ) (ns ms : Nodes) → IsTreeOk count (dir_node d ns) → OrderedAt w (dir_node d ns) → CarriesAmong x count (where_path w) d 0 i rest ns ms → Carries x count w (i ∷ rest) (dir_node d ns) (dir_node d ms)
  below-carried w d i rest ns ms ok ordered c =
      let c_is : i ≡ 0 + c.offset = c.is in
      let at : i ≡ c.offset = omega (arith, c_is) in
      record {
        bus = c.bus;
        at = c.at;
        before = ap (λ k. node_at rest (child_at k (children ns))) at ∙ c.before;
        after = ap (λ k. node_at rest (child_at k (children ms))) at ∙ c.after;
        deep = c.deep;
        rises = c.rises;
        past = above-goes_on w d ns ordered (new_moment c.bus) c.past;
        moved = λ b is. hands b;
        claims = claims w ok ordered c;
        erases = c.erases;
        leaves = leaves w c.leaves;
        nows = nows w c.nows;
      } where
        leaves : (u : Where) → LeavesKept (placed_leaves (where_path u) d 0 ns) (placed_leaves (where_path u) d 0 ms) → LeavesKept (leaves_below u (dir_node d ns)) (leaves_below u (dir_node d ms))
        leaves at_top h = h
        leaves (at_child p) h = h

        nows : (u : Where) → AllByRecursion (IsBelowOld c.bus) (placed_leaves (where_path u) d 0 ns) → AllByRecursion (IsBelowOld c.bus) (leaves_below u (dir_node d ns))
        nows at_top h = h
        nows (at_child p) h = h

        claims : (u : Where) → IsTreeOk count (dir_node d ns) → OrderedAt u (dir_node d ns) → (c : CarriesAmong x count (where_path u) d 0 i rest ns ms) → x < count → ClaimsAt x c.bus u (dir_node d ns) (dir_node d ms)
        claims at_top ok o c within = record { own = tt; from = (c.claims within).from }
        claims (at_child p) ok o c within = below-claims count x within c.bus d ns ms ok.0 (children-of count ns ok.1) p o.0.clocked o.1 (own-bound (at_child p) d ns o).begins (c.claims within)

        hands : (b : List ℕ) → AllFrom (MovedBy x c.bus) (hand_at x w b (dir_node d ns)) (hand_at x w b (dir_node d ms))
        hands b = by w refl where
          by : (u : Where) → w ≡ u → AllFrom (MovedBy x c.bus) (hand_at x w b (dir_node d ns)) (hand_at x w b (dir_node d ms))
          by u e = under-parent x c.bus w d ns ms ordered c.past c.moved b

  pub carried : (w : Where) (path : List ℕ) (n k : Node) → ChangedAt (TurnsHere t m a) w path n k → IsTreeOk count n → OrderedAt w n → TopAt count w n → (k ≡ n) ⊎ Carries x count w path n k
  carried =
      changed-holds (TurnsHere t m a)
      (λ w path n k. IsTreeOk count n → OrderedAt w n → TopAt count w n → (k ≡ n) ⊎ Carries x count w path n k)
      (λ above d j i path ns ms. AreTreesOk count ns → AllByRecursion IsOrdered (placed_dirs above d j ns) → (ms ≡ ns) ⊎ CarriesAmong x count above d j i path ns ms)
      turned
      (λ w d i path ns ms kids ok ordered top.
      elim (kids ok.1 (ordered-below w d ns ordered)) as (λ _. (dir_node d ms ≡ dir_node d ns) ⊎ Carries x count w (i ∷ path) (dir_node d ns) (dir_node d ms)) [
        | inl same ↦ inl (ap (dir_node d) same)
        | inr c ↦ inr (below-carried w d i path ns ms ok ordered c)
      ])
      (λ above d j path n k ns child ok ordered.
      elim (child ok.0 (each-left IsOrdered (dirs_in (spot_in above d j) n) (placed_dirs above d (j + 1) ns) ordered) tt) as (λ _. (more_nodes k ns ≡ more_nodes n ns) ⊎ CarriesAmong x count above d j j path (more_nodes n ns) (more_nodes k ns)) [
        | inl same ↦ inl (ap (λ c. more_nodes c ns) same)
        | inr c ↦ inr (first-carried above d j path n k ns c)
      ])
      (λ above d j i path n ns ms kids ok ordered.
      elim (kids ok.1 (each-right IsOrdered (dirs_in (spot_in above d j) n) (placed_dirs above d (j + 1) ns) ordered)) as (λ _. (more_nodes n ms ≡ more_nodes n ns) ⊎ CarriesAmong x count above d j i path (more_nodes n ns) (more_nodes n ms)) [
        | inl same ↦ inl (ap (more_nodes n) same)
        | inr c ↦ inr (later-carried above d j i path n ns ms c)
      ])
