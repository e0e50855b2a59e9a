-- Claims in a part of the tree, from those of the children of its root.
-- Letters: n is the number of items, x the item, c where the directory d stands, ns and ms its children before and after.
use Rattle.std.proofs.Common.{◌≡◌, ℕ, zero, suc, ◌+◌, ◌-◌, ◌<◌, false, List, [], ◌∷◌, length, take, refl, sym, ap, subst, ◌∙◌, inl, inr, arith}
use Rattle.std.specs.Prelude.{if◌then◌else◌}
use Rattle.std.specs.List.{AllByRecursion}
use Rattle.std.proofs.lemmas.Bool.{ne_eqb}
use Rattle.std.proofs.lemmas.List.{length-append}
use Rattle.order_laws.specs.TreeModel.State.Values.{DirValue, Node, Nodes, dir_node, more_nodes, nodes, children}
use Rattle.order_laws.specs.TreeModel.State.Directory.{is_top, stamp_of}
use Rattle.order_laws.specs.TreeModel.State.Place.{Spot, Where, at_top, at_child, spot_path, spot_in}
use Rattle.order_laws.specs.TreeModel.Turns.Children.{child_at}
use Rattle.order_laws.proofs.TreeModel.Children.{nodes-children}
use Rattle.order_laws.specs.TreeRules.Bus.Rules.{IsBusOk, IsChildOk}
use Rattle.order_laws.specs.TreeRules.Order.Claims.{ClaimAt, child_is_exclusive, claim, claim_here, claims_in, claims_among}
use Rattle.order_laws.specs.TreeRules.Order.Core.{claim_level}
use Rattle.order_laws.specs.TreeRules.Order.Directories.{IsClocked, IsOrdered}
use Rattle.order_laws.specs.TreeRules.Order.Moments.{less_at, moment_at, moment_length}
use Rattle.order_laws.specs.TreeRules.Order.Places.{placed_dirs}
use Rattle.order_lists.proofs.Clocks.{here}
use Rattle.order_lists.proofs.Moments.{less-irreflexive}
use Rattle.order_laws.specs.Moves.Moved.{In}
use Rattle.order_laws.specs.Moves.ClaimsMoved.{ClaimsFrom}
use Rattle.order_laws.specs.Moves.Carries.{BusTurned, new_moment, OwnKept, ClaimsAt, KidKept, ClaimsAmong}
use Rattle.order_laws.proofs.Moves.Brought.{if-by}
use Rattle.order_laws.proofs.Moves.BusClaims.{KidOwn, claims-append, claims-same}
use Rattle.order_laws.proofs.Moves.ParentClaim.{parent-claim}
use Rattle.order_laws.proofs.Moves.RowClaims.{queue_same}

pub own-same : (x : ℕ) (w : Where) (n : Node) → OwnKept x w n n
own-same x at_top n = tt
own-same x (at_child c) n = λ is. (is, less-irreflexive (take (moment_length (length c.above)) (claim x c n)))

module _ (path new : List ℕ) (x : ℕ) (c : Spot) (n k : Node) (own : OwnKept x (at_child c) n k) where
  abbrev before : ClaimAt
  before = record { child = spot_path c; moment = claim x c n }

  abbrev after : ClaimAt
  after = record { child = spot_path c; moment = claim x c k }

  level : moment_length (length c.above) ≡ moment_length (claim_level after)
  level =
      let one : length (spot_path c) ≡ length c.above + 1 = length-append c.above (c.number ∷ []) in
      let less_one : length c.above ≡ length (spot_path c) - 1 = omega (arith, one) in
      ap moment_length less_one

  pub own-claims : ClaimsFrom path new (claim_here x c n (claim x c n)) (claim_here x c k (claim x c k))
  own-claims = if-by (ClaimsFrom path new (claim_here x c n (claim x c n))) (child_is_exclusive x k) (after ∷ []) [] (λ is.
      let h = own is in
      (inl (record { source = before; there = subst (λ b. In before (if b then before ∷ [] else [])) (sym h.0) (inl refl); kept = record { child = refl; moment = subst (λ j. less_at j (claim x c k) (claim x c n) ≡ false) level h.1 } }), tt)) (λ other. tt)

-- below the top a directory isn't the top
pub is_top-false : (c : Spot) (d : DirValue) → IsClocked (here c d) → is_top d ≡ false
is_top-false c d k =
    let one : length (spot_path c) ≡ length c.above + 1 = length-append c.above (c.number ∷ []) in
    let level : d.level ≡ length c.above + 1 = k.level ∙ one in
    ne_eqb d.level 0 (λ z. omega (arith, level, z))

module _ (n x : ℕ) (within : x < n) (bus : BusTurned) (d : DirValue) (ns ms : Nodes) (ok : IsBusOk n d (children ns)) (kids : AllByRecursion (IsChildOk n) (children ns)) where
  pub below-claims : (c : Spot) → IsClocked (here c d) → AllByRecursion IsOrdered (placed_dirs (spot_path c) d 0 ns) → take (length (moment_at c.above d.epoch)) (moment_at (spot_path c) (stamp_of d)) ≡ moment_at c.above d.epoch → ClaimsAmong x bus (spot_path c) d 0 ns ms → ClaimsAt x bus (at_child c) (dir_node d ns) (dir_node d ms)
  below-claims c clocked ordered begins among =
      let placed : AllByRecursion IsOrdered (placed_dirs (spot_path c) d 0 (nodes (children ns))) = subst (λ ks. AllByRecursion IsOrdered (placed_dirs (spot_path c) d 0 ks)) (sym (nodes-children ns)) ordered in
      let old : List ℕ = moment_at (spot_path c) (stamp_of d) in
      let each : (i : ℕ) → i < length (children ns) → KidOwn x (spot_path c) old (stamp_of d) (stamp_of d) (0 + i) (child_at i (children ns)) (child_at i (children ms)) = λ i l is. inr (among.own i l is) in
      let far : ℕ = moment_length (length c.above) in
      let fell : less_at far (claim x c (dir_node d (nodes (children ms)))) (claim x c (dir_node d (nodes (children ns)))) ≡ false = parent-claim n x c d d (children ns) (children ms) ok kids within clocked placed old begins among.many each (less-irreflexive (moment_at c.above d.epoch)) (queue_same refl) (is_top-false c d clocked) in
      let kept : less_at far (claim x c (dir_node d ms)) (claim x c (dir_node d ns)) ≡ false = subst (λ ks. less_at far (claim x c (dir_node d ks)) (claim x c (dir_node d ns)) ≡ false) (nodes-children ms) (subst (λ ks. less_at far (claim x c (dir_node d (nodes (children ms)))) (claim x c (dir_node d ks)) ≡ false) (nodes-children ns) fell) in
      let own : OwnKept x (at_child c) (dir_node d ns) (dir_node d ms) = λ is. (is, kept) in
      record { own = own; from = claims-append bus.path (new_moment bus) _ _ (claims_among x (spot_path c) d 0 ns) (claims_among x (spot_path c) d 0 ms) (own-claims bus.path (new_moment bus) x c (dir_node d ns) (dir_node d ms) own) among.from }

-- ---- children

module _ (x : ℕ) (bus : BusTurned) (above : List ℕ) (d : DirValue) (j : ℕ) where
  pub first-claims : (n k : Node) (ns : Nodes) → ClaimsAt x bus (at_child (spot_in above d j)) n k → ClaimsAmong x bus above d j (more_nodes n ns) (more_nodes k ns)
  first-claims n k ns c = record { many = refl; own = own; from = claims-append bus.path (new_moment bus) (claims_in x (spot_in above d j) n) (claims_in x (spot_in above d j) k) (claims_among x above d (j + 1) ns) (claims_among x above d (j + 1) ns) c.from (claims-same bus.path (new_moment bus) (claims_among x above d (j + 1) ns)) } where
    own : (i : ℕ) → i < length (n ∷ children ns) → KidKept x above (stamp_of d) (j + i) (child_at i (n ∷ children ns)) (child_at i (k ∷ children ns))
    own zero l = subst (λ i. KidKept x above (stamp_of d) i n k) (let e : j ≡ j + 0 = omega arith in e) c.own
    own (suc i) l = own-same x (at_child (record { above = above; number = j + suc i; present = stamp_of d })) (child_at i (children ns))

  pub later-claims : (n : Node) (ns ms : Nodes) → ClaimsAmong x bus above d (j + 1) ns ms → ClaimsAmong x bus above d j (more_nodes n ns) (more_nodes n ms)
  later-claims n ns ms c = record { many = ap suc c.many; own = own; from = claims-append bus.path (new_moment bus) (claims_in x (spot_in above d j) n) (claims_in x (spot_in above d j) n) _ _ (claims-same bus.path (new_moment bus) (claims_in x (spot_in above d j) n)) c.from } where
    own : (i : ℕ) → i < length (n ∷ children ns) → KidKept x above (stamp_of d) (j + i) (child_at i (n ∷ children ns)) (child_at i (n ∷ children ms))
    own zero l = own-same x (at_child (record { above = above; number = j + 0; present = stamp_of d })) n
    own (suc i) l = subst (λ a. KidKept x above (stamp_of d) a (child_at i (children ns)) (child_at i (children ms))) (let e : j + 1 + i ≡ j + suc i = omega arith in e) (c.own i (omega (arith, l)))
