-- Claims at the bus of a turn: of its parent and of all below it.
-- Letters: n is the number of items, x the item, w where the parent p stands, q after it, ns and ms the children.
use Rattle.std.proofs.Common.{ℕ, ◌+◌, ◌<◌, List, length, subst}
use Rattle.order_laws.specs.TreeModel.State.Values.{DirValue, Node, Nodes, dir_node, nodes}
use Rattle.order_laws.specs.TreeModel.State.Directory.{stamp_of}
use Rattle.order_laws.specs.TreeModel.State.Place.{Where, at_top, at_child, where_path, spot_path, spot_in, stamp_above}
use Rattle.order_laws.specs.TreeModel.Turns.Children.{child_at}
use Rattle.order_laws.specs.TreeRules.Order.Claims.{claims_in, claims_among}
use Rattle.order_laws.specs.Moves.ClaimsMoved.{ClaimsFrom}
use Rattle.order_laws.specs.Moves.Parent.{moment_in}
use Rattle.order_laws.specs.Moves.Carries.{OwnKept, ClaimsAt}
use Rattle.order_laws.proofs.Moves.Bus.{from_zero}
use Rattle.order_laws.proofs.Moves.BusClaims.{KidOwn, kid-own, kid-claims, among-from, claims-append}
use Rattle.order_laws.proofs.Moves.BusFacts.{BusFacts}
use Rattle.order_laws.proofs.Moves.LiftClaims.{own-claims, is_top-false}
use Rattle.order_laws.proofs.Moves.Next.{TurnTime}
use Rattle.order_laws.proofs.Moves.ParentClaim.{parent-claim}
use Rattle.order_laws.proofs.Moves.RowClaims.{RowClaim}

module _ (x n : ℕ) (w : Where) (p : DirValue) (ns : List Node) (f : BusFacts n w p ns) (q : DirValue) (ms : List Node) (within : x < n) (time : TurnTime w p q) (row : RowClaim x (stamp_above w) p q ns ms) where
  abbrev new : List ℕ
  new = moment_in w q

  kids-from : ClaimsFrom (where_path w) new (claims_among x (where_path w) p 0 (nodes ns)) (claims_among x (where_path w) q 0 (nodes ms))
  kids-from = among-from x (where_path w) new p q 0 ns ms row.many (λ i l. subst (λ j. ClaimsFrom (where_path w) new (claims_in x (spot_in (where_path w) p j) (child_at i ns)) (claims_in x (spot_in (where_path w) q j) (child_at i ms))) (from_zero i) (kid-claims x (where_path w) (stamp_of p) (stamp_of q) time.next.whole i (child_at i ns) (child_at i ms) (row.kids i l)))

  pub bus-claims : (ks : Nodes) → ClaimsAt x (record { path = where_path w; dir = p; kids = ks; dir_after = q; kids_after = nodes ms }) w (dir_node p (nodes ns)) (dir_node q (nodes ms))
  bus-claims ks = by w f time row kids-from where
    by : (u : Where) → BusFacts n u p ns → TurnTime u p q → RowClaim x (stamp_above u) p q ns ms → ClaimsFrom (where_path u) (moment_in u q) (claims_among x (where_path u) p 0 (nodes ns)) (claims_among x (where_path u) q 0 (nodes ms)) → ClaimsAt x (record { path = where_path u; dir = p; kids = ks; dir_after = q; kids_after = nodes ms }) u (dir_node p (nodes ns)) (dir_node q (nodes ms))
    by at_top f t r kids = record { own = tt; from = kids }
    by (at_child c) f t r kids =
        let each : (i : ℕ) → i < length ns → KidOwn x (spot_path c) (moment_in (at_child c) q) (stamp_of p) (stamp_of q) (0 + i) (child_at i ns) (child_at i ms) = λ i l. subst (λ j. KidOwn x (spot_path c) (moment_in (at_child c) q) (stamp_of p) (stamp_of q) j (child_at i ns) (child_at i ms)) (from_zero i) (kid-own x (spot_path c) (stamp_of p) (stamp_of q) t.next.whole i (child_at i ns) (child_at i ms) (r.kids i l)) in
        let clocked = f.ordered.0.clocked in
        let fell = parent-claim n x c p q ns ms f.bus f.kids within clocked f.ordered.1 (moment_in (at_child c) q) t.next.begins r.many each t.next.bound_rises (r.queue c.above) (is_top-false c p clocked) in
        let own : OwnKept x (at_child c) (dir_node p (nodes ns)) (dir_node q (nodes ms)) = λ is. (r.hold is, fell) in
        record { own = own; from = claims-append (spot_path c) (moment_in (at_child c) q) _ _ (claims_among x (spot_path c) p 0 (nodes ns)) (claims_among x (spot_path c) q 0 (nodes ms)) (own-claims (spot_path c) (moment_in (at_child c) q) x c (dir_node p (nodes ns)) (dir_node q (nodes ms)) own) kids }
