-- The claim of each directory that holds an item Exclusive: it goes on from the moment since which the directory does.
use Rattle.std.proofs.Common.{◌≡◌, ℕ, ◌+◌, ◌<◌, true, List, [], ◌∷◌, length, Option, Some, None, refl, subst}
use Rattle.std.specs.Prelude.{IfSome, unwrap_or, if◌then◌else◌}
use Rattle.std.specs.List.{AllByRecursion}
use Rattle.headline.specs.TreeModel.State.Lists.{first_some}
use Rattle.headline.specs.TreeModel.State.States.{is_exclusive}
use Rattle.headline.specs.TreeModel.State.Values.{DownValue, DirValue, Node, Nodes, leaf_node, dir_node, no_nodes, more_nodes, MachineValue}
use Rattle.headline.specs.TreeModel.State.Directory.{dir_hold, queue_of}
use Rattle.headline.specs.TreeModel.State.Place.{Spot, spot_path, spot_in}
use Rattle.headline.specs.TreeRules.Order.Moments.{moment_at, moment_length, GoesOn}
use Rattle.headline.specs.TreeRules.Order.Claims.{last_exclusive, claim, first_claim, ClaimAt, claim_here, claims_in, claims_among, claims_of}
use Rattle.headline.specs.TreeRules.Order.Places.{DirAt, dir_path, taken_moment, dirs_in, placed_dirs, dirs_at}
use Rattle.headline.specs.TreeRules.Order.Written.{exclusive_since}
use Rattle.headline.proofs.OrderLists.Filters.{each-append, each-left, each-right}
use Rattle.headline.proofs.OrderLists.Moments.{GoesOn-refl}
use Rattle.headline.proofs.OrderLists.Stamps.{moment_at-length}
use Rattle.headline.proofs.OrderLists.Clocks.{below_goes_on}
use Rattle.headline.proofs.OrderLists.Queues.{IsOrdered}
use Rattle.headline.proofs.OrderLists.Holders.{last-each, first_claim_goes_on}

module _ (x : ℕ) where
  -- the claim of this directory, of which this is known
  pub record ClaimOf (P : ClaimAt → Type 0) (c : DirAt) : Type 0 where
    pub claim : ClaimAt
    pub fact : P claim
    pub child : claim.child ≡ dir_path c
    pub since : GoesOn claim.moment (exclusive_since x c)

  abbrev pub IsClaimed : (ClaimAt → Type 0) → DirAt → Type 0
  IsClaimed P c = is_exclusive (dir_hold x c.dir) ≡ true → ClaimOf P c

  -- the moment since which it holds the item has as many numbers as one on the bus above
  pub since-length : (c : DirAt) → length c.spot.above < 4 → length (exclusive_since x c) ≡ moment_length (length c.spot.above)
  since-length c deep = go (last_exclusive c.spot.above (queue_of x c.dir.down)) (last-each (λ t. length t ≡ moment_length (length c.spot.above)) c.spot.above (queue_of x c.dir.down) (each (queue_of x c.dir.down))) where
    each : (es : List DownValue) → AllByRecursion (λ (e : DownValue). length (moment_at c.spot.above e.stamp) ≡ moment_length (length c.spot.above)) es
    each [] = tt
    each (e ∷ es) = (moment_at-length c.spot.above e.stamp deep, each es)

    go : (o : Option (List ℕ)) → IfSome o (λ t. length t ≡ moment_length (length c.spot.above)) → length (unwrap_or o (taken_moment c)) ≡ moment_length (length c.spot.above)
    go None h = moment_at-length c.spot.above c.dir.epoch deep
    go (Some t) h = h

  goes_on-since : (bound : List ℕ) (o f : Option (List ℕ)) → IfSome f (λ t. GoesOn t bound) → GoesOn (unwrap_or (first_some o f) bound) (unwrap_or o bound)
  goes_on-since bound None None h = GoesOn-refl bound
  goes_on-since bound None (Some t) h = h
  goes_on-since bound (Some t) f h = GoesOn-refl t

  module _ (P : ClaimAt → Type 0) where
    own-claim : (c : Spot) (d : DirValue) (ns : Nodes) → AllByRecursion IsOrdered (dirs_in c (dir_node d ns)) → AllByRecursion P (claim_here x c (dir_node d ns) (claim x c (dir_node d ns))) → IsClaimed P (record { spot = c; dir = d })
    own-claim c d ns h p e = record { claim = _; fact = (one p).0; child = refl; since = since } where
      one : AllByRecursion P (claim_here x c (dir_node d ns) (claim x c (dir_node d ns))) → AllByRecursion P (record { child = spot_path c; moment = claim x c (dir_node d ns) } ∷ [])
      one q = subst (λ t. AllByRecursion P (if t then record { child = spot_path c; moment = claim x c (dir_node d ns) } ∷ [] else [])) e q

      since : GoesOn (claim x c (dir_node d ns)) (exclusive_since x (record { spot = c; dir = d }))
      since = goes_on-since (moment_at c.above d.epoch) (last_exclusive c.above (queue_of x d.down)) (first_claim x (spot_path c) d 0 ns) (first_claim_goes_on x (spot_path c) (moment_at c.above d.epoch) d 0 ns (λ f g. (below_goes_on c d h.0.clocked f g).0) h.1)

    mutual
      dirs-claimed : (c : Spot) (n : Node) → AllByRecursion IsOrdered (dirs_in c n) → AllByRecursion P (claims_in x c n) → AllByRecursion (IsClaimed P) (dirs_in c n)
      dirs-claimed c (leaf_node v) h p = tt
      dirs-claimed c (dir_node d ns) h p =
          (own-claim c d ns h (each-left P (claim_here x c (dir_node d ns) (claim x c (dir_node d ns))) (claims_among x (spot_path c) d 0 ns) p), placed-claimed (spot_path c) d 0 ns h.1 (each-right P (claim_here x c (dir_node d ns) (claim x c (dir_node d ns))) (claims_among x (spot_path c) d 0 ns) p))

      placed-claimed : (path : List ℕ) (d : DirValue) (i : ℕ) (ns : Nodes) → AllByRecursion IsOrdered (placed_dirs path d i ns) → AllByRecursion P (claims_among x path d i ns) → AllByRecursion (IsClaimed P) (placed_dirs path d i ns)
      placed-claimed path d i no_nodes h p = tt
      placed-claimed path d i (more_nodes n ns) h p =
          each-append (IsClaimed P) (dirs_in (spot_in path d i) n) (placed_dirs path d (i + 1) ns)
          (dirs-claimed (spot_in path d i) n (each-left IsOrdered (dirs_in (spot_in path d i) n) (placed_dirs path d (i + 1) ns) h) (each-left P (claims_in x (spot_in path d i) n) (claims_among x path d (i + 1) ns) p))
          (placed-claimed path d (i + 1) ns (each-right IsOrdered (dirs_in (spot_in path d i) n) (placed_dirs path d (i + 1) ns) h) (each-right P (claims_in x (spot_in path d i) n) (claims_among x path d (i + 1) ns) p))

    pub all-claimed : (m : MachineValue) → AllByRecursion IsOrdered (dirs_at m) → AllByRecursion P (claims_of x m) → AllByRecursion (IsClaimed P) (dirs_at m)
    unfolding dirs_at claims_of
    all-claimed m h p = placed-claimed [] m.top 0 m.kids h p
