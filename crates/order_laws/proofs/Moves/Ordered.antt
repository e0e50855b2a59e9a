-- What is known of a part of the tree before a turn: its stamps are in order; and the moments above it.
use Rattle.std.proofs.Common.{◌≡◌, ℕ, ◌+◌, true, List, [], ◌∷◌, length, take, IfSome, refl, ap, ◌∙◌, arith}
use Rattle.std.specs.List.{AllByRecursion}
use Rattle.std.proofs.lemmas.List.{length-append}
use Rattle.order_laws.specs.TreeModel.State.Values.{DirValue, Node, Nodes, leaf_node, dir_node, children}
use Rattle.order_laws.specs.TreeModel.State.Directory.{stamp_of, queue_of}
use Rattle.order_laws.specs.TreeModel.State.Place.{Where, at_top, at_child, where_path, spot_path}
use Rattle.bus_laws.specs.KeepsBus.{IsTopBusOk}
use Rattle.order_laws.specs.TreeRules.Order.Copies.{first_erase}
use Rattle.order_laws.specs.TreeRules.Order.Directories.{IsClocked, IsOrdered}
use Rattle.order_laws.specs.TreeRules.Order.Moments.{less, moment_at, moment_length, GoesOn}
use Rattle.order_laws.specs.TreeRules.Order.Places.{dirs_in, placed_dirs}
use Rattle.order_lists.proofs.Clocks.{here}
use Rattle.order_laws.proofs.Moves.Below.{before_later, some_weaker, queue-late, below_goes_on, shallow}
use Rattle.order_lists.proofs.Moments.{less-asymmetric}
use Rattle.order_lists.proofs.Stamps.{moment_at-above, moment_at-stamp, moment_at-length}
use Rattle.order_laws.specs.Moves.Parent.{bound_at, erased_at}
use Rattle.order_laws.specs.Moves.Carries.{IsBoundOf, GoesOnAbove}

-- ---- what is known of a part of the tree

-- each directory's stamps are in order; the top has no bus above it
abbrev pub OrderedAt : Where → Node → Type 0
OrderedAt at_top (leaf_node v) = Unit {0}
OrderedAt at_top (dir_node d ns) = (d.level ≡ 0) × AllByRecursion IsOrdered (placed_dirs [] d 0 ns)
OrderedAt (at_child c) n = AllByRecursion IsOrdered (dirs_in c n)

abbrev pub TopAt : ℕ → Where → Node → Type 0
TopAt count at_top (leaf_node v) = Unit {0}
TopAt count at_top (dir_node d ns) = IsTopBusOk count d (children ns)
TopAt count (at_child c) n = Unit {0}

pub ordered-below : (w : Where) (d : DirValue) (ns : Nodes) → OrderedAt w (dir_node d ns) → AllByRecursion IsOrdered (placed_dirs (where_path w) d 0 ns)
ordered-below at_top d ns h = h.1
ordered-below (at_child c) d ns h = h.1

-- ---- moments above

-- an end past a moment from which the new one goes on: the new one goes on from it, too
pub goes_on-later : (f b e : List ℕ) → GoesOn f b → length e ≡ length b → less b e ≡ true → GoesOn f e
goes_on-later f b e g l h = record { longer = rw l g.longer; at_most = less-asymmetric (take (length e) f) e (before_later f b e g l h) }

-- the moment of the stamp that a bus took over last is one with which its present one begins
pub own-bound : (w : Where) (d : DirValue) (ns : Nodes) → OrderedAt w (dir_node d ns) → IsBoundOf (where_path w) (stamp_of d) (bound_at w d)
own-bound at_top d ns h = record { begins = refl; size = omega arith }
own-bound (at_child c) d ns h =
    let k : IsClocked (here c d) = h.0.clocked in
    let one : length (spot_path c) ≡ length c.above + 1 = length-append c.above (c.number ∷ []) in
    let long : length (moment_at c.above d.epoch) ≡ moment_length (length c.above) = moment_at-length c.above d.epoch (shallow c d k) in
    let same : moment_at c.above (stamp_of d) ≡ moment_at c.above d.epoch = moment_at-stamp c.above d.level d.count d.epoch (omega (arith, one, k.level)) (omega (arith, k.level, k.deep)) in
    record { begins = ap (λ l. take l (moment_at (spot_path c) (stamp_of d))) long ∙ moment_at-above c (stamp_of d) ∙ same; size = omega (arith, one, long) }

-- what goes on from a bus's present moment goes on from that of the bus above, and from the ends of what stands below
pub above-goes_on : (w : Where) (d : DirValue) (ns : Nodes) → OrderedAt w (dir_node d ns) → (f : List ℕ) → GoesOn f (moment_at (where_path w) (stamp_of d)) → GoesOnAbove w f
above-goes_on at_top d ns h f g = tt
above-goes_on (at_child c) d ns h f g = (below_goes_on c d h.0.clocked f g).1

pub erased-later : (x : ℕ) (w : Where) (d : DirValue) (ns : Nodes) → OrderedAt w (dir_node d ns) → (f : List ℕ) → GoesOn f (moment_at (where_path w) (stamp_of d)) → IfSome (erased_at x w d) (GoesOn f)
erased-later x at_top d ns h f g = tt
erased-later x (at_child c) d ns h f g = some_weaker (first_erase c.above (queue_of x d.down)) _ (GoesOn f) (λ e l. goes_on-later f (moment_at c.above d.epoch) e (below_goes_on c d h.0.clocked f g).0 l.0 l.1) (queue-late x c d h.0)
