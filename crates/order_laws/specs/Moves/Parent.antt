-- What the parent of a bus hands up of an item, wherever it stands; the top hands up all copies there are.
-- Proofs alone need it.
use Rattle.std.specs.Prelude.{ℕ, List, [], ◌++◌, map, Option, None}
use Rattle.order_laws.specs.TreeModel.State.Values.{DirValue, Nodes}
use Rattle.order_laws.specs.TreeModel.State.Leaf.{words_of_item}
use Rattle.order_laws.specs.TreeModel.State.Directory.{queue_of, stamp_of}
use Rattle.order_laws.specs.TreeModel.State.Place.{Where, at_top, at_child, where_path, spot_path}
use Rattle.order_laws.specs.TreeRules.Order.Copies.{CopyAt, cut, copies_here, first_erase, downs, gathered}
use Rattle.order_laws.specs.TreeRules.Order.Moments.{moment_at}

-- the moment, on the bus above, of the last stamp that its own bus took over
abbrev pub bound_at : Where → DirValue → List ℕ
bound_at at_top p = []
bound_at (at_child c) p = moment_at c.above p.epoch

-- the moment of its own bus
abbrev pub moment_in : Where → DirValue → List ℕ
moment_in w p = moment_at (where_path w) (stamp_of p)

-- what its down list does to what stands below it, and what it brings; nothing comes down to the top but exclusives
abbrev pub erased_at : ℕ → Where → DirValue → Option (List ℕ)
erased_at x at_top p = None
erased_at x (at_child c) p = first_erase c.above (queue_of x p.down)

abbrev pub downs_at : ℕ → Where → DirValue → List CopyAt
downs_at x at_top p = []
downs_at x (at_child c) p = downs (spot_path c) c.above (queue_of x p.down)

-- its replies, as copies of the parent of the bus above, whose clock is b
abbrev pub replies_up : ℕ → Where → List ℕ → DirValue → List CopyAt
replies_up x at_top b p = []
replies_up x (at_child c) b p = copies_here c.above b (words_of_item x p.replies)

abbrev pub hand_of : ℕ → Where → List ℕ → DirValue → Nodes → List CopyAt
hand_of x w b p ns = (map (cut (erased_at x w p)) (gathered x (where_path w) (bound_at w p) p ns) ++ downs_at x w p) ++ replies_up x w b p
