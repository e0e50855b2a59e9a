use Rattle.std.proofs.Common.{ap, ℕ}
use Rattle.std.specs.Prelude.{option_map}
use Rattle.leaf_protocol.specs.TreeModel.declared.LeafSpot.{LeafSpot}
use Rattle.leaf_protocol.proofs.Reading.{spot-in-way, spot-in-buffer}
use Rattle.leaf_protocol.proofs.entries.Entries.spot.Goals as goal

pub returns-in-Some : goal.returns-in-Some
returns-in-Some g c = rw (← c.self.view_is) (spot-in-way c.self.invariant c.args.item c.in-Some.way _ c.in-Some.ensures.value)

pub returns-in-Some-find : goal.returns-in-Some-find
returns-in-Some-find g c = rw (← c.self.view_is) (spot-in-buffer c.self.invariant c.args.item _ c.in-None.ensures.value (ap (option_map (λ (k : ℕ). LeafSpot.Buffer k)) c.in-Some-find.ensures.place))

pub returns-in-None-find : goal.returns-in-None-find
returns-in-None-find g c = rw (← c.self.view_is) (spot-in-buffer c.self.invariant c.args.item _ c.in-None.ensures.value (ap (option_map (λ (k : ℕ). LeafSpot.Buffer k)) c.in-None-find.ensures.place))
