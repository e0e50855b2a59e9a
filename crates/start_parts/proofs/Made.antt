-- The start's machine is a new machine of its parts: the traffic of each bus is none.
use Rattle.std.proofs.Common.{◌≡◌, ℕ, List, [], ◌∷◌, map, length, replicate, refl, ap}
use Rattle.start_parts.specs.TreeModel.Turns.Machine.{no_traffic}
use Rattle.start_parts.specs.TreeModel.Start.Sources.{TreeValue, ImageValue, bus_widths}
use Rattle.start_parts.specs.TreeModel.Start.Memory.{start_code, start_items}
use Rattle.start_parts.specs.TreeModel.Start.Machine.{start_machine}
use Rattle.cluster.specs.DdmTree.Machine.{machine_of, new_machine}
use Rattle.start_parts.specs.Counts.{counts_of}
pub use Rattle.start_parts.specs.Parts.{start_top, start_kids}

no_traffic-each : (ws : List ℕ) → map (λ (w : ℕ). no_traffic) ws ≡ replicate (length ws) no_traffic
no_traffic-each [] = refl
no_traffic-each (w ∷ ws) = ap (λ ts. no_traffic ∷ ts) (no_traffic-each ws)

pub start-made : (t : TreeValue) (i : ImageValue) → start_machine t i ≡ new_machine (start_code i) (start_items t i) (start_top t i) (start_kids t i) (counts_of t)
unfolding start_machine
start-made t i = ap (machine_of (start_code i) (start_items t i) (start_top t i) (start_kids t i) []) (no_traffic-each (bus_widths t))
