-- What contracts see of the draws of a seed.
use Rattle.std.specs.Prelude.{◌≡◌, ℕ, Bool, true, false, List, ◌++◌, drop, length, map, take}
use Rattle.std.specs.List.{range_with_len}
use Rattle.rand_pcg.specs.Lcg.{Lcg}
use Rattle.seed_draws.specs.DdmTypes.declared.turns.Turn.{Turn}
use Rattle.seed_draws.specs.TextModel.Schedule.{ShapeView}
use Rattle.recording_model.specs.declared.SeedKind.{SeedKind}
use Rattle.recording_model.specs.LetBy.{Draw, even_draw, skewed_draws, turns_before, turns_of_tree}

-- for each bus how many turns stand before its own, and how many there are
pub record ArePlaces (shape : ShapeView) (places : List ℕ) (all : ℕ) : Type 0 where
  pub before : places ≡ map (turns_before shape) (range_with_len 0 (length shape.buses))
  pub count : all ≡ turns_of_tree shape

-- ---- what a turn is of: its place is that of its hart, or behind those before its bus one for Down where it isn't that itself, then so
-- many rows as wide as the bus, and then the children before its own

abbrev pub is_of_hart : Turn → Bool
is_of_hart (Turn.Hart hart victim) = true
is_of_hart (Turn.Down bus) = false
is_of_hart (Turn.Request bus child) = false
is_of_hart (Turn.Reply bus child) = false
is_of_hart (Turn.Leave bus child choice) = false

abbrev pub number_of : Turn → ℕ
number_of (Turn.Hart hart victim) = hart
number_of (Turn.Down bus) = bus
number_of (Turn.Request bus child) = bus
number_of (Turn.Reply bus child) = bus
number_of (Turn.Leave bus child choice) = bus

-- bus 0 for a hart: that is one that every tree has
abbrev pub bus_of : Turn → ℕ
bus_of (Turn.Hart hart victim) = 0
bus_of (Turn.Down bus) = bus
bus_of (Turn.Request bus child) = bus
bus_of (Turn.Reply bus child) = bus
bus_of (Turn.Leave bus child choice) = bus

abbrev pub downs_before : Turn → ℕ
downs_before (Turn.Hart hart victim) = 0
downs_before (Turn.Down bus) = 0
downs_before (Turn.Request bus child) = 1
downs_before (Turn.Reply bus child) = 1
downs_before (Turn.Leave bus child choice) = 1

abbrev pub rows_before : Turn → ℕ
rows_before (Turn.Hart hart victim) = 0
rows_before (Turn.Down bus) = 0
rows_before (Turn.Request bus child) = 0
rows_before (Turn.Reply bus child) = 1
rows_before (Turn.Leave bus child choice) = 2

abbrev pub child_of : Turn → ℕ
child_of (Turn.Hart hart victim) = 0
child_of (Turn.Down bus) = 0
child_of (Turn.Request bus child) = child
child_of (Turn.Reply bus child) = child
child_of (Turn.Leave bus child choice) = child

-- ---- rates and draws

-- the parts of a tree, the rates of its turns, and the generator that lets them by
pub record SkewView : Type 0 where
  pub shape : ShapeView
  pub rates : List ℕ
  pub words : Lcg

-- the turns that are left: in a block those before `end` from `next` on, and those that weren't drawn yet
abbrev pub turns_in_block : ℕ → ℕ → List Turn → List Turn → List Turn
turns_in_block next end block later = drop next (take end block) ++ later

-- the parts of a tree, and the draws that are left
pub record DrawsView : Type 0 where
  pub shape : ShapeView
  pub left : List Draw

-- those of these turns
abbrev pub draws_left : SeedKind → ShapeView → SkewView → List Turn → List Draw
draws_left SeedKind.Even shape skew turns = map even_draw turns
draws_left SeedKind.Skewed shape skew turns = skewed_draws shape skew.rates skew.words turns
