-- The turns of a seed that are still to come.
use Rattle.std.specs.Prelude.{◌≡◌, ℕ, ◌+◌, ◌*◌, ◌/◌, ◌%◌, ◌≤◌, List, length, map, replicate, slice_index_or}
use Rattle.std.specs.List.{range_with_len}
use Rattle.schedule_log.specs.DdmTypes.declared.turns.Turn.{Turn}
use Rattle.rand_pcg.specs.Lcg.{Lcg}
use Rattle.text_model.specs.Schedule.{ShapeView}
use Rattle.text_model.specs.Seeded.{bus_turn_from, turns_of_words, words_of}

-- so many turns of a generator's next words
abbrev pub turns_left : ShapeView → Lcg → ℕ → List Turn
turns_left shape g n = turns_of_words shape (words_of g (2 * n))

-- what a contract sees of a seed's turns: for which parts of a tree they are made, and those that are left
pub record SeededView : Type 0 where
  pub shape : ShapeView
  pub left : List Turn

abbrev pub seeded_view : ℕ → List ℕ → Lcg → ℕ → SeededView
seeded_view harts buses g n =
    let shape : ShapeView = record { harts = harts; buses = buses } in
    record { shape = shape; left = turns_left shape g n }

-- ---- parts

-- a bus, and how many children it has
pub record OneBus : Type 0 where
  pub bus : ℕ
  pub children : ℕ

abbrev pub bus_at : List ℕ → ℕ → OneBus
bus_at widths bus = record { bus = bus; children = slice_index_or widths bus 0 }

-- the buses of a tree with these numbers of children
abbrev pub buses_of : List ℕ → List OneBus
buses_of widths = map (bus_at widths) (range_with_len 0 (length widths))

-- and back
abbrev pub widths_in : List OneBus → List ℕ
widths_in buses = map (λ (b : OneBus). b.children) buses

-- there is a bus, and the buses stand by their numbers
pub record AreListed (buses : ℕ) (list : List OneBus) : Type 0 where
  pub some : 1 ≤ buses
  pub number : buses ≡ length list
  pub each : list ≡ buses_of (widths_in list)

-- the turns of a bus: those of each source stand together, by their choices
abbrev pub turn_at : ℕ → ℕ → ℕ → Turn
turn_at bus children place = bus_turn_from bus children (place % 16) (place / 16)

abbrev pub turns_of_bus : ℕ → ℕ → List Turn
turns_of_bus bus children = map (turn_at bus children) (range_with_len 0 ((1 + 3 * children) * 16))

-- a turn of the bus is drawn from these
pub record IsDrawnFrom (bus children by : ℕ) (list : List Turn) : Type 0 where
  pub few : children ≤ 16
  pub sources : by ≡ 1 + 3 * children
  pub turns : list ≡ turns_of_bus bus children

-- ---- buses that have as many children each

-- each of these numbers is this one
abbrev pub AreAll : ℕ → List ℕ → Type 0
AreAll n ns = ns ≡ replicate (length ns) n

-- their turns: those of each source of each bus stand together, by their choices
abbrev pub even_turn_at : ℕ → ℕ → ℕ → Turn
even_turn_at buses children place = bus_turn_from (place / 16 % buses) children (place % 16) (place / 16 / buses)

abbrev pub even_turns : ℕ → ℕ → List Turn
even_turns buses children = map (even_turn_at buses children) (range_with_len 0 (buses * (1 + 3 * children) * 16))

-- a turn of so many buses with as many children each is drawn from these
pub record AreEven (buses children sources : ℕ) (list : List Turn) : Type 0 where
  pub some : 1 ≤ buses
  pub few_buses : buses ≤ 256
  pub few : children ≤ 16
  pub all : sources ≡ buses * (1 + 3 * children)
  pub turns : list ≡ even_turns buses children
