-- How a reader of a film puts what it tells together again.
-- Letters: p and c are parts, c one that is told; m is a machine, t a turn.
use Rattle.std.specs.Prelude.{◌≡◌, ℕ, Bool, true, false, not, ◌&&◌, ◌||◌, nat_eq, List, [], ◌∷◌, length, map, filter}
use Rattle.std.specs.Prelude.{if◌then◌else◌, bytes_eq}
use Rattle.film_model.specs.DdmTypes.declared.turns.Turn.{Turn}
use Rattle.film_model.specs.TreeModel.State.Values.{Node, Nodes, leaf_node, dir_node, no_nodes, more_nodes, MachineValue, root_of}
use Rattle.film_model.specs.TreeModel.State.Rooms.{all_within}
use Rattle.film_model.specs.TreeModel.Turns.Machine.{turn_of}
use Rattle.film_model.specs.Part.{Part, has_value, changes}
use Rattle.film_model.specs.Still.{still}

abbrev pub part_key : Part → List ℕ
part_key p = p.key

-- a part has this key
abbrev pub has_key : List ℕ → List Part → Bool
has_key key [] = false
has_key key (p ∷ ps) = bytes_eq p.key key || has_key key ps

-- no two parts have the same key
abbrev pub has_keys_once : List Part → Bool
has_keys_once [] = true
has_keys_once (p ∷ ps) = not (has_key p.key ps) && has_keys_once ps

-- the told part of the same key; else the part stays
abbrev pub told_or_kept : List Part → Part → Part
told_or_kept [] p = p
told_or_kept (c ∷ cs) p = if bytes_eq c.key p.key then c else told_or_kept cs p

-- a list of parts in which those that are told were put
abbrev pub replayed : List Part → List Part → List Part
replayed told ps = map (told_or_kept told) ps

-- ---- a run

-- what is known of a part before the first one is told
abbrev pub without_value : Part → Part
without_value p = record { key = p.key; value = [] }

-- what each of the turns tells
abbrev pub told_by : List Turn → MachineValue → List (List Part)
told_by [] m = []
told_by (t ∷ ts) m = let now = turn_of t m in changes (still m) (still now.machine) ∷ told_by ts now.machine

-- what the head tells, and then each of the turns
abbrev pub told_in : List Turn → MachineValue → List (List Part)
told_in ts m = filter has_value (still m) ∷ told_by ts m

-- put in one after the other
abbrev pub all_replayed : List (List Part) → List Part → List Part
all_replayed [] ps = ps
all_replayed (told ∷ more) ps = all_replayed more (replayed told ps)

-- ---- machines that keep their keys

abbrev mutual
  -- each hart has this many registers
  pub have_registers : ℕ → Node → Bool
  have_registers count (leaf_node v) = nat_eq (length v.hart.registers) count
  have_registers count (dir_node d ns) = have_registers_among count ns

  pub have_registers_among : ℕ → Nodes → Bool
  have_registers_among count no_nodes = true
  have_registers_among count (more_nodes n ns) = have_registers count n && have_registers_among count ns

-- No two parts have the same key, each leaf and directory has a place for each of so many items, and each hart has 32 registers.
pub record IsReplayable (items : ℕ) (m : MachineValue) : Type 0 where
  pub once : has_keys_once (still m) ≡ true
  pub rooms : all_within items (root_of m) ≡ true
  pub registers : have_registers 32 (root_of m) ≡ true
