-- A state that was read, judged by the rules of a bus and of time: the first that is broken, and where.
-- Letters: m is a machine, p the directory over a bus and ns its children, x an item, o an operation.
-- To be believed: it is how a checkpoint is judged.
use Rattle.std.specs.Prelude.{ℕ, ◌+◌, Bool, true, not, ◌&&◌, ◌||◌, nat_eq, List, [], ◌∷◌, length, find, Option, Some}
use Rattle.std.specs.Prelude.{None, option_map, Result, Err, if◌then◌else◌}
use Rattle.std.specs.List.{list_any, range_with_len}
use Rattle.state_judging.specs.DdmTypes.declared.operations.Op.{Op}
use Rattle.state_judging.specs.DdmTypes.Keys.{key_less}
use Rattle.state_judging.specs.TreeModel.State.Lists.{first_some}
use Rattle.state_judging.specs.TreeModel.State.Values.{DirValue, Node, MachineValue}
use Rattle.state_judging.specs.TreeModel.State.Directory.{is_top}
use Rattle.state_judging.specs.TreeModel.State.Shape.{depth_of}
use Rattle.state_judging.specs.TreeModel.Turns.Machine.{ask_bus}
use Rattle.state_judging.specs.TreeRules.Statements.{test_of, each, each_pair, both}
use Rattle.state_judging.specs.TreeRules.Bus.Faces.{parent_face, faces_of}
use Rattle.state_judging.specs.TreeRules.Bus.Item.{bits_of, item_holds}
use Rattle.state_judging.specs.TreeRules.Bus.Rules.{items_of_machine, kept_places, held_at_top}
use Rattle.state_judging.specs.TreeRules.Order.Places.{DirAt, leaves_at, dirs_at}
use Rattle.state_judging.specs.TreeRules.Order.Time.{has_leaf_path, is_before_now, takes_past, lies_between, may_stand_behind}
use Rattle.state_reading.specs.declared.StateRefusal.{StateRefusal}
use Rattle.state_reading.specs.declared.StateRefusal.TheVariants.{BrokenRule, BrokenStamp, BrokenKey}
use Rattle.state_reading.specs.Reading.{Read, and_then, given}
use Rattle.state_reading.specs.Machine.{read_words}

-- ---- the rules of a bus

-- The item keeps the rules of this bus. That who was granted a read holds nothing isn't asked of it: of a child that is a directory
-- the rules of its own bus say so, and where they are broken that bus is named.
abbrev pub item_kept_at : DirValue → List Node → ℕ → Bool
item_kept_at p ns x = item_holds (parent_face x p) (record (bits_of (parent_face x p) (faces_of x ns)) { granted = true })

module _ (m : MachineValue) where
  -- the item keeps the rules of this bus; on the top's bus also those of the top
  abbrev pub keeps_rules_at : DirValue → List Node → ℕ → Bool
  keeps_rules_at p ns x = item_kept_at p ns x && (not (is_top p) || held_at_top m x)

  -- as many places are reserved as are kept
  abbrev pub keeps_places : DirValue → Bool
  keeps_places p = nat_eq p.reserved (kept_places p (range_with_len 0 (items_of_machine m)))

  -- where they aren't, the bus is broken at item 0
  abbrev pub broken_item : DirValue → List Node → Option ℕ
  broken_item p ns = if keeps_places p then find (λ x. not (keeps_rules_at p ns x)) (range_with_len 0 (items_of_machine m)) else Some 0

  abbrev pub or_none : Option (Option ℕ) → Option ℕ
  or_none None = None
  or_none (Some o) = o

  abbrev pub broken_at : ℕ → Option StateRefusal
  broken_at bus = option_map (λ x. BrokenRule bus x) (or_none (ask_bus bus (λ w p ns. broken_item p ns) None m))

  -- the least bus, and the least item there
  abbrev pub broken_among : List ℕ → Option StateRefusal
  broken_among [] = None
  broken_among (bus ∷ buses) = first_some (broken_at bus) (broken_among buses)

-- ---- the stamps of the down list over a bus

abbrev pub stamps_in_order : DirAt → Bool
stamps_in_order c = test_of (both (takes_past c) (both (each (lies_between c) c.dir.down) (each_pair (may_stand_behind c) c.dir.down)))

abbrev pub is_over : ℕ → DirAt → Bool
is_over bus c = nat_eq c.dir.bus bus && not (stamps_in_order c)

abbrev pub stamps_broken : List DirAt → ℕ → Bool
stamps_broken cs bus = list_any (is_over bus) cs

-- ---- the keys of operations

module _ (m : MachineValue) where
  -- it has its leaf's path and is less than the present key there
  abbrev pub is_key_of_leaf : Op → Bool
  is_key_of_leaf o = test_of (both (each (has_leaf_path (depth_of m) o) (leaves_at m)) (each (is_before_now (depth_of m) o) (leaves_at m)))

  abbrev pub same_key : Op → Op → Bool
  same_key o p = not (key_less o.key p.key || key_less p.key o.key)

  -- of the operations from number k on, behind those before them, the first whose key isn't one
  abbrev pub broken_key : List Op → ℕ → List Op → Option StateRefusal
  broken_key before k [] = None
  broken_key before k (o ∷ ops) =
      first_some (if is_key_of_leaf o && not (list_any (same_key o) before) then None else Some (BrokenKey k))
      (broken_key (o ∷ before) (k + 1) ops)

-- ---- all of them, in this order

unfoldable pub judged : MachineValue → Option StateRefusal
judged m =
    first_some (broken_among m (range_with_len 0 (length m.traffic)))
    (first_some (option_map (λ bus. BrokenStamp bus) (find (stamps_broken (dirs_at m)) (range_with_len 0 (length m.traffic))))
    (broken_key m [] 0 m.ops))

abbrev pub unless_judged : Option StateRefusal → MachineValue → ℕ → List ℕ → Result (Read MachineValue) StateRefusal
unless_judged None m k ws = given m k ws
unless_judged (Some r) m k ws = Err r

-- a whole state, read into a machine before its first turn: in it so many instructions were completed
unfoldable pub read_state : MachineValue → ℕ → ℕ → List ℕ → Result (Read MachineValue) StateRefusal
read_state m retired k ws = and_then (read_words m retired k ws) (λ m k ws. unless_judged (judged m) m k ws)
