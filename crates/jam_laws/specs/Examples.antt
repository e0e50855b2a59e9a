-- Runs on which the turn that goes on is computed; and one that jams, for its lists have one place each.
use Rattle.std.specs.Prelude.{◌≡◌, ℕ, Bool, true, false, List, [], ◌∷◌, ◌++◌, map, replicate, take, Some, None}
use Rattle.std.specs.List.{list_all}
use Rattle.jam_laws.specs.DdmTypes.declared.answers.TurnAnswer.{TurnAnswer}
use Rattle.jam_laws.specs.DdmTypes.declared.sizes.TreeSizes.{TreeSizes}
use Rattle.jam_laws.specs.DdmTypes.declared.turns.Turn.{Turn}
use Rattle.jam_laws.specs.TreeModel.State.Values.{MachineValue}
use Rattle.jam_laws.specs.TreeModel.State.Shape.{is_shaped}
use Rattle.jam_laws.specs.TreeModel.Turns.Machine.{turn_of, run_of}
use Rattle.jam_laws.specs.TreeModel.Start.Sources.{ImageValue, TreeValue}
use Rattle.jam_laws.specs.TreeModel.Start.Machine.{start_machine}
use Rattle.jam_laws.specs.TreeRules.Bus.Rules.{items_of_machine, machine_holds}
use Rattle.jam_laws.specs.GoesOn.{some_leaf_waits, has_large_lists, finds_list_full, first_granted, unjamming_turn}

-- so many sets, and lists of so many places
abbrev pub sizes_of : ℕ → ℕ → TreeSizes
sizes_of sets places = record { sets = sets; buffer = 1; parking = 1; down = places; requests = places; replies = places }

abbrev pub tree_with : List (List ℕ) → ℕ → TreeSizes → TreeValue
tree_with levels ways sizes =
    record {
      levels = levels;
      way_count = ways;
      sizes = sizes;
      stack_base = 196608;
      stack_bytes = 0;
      item_bytes = 16;
    }

-- code at 0x10000, and so many bytes at 0x20000 that begin with these
abbrev pub program : List ℕ → ℕ → List ℕ → ℕ → ImageValue
program code code_bytes words bytes = record {
  entry = 0x10000;
  segments =
      record { header = 0; vaddr = 0x10000; flags = 5; bytes = code; memsz = code_bytes }
      ∷ record { header = 1; vaddr = 0x20000; flags = 6; bytes = words; memsz = bytes } ∷ [];
}

-- ---- one read: a hart loads a word that the other leaf holds

abbrev pub one_read_start : MachineValue
one_read_start =
    start_machine (tree_with ((2 ∷ []) ∷ []) 4 (sizes_of 1 16))
    (program (183 ∷ 2 ∷ 2 ∷ 0 ∷ 131 ∷ 163 ∷ 2 ∷ 0 ∷ 147 ∷ 8 ∷ 208 ∷ 5 ∷ 115 ∷ 0 ∷ 0 ∷ 0 ∷ []) 16 (5 ∷ 0 ∷ 0 ∷ 0 ∷ []) 16)

abbrev pub one_read_turns : List Turn
one_read_turns = Turn.Hart 0 0 ∷ Turn.Hart 0 0 ∷ Turn.Request 0 0 ∷ Turn.Reply 0 1 ∷ Turn.Hart 0 0 ∷ []

abbrev pub one_read_after : ℕ → MachineValue
one_read_after count = (run_of (take count one_read_turns) one_read_start).machine

pub record OneReadGoesOn : Type 0 where
  pub items : items_of_machine one_read_start ≡ 2
  pub large : has_large_lists one_read_start ≡ true
  -- the read was issued: its request goes on, and then the other leaf's reply
  pub asked : unjamming_turn (one_read_after 2) ≡ Some (Turn.Request 0 0)
  pub given : unjamming_turn (one_read_after 3) ≡ Some (Turn.Reply 0 1)
  -- nobody waits, before the word is loaded and after
  pub came : unjamming_turn (one_read_after 4) ≡ None
  pub loaded : unjamming_turn (one_read_after 5) ≡ None

-- ---- four leaves that add to one word, three items: before the first turn

abbrev pub four_leaves : ℕ → MachineValue
four_leaves places =
    start_machine (tree_with ((4 ∷ []) ∷ []) 2 (sizes_of 8 places))
    (program
    (183 ∷ 2 ∷ 2 ∷ 0 ∷ 19 ∷ 3 ∷ 64 ∷ 6 ∷ 147 ∷ 3 ∷ 16 ∷ 0 ∷ 47 ∷ 164 ∷ 114 ∷ 0 ∷ 19 ∷ 3 ∷ 243 ∷ 255 ∷ 227
    ∷ 28 ∷ 3 ∷ 254 ∷ 147 ∷ 8 ∷ 208 ∷ 5 ∷ 115 ∷ 0 ∷ 0 ∷ 0 ∷ []) 32 [] 16)

pub record FourLeaves : Type 0 where
  pub items : items_of_machine (four_leaves 16) ≡ 3
  pub too_small : has_large_lists (four_leaves 16) ≡ false
  pub just_less : has_large_lists (four_leaves 23) ≡ false
  pub large : has_large_lists (four_leaves 24) ≡ true
  pub none_waits : unjamming_turn (four_leaves 24) ≡ None

-- ---- two buses of three leaves under one, lists of one place: each hart loads a word that the other side holds

-- the loads of harts 0 to 2 are of items 3, 9 and 15 at leaf 3, those of harts 3 to 5 of items 6, 12 and 18 at leaf 0
abbrev pub crossing_start : MachineValue
crossing_start =
    start_machine (tree_with ((2 ∷ []) ∷ (3 ∷ 3 ∷ []) ∷ []) 4 (sizes_of 4 1))
    (program
    (183 ∷ 2 ∷ 2 ∷ 0 ∷ 19 ∷ 19 ∷ 101 ∷ 0 ∷ 147 ∷ 19 ∷ 85 ∷ 0 ∷ 51 ∷ 3 ∷ 115 ∷ 0 ∷ 179 ∷ 130 ∷ 98 ∷ 0 ∷ 147
    ∷ 35 ∷ 53 ∷ 0 ∷ 99 ∷ 148 ∷ 3 ∷ 0 ∷ 147 ∷ 130 ∷ 2 ∷ 241 ∷ 3 ∷ 164 ∷ 2 ∷ 0 ∷ []) 36 [] 256)

-- each hart issues its read
abbrev pub reads_issued : List Turn
reads_issued =
    replicate 8 (Turn.Hart 0 0) ++ replicate 8 (Turn.Hart 1 0) ++ replicate 8 (Turn.Hart 2 0)
    ++ replicate 9 (Turn.Hart 3 0) ++ replicate 9 (Turn.Hart 4 0) ++ replicate 9 (Turn.Hart 5 0)

-- a first read fills the replies of the directory over the other side, a second one those of a leaf, and a third the down list
abbrev pub lists_filled : List Turn
lists_filled =
    Turn.Request 2 0 ∷ Turn.Request 0 1 ∷ Turn.Down 1 ∷ Turn.Reply 1 0 ∷ Turn.Request 1 0 ∷ Turn.Request 0 0
    ∷ Turn.Down 2 ∷ Turn.Reply 2 0 ∷
    Turn.Request 2 1 ∷ Turn.Request 0 1 ∷ Turn.Down 1 ∷ Turn.Request 1 1 ∷ Turn.Request 0 0 ∷ Turn.Down 2 ∷
    Turn.Request 2 2 ∷ Turn.Request 0 1 ∷ Turn.Request 1 2 ∷ Turn.Request 0 0 ∷ []

-- after the reads were issued and so many more turns
abbrev pub crossing_after : ℕ → MachineValue
crossing_after count = (run_of (reads_issued ++ take count lists_filled) crossing_start).machine

abbrev pub answer_now : MachineValue → Turn → TurnAnswer
answer_now m t = (turn_of t m).answer

abbrev pub full_now : MachineValue → Turn → Bool
full_now m t = finds_list_full (turn_of t m).answer

-- buses are tried by number, and on a bus Down before Reply before Request
pub record TriedInOrder : Type 0 where
  pub lower_bus : unjamming_turn (crossing_after 1) ≡ Some (Turn.Request 0 1)
  pub down : unjamming_turn (crossing_after 2) ≡ Some (Turn.Down 1)
  pub reply : unjamming_turn (crossing_after 3) ≡ Some (Turn.Reply 1 0)
  pub lower_child : unjamming_turn (crossing_after 0) ≡ Some (Turn.Request 1 0)

-- all rules hold, all harts wait, and no bus goes on: each entry waits for a place that another one takes
pub record SmallListsJam : Type 0 where
  pub shape : is_shaped (crossing_after 18) ≡ true
  pub rules : machine_holds (crossing_after 18) ≡ true
  pub waits : some_leaf_waits (crossing_after 18) ≡ true
  pub jammed : first_granted (crossing_after 18) ≡ None
  pub harts :
      map (answer_now (crossing_after 18))
      (Turn.Hart 0 0 ∷ Turn.Hart 1 0 ∷ Turn.Hart 2 0 ∷ Turn.Hart 3 0 ∷ Turn.Hart 4 0 ∷ Turn.Hart 5 0 ∷ [])
      ≡ TurnAnswer.Waiting 3 ∷ TurnAnswer.Waiting 9 ∷ TurnAnswer.Waiting 15 ∷ TurnAnswer.Waiting 6
      ∷ TurnAnswer.Waiting 12 ∷ TurnAnswer.Waiting 18 ∷ []
  pub full :
      list_all (full_now (crossing_after 18))
      (Turn.Reply 0 0 ∷ Turn.Reply 0 1 ∷ Turn.Down 1 ∷ Turn.Reply 1 0 ∷ Turn.Down 2 ∷ Turn.Reply 2 0 ∷ [])
      ≡ true
