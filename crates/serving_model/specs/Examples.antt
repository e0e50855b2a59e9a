-- Worked examples: operations of small programs, and the schedules that serve them, on trees whose lists have one
-- place.
use Rattle.std.specs.Prelude.{◌≡◌, ℕ, ◌+◌, ◌/◌, ◌%◌, ◌*◌, Bool, true, List, [], ◌∷◌, ◌++◌, codes, length, map, replicate, Result, Ok, Err}
use Rattle.std.specs.List.{flat_map}
use Rattle.serving_model.specs.DdmTypes.Keys.{key_zero}
use Rattle.serving_model.specs.DdmTypes.declared.operations.Effect.{Effect}
use Rattle.serving_model.specs.DdmTypes.declared.operations.Effect.TheVariants.{Plain, Load, Store, Lr, ScOk, ScFail}
use Rattle.serving_model.specs.DdmTypes.declared.operations.Op.{Op}
use Rattle.serving_model.specs.DdmTypes.declared.turns.Turn.{Turn}
use Rattle.serving_model.specs.TreeModel.State.Values.{MachineValue}
use Rattle.serving_model.specs.TreeModel.Start.Sources.{ImageValue, TreeValue}
use Rattle.serving_model.specs.TreeModel.Start.Machine.{start_machine}
use Rattle.serving_model.specs.TreeModel.Turns.Machine.{run_of}
use Rattle.serving_model.specs.TreeModel.Turns.Witness.{sorted_ops}
use Rattle.serving_model.specs.Rest.{is_at_rest}
use Rattle.serving_model.specs.Serving.{ServingRefusal, too_many_turns, serve_of, serve_from}
use Rattle.serving_model.specs.Texts.{served_text}

-- ---- machines and operations

abbrev pub word_bytes : ℕ → List ℕ
word_bytes w = w % 256 ∷ w / 256 % 256 ∷ w / 65536 % 256 ∷ w / 16777216 ∷ []

-- code at 0x10000, and an item at 0x20000 that begins with the word 5
abbrev pub program : List ℕ → ImageValue
program code = record {
  entry = 0x10000;
  segments =
      record { header = 0; vaddr = 0x10000; flags = 5; bytes = flat_map word_bytes code; memsz = 4 * length code }
      ∷ record { header = 1; vaddr = 0x20000; flags = 6; bytes = word_bytes 5; memsz = 16 } ∷ [];
}

-- one set of so many ways, and lists of one place
abbrev pub tree_with : List (List ℕ) → ℕ → TreeValue
tree_with levels ways = record {
  levels = levels;
  way_count = ways;
  sizes = record { sets = 1; buffer = 1; parking = 1; down = 1; requests = 1; replies = 1 };
  stack_base = 0x30000;
  stack_bytes = 0;
  item_bytes = 16;
}

-- what hart h does at instruction i; keys aren't looked at
abbrev pub does : ℕ → ℕ → Effect → Op
does h i effect = record { key = key_zero; hart = h; pc = 0x10000 + 4 * i; effect = effect }

abbrev pub text_of : List Op → MachineValue → List ℕ
text_of ops m = served_text (serve_of ops m)

-- the machine after the schedule, if there is one
abbrev pub machine_after : Result (List Turn) ServingRefusal → MachineValue → MachineValue
machine_after (Ok turns) m = (run_of turns m).machine
machine_after (Err refusal) m = m

abbrev pub ends_at_rest : List Op → MachineValue → Bool
ends_at_rest ops m = is_at_rest (machine_after (serve_of ops m) m)

-- ---- a store and loads: lui x5, 0x20; lw x7, 0(x5); addi x6, x10, 1; sw x6, 0(x5)

abbrev pub load_and_store : List ℕ
load_and_store = 0x000202b7 ∷ 0x0002a383 ∷ 0x00150313 ∷ 0x0062a023 ∷ []

abbrev pub loads_5 : ℕ → List Op
loads_5 h = does h 0 Plain ∷ does h 1 (Load 0x20000 5) ∷ []

abbrev pub stores : ℕ → ℕ → ℕ → List Op
stores h before after = does h 2 Plain ∷ does h 3 (Store 0x20000 before after) ∷ []

-- ---- LR and SC: lui x5, 0x20; lr.w x7, (x5); sc.w x6, x7, (x5)

abbrev pub reserve_and_store : List ℕ
reserve_and_store = 0x000202b7 ∷ 0x1002a3af ∷ 0x1872a32f ∷ []

abbrev pub reserves : ℕ → List Op
reserves h = does h 0 Plain ∷ does h 1 (Lr 0x20000 5) ∷ []

-- ---- served

abbrev pub one_level : MachineValue
one_level = start_machine (tree_with ((2 ∷ []) ∷ []) 2) (program load_and_store)

abbrev pub one_level_ops : List Op
one_level_ops = loads_5 0 ++ loads_5 1 ++ stores 0 5 1 ++ stores 1 1 2

-- On one bus with two leaves: a read across the bus, a store that erases the other copy, and one that reads first.
pub record OneLevel : Type 0 where
  pub text :
      text_of one_level_ops one_level
      ≡ codes "h 0 0\nh 0 0\ng 0 q 0\ng 0 r 1\nh 0 0\nh 1 0\nh 1 0\nh 0 0\nh 0 0\ng 0 q 0\ng 0 d\nh 0 0\n"
      ++ codes "h 1 0\nh 1 0\ng 0 q 1\ng 0 r 0\ng 0 q 1\ng 0 d\nh 1 0\nend\n"
  pub rests : ends_at_rest one_level_ops one_level ≡ true

abbrev pub two_levels : List ℕ → MachineValue
two_levels code = start_machine (tree_with ((2 ∷ []) ∷ (2 ∷ 2 ∷ []) ∷ []) 2) (program code)

abbrev pub two_level_ops : List Op
two_level_ops = loads_5 0 ++ loads_5 2 ++ loads_5 3 ++ stores 0 5 1

-- On two buses under one: reads over the top and beside, and a store that erases copies on both sides.
pub record TwoLevels : Type 0 where
  pub text :
      text_of two_level_ops (two_levels load_and_store)
      ≡ codes "h 0 0\nh 0 0\ng 1 q 0\ng 1 r 1\nh 0 0\nh 2 0\nh 2 0\ng 2 q 0\ng 0 q 1\ng 1 d\ng 1 r 0\n"
      ++ codes "g 0 r 0\ng 2 d\nh 2 0\nh 3 0\nh 3 0\ng 2 q 1\ng 2 r 0\nh 3 0\nh 0 0\nh 0 0\ng 1 q 0\n"
      ++ codes "g 0 q 0\ng 2 d\ng 0 d\ng 1 d\nh 0 0\nend\n"
  pub rests : ends_at_rest two_level_ops (two_levels load_and_store) ≡ true

abbrev pub three_levels : MachineValue
three_levels = start_machine (tree_with ((2 ∷ []) ∷ (2 ∷ 2 ∷ []) ∷ (2 ∷ 2 ∷ 2 ∷ 2 ∷ []) ∷ []) 2) (program load_and_store)

abbrev pub three_level_ops : List Op
three_level_ops = loads_5 0 ++ loads_5 3 ++ loads_5 6 ++ stores 6 5 7

-- On three levels: a read that turns half way up, one that turns at the top, and an erase of copies on all sides.
pub record ThreeLevels : Type 0 where
  pub text :
      text_of three_level_ops three_levels
      ≡ codes "h 0 0\nh 0 0\ng 3 q 0\ng 3 r 1\nh 0 0\nh 3 0\nh 3 0\ng 4 q 1\ng 1 q 1\ng 3 d\ng 3 r 0\n"
      ++ codes "g 1 r 0\ng 4 d\nh 3 0\nh 6 0\nh 6 0\ng 6 q 0\ng 2 q 1\ng 0 q 1\ng 1 d\ng 3 d\ng 3 r 0\n"
      ++ codes "g 1 r 0\ng 0 r 0\ng 2 d\ng 6 d\nh 6 0\nh 6 0\nh 6 0\ng 6 q 0\ng 2 q 1\ng 0 q 1\ng 1 d\n"
      ++ codes "g 3 d\ng 4 d\ng 0 d\ng 2 d\ng 6 d\nh 6 0\nend\n"
  pub rests : ends_at_rest three_level_ops three_levels ≡ true

abbrev pub kept_ops : List Op
kept_ops = reserves 3 ++ does 3 2 (ScOk 0x20000 5 5) ∷ []

abbrev pub lost_ops : List Op
lost_ops = reserves 3 ++ reserves 0 ++ does 0 2 (ScOk 0x20000 5 5) ∷ does 3 2 (ScFail 0x20000) ∷ []

-- An SC whose reservation was kept stores; one whose reservation another hart's SC ended fails.
pub record Reservations : Type 0 where
  pub kept :
      text_of kept_ops (two_levels reserve_and_store)
      ≡ codes
      "h 3 0\nh 3 0\ng 2 q 1\ng 0 q 1\ng 1 d\ng 1 r 1\ng 0 r 0\ng 2 d\nh 3 0\nh 3 0\ng 2 q 1\ng 0 q 1\ng 1 d\ng 0 d\ng 2 d\nh 3 0\nend\n"
  pub lost :
      text_of lost_ops (two_levels reserve_and_store)
      ≡ codes "h 3 0\nh 3 0\ng 2 q 1\ng 0 q 1\ng 1 d\ng 1 r 1\ng 0 r 0\ng 2 d\nh 3 0\nh 0 0\nh 0 0\n"
      ++ codes "g 1 q 0\ng 1 r 1\nh 0 0\nh 0 0\ng 1 q 0\ng 0 q 0\ng 2 d\ng 0 d\ng 1 d\nh 0 0\nh 3 0\nend\n"

-- ---- refused

pub record Refusals : Type 0 where
  -- two items, and one way for them
  pub no_room :
      text_of (loads_5 0) (start_machine (tree_with ((2 ∷ []) ∷ []) 1) (program load_and_store))
      ≡ codes "ddm: no room: ways\n"
  -- another word is loaded
  pub other_word :
      text_of (loads_5 0 ++ does 1 0 Plain ∷ does 1 1 (Load 0x20000 6) ∷ []) one_level
      ≡ codes "ddm: witness line 4: not served\n"
  -- the SC fails, and has its reservation
  pub failing :
      text_of (reserves 3 ++ does 3 2 (ScFail 0x20000) ∷ []) (two_levels reserve_and_store)
      ≡ codes "ddm: witness line 3: not served\n"
  -- 1,048,575 turns before line 7
  pub too_many : serve_from 7 1048575 (loads_5 0) one_level ≡ Err (too_many_turns 8)

-- ---- keys

-- the harts of a run's operations in the order of their keys
abbrev pub harts_by_key : MachineValue → List ℕ
harts_by_key m = map (λ (o : Op). o.hart) (sorted_ops m.ops)

-- lui x5, 0x20 three times
abbrev pub three_plain : MachineValue
three_plain = start_machine (tree_with ((2 ∷ []) ∷ []) 2) (program (replicate 3 0x000202b7))

abbrev pub plain_ops : List Op
plain_ops = does 0 0 Plain ∷ does 1 0 Plain ∷ does 0 1 Plain ∷ []

-- Keys needn't ascend in the order of a served run. Each hart completes an instruction that nobody else sees, and then
-- hart 0 another: no bus grants anything, so its second key is less than that of hart 1.
pub record KeysDiffer : Type 0 where
  pub completed : map (λ (o : Op). o.hart) (machine_after (serve_of plain_ops three_plain) three_plain).ops ≡ 0 ∷ 1 ∷ 0 ∷ []
  pub by_key : harts_by_key (machine_after (serve_of plain_ops three_plain) three_plain) ≡ 0 ∷ 0 ∷ 1 ∷ []
