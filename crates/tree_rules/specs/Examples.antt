-- Runs that the definitions are computed on.
use Rattle.std.specs.Prelude.{◌≡◌, ℕ, Bool, true, ◌&&◌, List, [], ◌∷◌, ◌++◌, length, take}
use Rattle.tree_rules.specs.DdmTypes.declared.turns.Turn.{Turn}
use Rattle.tree_model.specs.State.Values.{MachineValue}
use Rattle.tree_model.specs.State.Shape.{is_shaped}
use Rattle.tree_model.specs.Turns.Machine.{turn_of, run_of}
use Rattle.tree_rules.specs.FlatModel.Flat.{FlatMachine}
use Rattle.tree_model.specs.Start.Sources.{ImageValue, TreeValue}
use Rattle.tree_model.specs.Start.Machine.{start_machine, flat_start_of}
use Rattle.tree_rules.specs.Bus.Rules.{run_holds}
use Rattle.tree_rules.specs.Order.Rules.{run_in_order}
use Rattle.tree_rules.specs.Witness.{busy_has_cause}

-- ---- two harts that store to one word

abbrev pub two_writers_tree : TreeValue
two_writers_tree =
    record {
      levels = (2 ∷ []) ∷ [];
      way_count = 4;
      sizes = record { sets = 1; buffer = 1; parking = 1; down = 16; requests = 16; replies = 16 };
      stack_base = 196608;
      stack_bytes = 0;
      item_bytes = 16;
    }

abbrev pub two_writers_image : ImageValue
two_writers_image =
    record {
      entry = 0x10000;
      segments = record {
        header = 0;
        vaddr = 0x10000;
        flags = 5;
        bytes = 183 ∷ 2 ∷ 2 ∷ 0 ∷ 131 ∷ 163 ∷ 2 ∷ 0 ∷ 19 ∷ 3 ∷ 21 ∷ 0 ∷ 35 ∷ 160 ∷ 98 ∷ 0
            ∷ [];
        memsz = 16;
      }
          ∷ record { header = 1; vaddr = 0x20000; flags = 6; bytes = 5 ∷ 0 ∷ 0 ∷ 0 ∷ []; memsz = 16 } ∷ [];
    }

abbrev pub two_writers_start : MachineValue
two_writers_start = start_machine two_writers_tree two_writers_image

-- the flat machine at the same start
abbrev pub two_writers_flat : FlatMachine
two_writers_flat = flat_start_of two_writers_tree two_writers_image

abbrev pub two_writers_turns : List Turn
two_writers_turns =
    (Turn.Hart 0 0) ∷ (Turn.Hart 0 0) ∷ (Turn.Request 0 0) ∷ (Turn.Reply 0 1) ∷ (Turn.Hart 0 0) ∷
    (Turn.Hart 0 0) ∷ (Turn.Hart 0 0) ∷ (Turn.Hart 1 0) ∷ (Turn.Hart 1 0) ∷ (Turn.Hart 1 0) ∷
    (Turn.Hart 1 0) ∷ (Turn.Request 0 1) ∷ (Turn.Request 0 0) ∷ (Turn.Down 0) ∷ (Turn.Hart 1 0) ∷
    (Turn.Request 0 0) ∷ (Turn.Reply 0 1) ∷ (Turn.Request 0 0) ∷ (Turn.Down 0) ∷ (Turn.Hart 0 0) ∷ []

-- the machine after so many turns
abbrev pub two_writers_after : ℕ → MachineValue
two_writers_after count = (run_of (take count two_writers_turns) two_writers_start).machine

-- ---- a load that reads an old word after a store was done, and a load of a flag that doesn't

abbrev pub stale_load_tree : TreeValue
stale_load_tree =
    record {
      levels = (2 ∷ []) ∷ (2 ∷ 2 ∷ []) ∷ [];
      way_count = 4;
      sizes = record { sets = 1; buffer = 1; parking = 1; down = 16; requests = 16; replies = 16 };
      stack_base = 196608;
      stack_bytes = 0;
      item_bytes = 16;
    }

abbrev pub stale_load_image : ImageValue
stale_load_image =
    record {
      entry = 0x10000;
      segments = record {
        header = 0;
        vaddr = 0x10000;
        flags = 5;
        bytes = 183 ∷ 2 ∷ 2 ∷ 0 ∷ 131 ∷ 163 ∷ 2 ∷ 0 ∷ 99 ∷ 8 ∷ 5 ∷ 0 ∷ 3 ∷ 164 ∷ 2 ∷ 0
            ∷ 131 ∷ 164 ∷ 2 ∷ 1 ∷ 3 ∷ 166 ∷ 2 ∷ 0 ∷ 35 ∷ 160 ∷ 178 ∷ 0 ∷ 35 ∷ 168 ∷ 178
            ∷ 0 ∷ [];
        memsz = 32;
      }
          ∷ record { header = 1; vaddr = 0x20000; flags = 6; bytes = 5 ∷ 0 ∷ 0 ∷ 0 ∷ []; memsz = 32 } ∷ [];
    }

abbrev pub stale_load_start : MachineValue
stale_load_start = start_machine stale_load_tree stale_load_image

-- the flat machine at the same start
abbrev pub stale_load_flat : FlatMachine
stale_load_flat = flat_start_of stale_load_tree stale_load_image

abbrev pub stale_load_turns : List Turn
stale_load_turns =
    (Turn.Hart 3 0) ∷ (Turn.Hart 3 0) ∷ (Turn.Request 2 1) ∷ (Turn.Reply 2 0) ∷ (Turn.Hart 3 0) ∷
    (Turn.Hart 3 0) ∷ (Turn.Hart 0 0) ∷ (Turn.Hart 0 0) ∷ (Turn.Request 1 0) ∷ (Turn.Request 0 0) ∷
    (Turn.Down 2) ∷ (Turn.Reply 2 0) ∷ (Turn.Reply 0 1) ∷ (Turn.Down 1) ∷ (Turn.Hart 0 0) ∷
    (Turn.Hart 0 0) ∷ (Turn.Hart 0 0) ∷ (Turn.Request 1 0) ∷ (Turn.Request 0 0) ∷ (Turn.Down 0) ∷
    (Turn.Down 1) ∷ (Turn.Hart 0 0) ∷ (Turn.Hart 3 0) ∷ []

-- the machine after so many turns
abbrev pub stale_load_after : ℕ → MachineValue
stale_load_after count = (run_of (take count stale_load_turns) stale_load_start).machine

-- the same run goes on to the load of the flag
abbrev pub stale_load_rest : List Turn
stale_load_rest =
    (Turn.Hart 0 0) ∷ (Turn.Request 1 0) ∷ (Turn.Request 0 0) ∷ (Turn.Down 2) ∷ (Turn.Down 2) ∷
    (Turn.Reply 2 1) ∷ (Turn.Reply 0 1) ∷ (Turn.Down 1) ∷ (Turn.Request 1 0) ∷ (Turn.Request 0 0) ∷
    (Turn.Down 0) ∷ (Turn.Down 1) ∷ (Turn.Hart 0 0) ∷ (Turn.Down 2) ∷ (Turn.Hart 3 0) ∷
    (Turn.Request 2 1) ∷ (Turn.Request 0 1) ∷ (Turn.Down 1) ∷ (Turn.Reply 1 0) ∷ (Turn.Reply 0 0) ∷
    (Turn.Down 2) ∷ (Turn.Hart 3 0) ∷ (Turn.Hart 3 0) ∷ []

abbrev pub stale_load_all : List Turn
stale_load_all = stale_load_turns ++ stale_load_rest

-- ---- the last copy of an item leaves its leaf, is passed on and parked

abbrev pub last_copy_tree : TreeValue
last_copy_tree =
    record {
      levels = (2 ∷ []) ∷ (1 ∷ 1 ∷ []) ∷ [];
      way_count = 1;
      sizes = record { sets = 1; buffer = 1; parking = 1; down = 2; requests = 2; replies = 2 };
      stack_base = 196608;
      stack_bytes = 0;
      item_bytes = 16;
    }

abbrev pub last_copy_image : ImageValue
last_copy_image =
    record {
      entry = 0x10000;
      segments = record {
        header = 0;
        vaddr = 0x10000;
        flags = 5;
        bytes = 183 ∷ 2 ∷ 2 ∷ 0 ∷ 131 ∷ 163 ∷ 2 ∷ 0 ∷ 55 ∷ 3 ∷ 1 ∷ 0 ∷ 3 ∷ 36 ∷ 3 ∷ 0
            ∷ [];
        memsz = 16;
      }
          ∷ record { header = 1; vaddr = 0x20000; flags = 6; bytes = 5 ∷ 0 ∷ 0 ∷ 0 ∷ []; memsz = 16 } ∷ [];
    }

abbrev pub last_copy_start : MachineValue
last_copy_start = start_machine last_copy_tree last_copy_image

-- the flat machine at the same start
abbrev pub last_copy_flat : FlatMachine
last_copy_flat = flat_start_of last_copy_tree last_copy_image

abbrev pub last_copy_turns : List Turn
last_copy_turns =
    (Turn.Hart 0 0) ∷ (Turn.Hart 0 0) ∷ (Turn.Request 1 0) ∷ (Turn.Request 0 0) ∷ (Turn.Down 2) ∷
    (Turn.Reply 2 0) ∷ (Turn.Reply 0 1) ∷ (Turn.Down 1) ∷ (Turn.Hart 0 0) ∷ (Turn.Leave 1 0 0) ∷
    (Turn.Leave 0 0 0) ∷ (Turn.Down 2) ∷ (Turn.Leave 0 1 0) ∷ (Turn.Down 1) ∷ (Turn.Hart 0 0) ∷
    (Turn.Hart 0 0) ∷ (Turn.Request 1 0) ∷ (Turn.Leave 1 0 0) ∷ (Turn.Down 1) ∷ (Turn.Hart 0 0) ∷
    (Turn.Leave 0 0 0) ∷ (Turn.Hart 1 0) ∷ (Turn.Hart 1 0) ∷ (Turn.Hart 1 0) ∷ (Turn.Hart 1 0) ∷
    (Turn.Leave 2 0 0) ∷ (Turn.Leave 0 1 0) ∷ (Turn.Down 1) ∷ []

-- the machine after so many turns
abbrev pub last_copy_after : ℕ → MachineValue
last_copy_after count = (run_of (take count last_copy_turns) last_copy_start).machine

-- ---- what is said of each

-- in the machine and after every turn
unfoldable pub run_keeps : (MachineValue → Bool) → List Turn → MachineValue → Bool
run_keeps test [] m = test m
run_keeps test (t ∷ ts) m = test m && run_keeps test ts (turn_of t m).machine

unfoldable pub causes_hold : List Turn → MachineValue → Bool
causes_hold [] m = true
causes_hold (t ∷ ts) m = busy_has_cause t m (turn_of t m).answer && causes_hold ts (turn_of t m).machine

pub record KeepsRules (flat : FlatMachine) (turns : List Turn) (start : MachineValue) (completed : ℕ) : Type 0 where
  -- the run completes as many instructions as it is meant to
  pub ops : length (run_of turns start).machine.ops ≡ completed
  -- the shape, the rules of a bus and the rules of order hold at the start and after every turn
  pub shaped : run_keeps is_shaped turns start ≡ true
  pub bus : run_holds turns start ≡ true
  pub order : run_in_order flat turns start ≡ true
  -- and every busy turn names a fact
  pub causes : causes_hold turns start ≡ true
