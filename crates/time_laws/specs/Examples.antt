-- A worked example: hart 0 is at a store and hart 1 at a load of one word. Each takes the item from the other before the other's
-- hart has its turn, and six turns later the machine is where it was, but for its time.
use Rattle.std.specs.Prelude.{◌≡◌, ℕ, true, false, [], ◌∷◌, replicate, Option, Some, None}
use Rattle.time_laws.specs.DdmTypes.declared.answers.TurnAnswer.{TurnAnswer}
use Rattle.time_laws.specs.DdmTypes.declared.operations.Effect.{Effect}
use Rattle.time_laws.specs.DdmTypes.declared.operations.Op.{Op}
use Rattle.time_laws.specs.DdmTypes.declared.sizes.Hold.{Hold}
use Rattle.time_laws.specs.DdmTypes.declared.sizes.LeafState.{LeafState}
use Rattle.time_laws.specs.DdmTypes.declared.turns.Turn.{Turn}
use Rattle.time_laws.specs.DdmTypes.Keys.{key_zero, stamp_zero}
use Rattle.tree_model.specs.State.Values.{WayValue, LeafValue, DirValue, no_note, leaf_node, no_nodes, more_nodes, MachineValue}
use Rattle.tree_model.specs.Turns.Machine.{no_traffic, run_of, turn_of}
use Rattle.time_laws.specs.Forget.{forget_answer, puts_of, Alike}

-- a hart at this pc, with the word's address in t0; it has put out one byte
abbrev leaf_at : ℕ → ℕ → Option WayValue → LeafValue
leaf_at number pc way = record {
  number = number;
  sizes = record { sets = 1; way_count = 1; buffer_room = 1; reply_room = 1; width = 4 };
  hart = record { registers = 0 ∷ 0 ∷ 0 ∷ 0 ∷ 0 ∷ 0x20000 ∷ replicate 26 0; pc = pc; halt = None };
  done = 1;
  ways = way ∷ [];
  buffer = [];
  slot = None;
  replies = [];
  reservation = None;
}

abbrev top : DirValue
top = record {
  bus = 0;
  level = 0;
  sizes = record { down_room = 4; request_room = 0; reply_room = 0; parking_room = 0; width = 4 };
  items = record { hold = Hold.Exclusive; note = no_note; answering = false } ∷ [];
  down = [];
  requests = [];
  replies = [];
  parked = [];
  reserved = 0;
  count = 0;
  epoch = stamp_zero;
}

abbrev put_of : ℕ → ℕ → Op
put_of hart byte = record { key = record key_zero { c0 = hart }; hart = hart; pc = 0xfffc; effect = Effect.Put byte }

-- sw zero, 0(t0) of hart 0; lw t2, 0(t0) of hart 1; leaf 0 has the only copy
abbrev pub before : MachineValue
before = record {
  code = record { address = 0x10000; word = 0x0002a023 } ∷ record { address = 0x10004; word = 0x0002a383 } ∷ [];
  items = record { size = 16; rows = record { address = 0x20000; writable = true } ∷ [] };
  top = top;
  kids =
      more_nodes
      (leaf_node (leaf_at 0 0x10000 (Some (record {
        way = 0;
        state = LeafState.Exclusive;
        words = 5 ∷ 0 ∷ 0 ∷ 0 ∷ [];
      }))))
      (more_nodes (leaf_node (leaf_at 1 0x10004 None)) no_nodes);
  ops = put_of 0 0x48 ∷ put_of 1 0x49 ∷ [];
  traffic = no_traffic ∷ [];
}

-- hart 1 asks for a copy, hart 0 for the only one; leaf 1 gets its copy and loses it
abbrev pub after : MachineValue
after = (run_of (Turn.Hart 1 0 ∷ Turn.Request 0 1 ∷ Turn.Hart 0 0 ∷ Turn.Reply 0 0 ∷ Turn.Request 0 0 ∷ Turn.Down 0 ∷ []) before).machine

pub record ACircle : Type 0 where
  pub grants : after.top.count ≡ 4
  pub traffic : after.traffic ≡ record { reads = 1; copies = 1; erases = 1; exclusives = 1; outs = 0; injects = 0 } ∷ []
  pub puts : puts_of after ≡ (0x48 ∷ []) ∷ (0x49 ∷ []) ∷ []
  pub alike : Alike before after
  -- the store that hart 0 then completes is the same operation at another time
  pub store_before :
      (turn_of (Turn.Hart 0 0) before).answer
      ≡ TurnAnswer.Retired
      (record { key = record key_zero { i = 1 }; hart = 0; pc = 0x10000; effect = Effect.Store 0x20000 5 0 })
  pub store_after :
      (turn_of (Turn.Hart 0 0) after).answer
      ≡ TurnAnswer.Retired
      (record {
        key = record key_zero { s0 = 4; i = 1 };
        hart = 0;
        pc = 0x10000;
        effect = Effect.Store 0x20000 5 0;
      })
  pub store_forgotten :
      forget_answer (turn_of (Turn.Hart 0 0) after).answer
      ≡ TurnAnswer.Retired
      (record { key = key_zero; hart = 0; pc = 0x10000; effect = Effect.Store 0x20000 5 0 })
