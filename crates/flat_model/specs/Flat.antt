-- The flat machine: all harts over one memory.
use Rattle.std.specs.Prelude.{ℕ, Bool, true, false, ◌&&◌, nat_eq, List, [], map, Option, Some, None, Result, Ok, Err}
use Rattle.std.specs.Prelude.{slice_set, slice_index_or, if◌then◌else◌}
use Rattle.std.specs.List.{range_with_len}
use Rattle.ddm_types.specs.declared.operations.Effect.{Effect}
use Rattle.ddm_types.specs.declared.operations.HaltCause.{HaltCause}
use Rattle.ddm_types.specs.declared.operations.HaltCause.TheVariants.{Breakpoint}
use Rattle.ddm_types.specs.declared.sizes.Start.{Start}
use Rattle.ddm_types.specs.CodeMap.{CodeWord}
use Rattle.ddm_types.specs.ItemTable.{ItemTable}
use Rattle.flat_model.specs.declared.Ask.{Ask}
use Rattle.flat_model.specs.declared.Ask.TheVariants.{Plain, Put, NeedsShared, NeedsExclusive, Conditional, Halt}
use Rattle.flat_model.specs.Hart.{HartValue, Finished, hart_start, ask_of, finish_of}

-- a hart, and the item that it has reserved
pub record FlatHart : Type 0 where
  pub hart : HartValue
  pub reserved : Option ℕ

-- the harts, and the words of each item
pub record FlatMachine : Type 0 where
  pub harts : List FlatHart
  pub words : List (List ℕ)

abbrev pub flat_hart_start : Start → ℕ → FlatHart
flat_hart_start start h = record { hart = hart_start start h; reserved = None }

-- the machine at its start, over these words
unfoldable pub flat_start : Start → List (List ℕ) → FlatMachine
flat_start start words = record { harts = map (flat_hart_start start) (range_with_len 0 start.harts); words = words }

-- what stands for a hart that the machine doesn't have: a halted one
abbrev pub no_flat_hart : FlatHart
no_flat_hart = record { hart = record { registers = []; pc = 0; halt = Some Breakpoint }; reserved = None }

abbrev pub flat_hart : FlatMachine → ℕ → FlatHart
flat_hart m h = slice_index_or m.harts h no_flat_hart

abbrev pub item_words : FlatMachine → ℕ → List ℕ
item_words m x = slice_index_or m.words x []

abbrev pub has_reserved : Option ℕ → ℕ → Bool
has_reserved None x = false
has_reserved (Some y) x = nat_eq y x

-- ---- the step of a hart

-- the words that a step stores, as the whole item
pub record Stored : Type 0 where
  pub item : ℕ
  pub words : List ℕ

-- what a step does: its effect, its hart afterwards with the reservation, and the item that it stores to
pub record Change : Type 0 where
  pub effect : Effect
  pub after : FlatHart
  pub stored : Option Stored

-- an instruction that changes no word
abbrev pub leaving : Finished → Option ℕ → Change
leaving f reserved = record { effect = f.effect; after = record { hart = f.hart; reserved = reserved }; stored = None }

-- one that stores to an item
abbrev pub storing_to : ℕ → Finished → Option ℕ → Change
storing_to x f reserved =
    record {
      effect = f.effect;
      after = record { hart = f.hart; reserved = reserved };
      stored = Some (record { item = x; words = f.words });
    }

-- an SC, which stores or fails, and ends its hart's reservation in either case
abbrev pub conditional : Bool → ℕ → (Bool → Finished) → Change
conditional true x finish = storing_to x (finish true) None
conditional false x finish = leaving (finish false) None

-- what a hart that isn't halted does, by what its instruction needs; `finish` is the instruction on an item's words
abbrev pub change_by : Ask → Option ℕ → (List ℕ → Bool → Finished) → (ℕ → List ℕ) → Bool → Result Change HaltCause
change_by Plain reserved finish words sc_ok = Ok (leaving (finish [] false) reserved)
change_by (Put byte) reserved finish words sc_ok = Ok (leaving (finish [] false) reserved)
change_by (NeedsShared x lr) reserved finish words sc_ok = Ok (leaving (finish (words x) false) (if lr then Some x else reserved))
change_by (NeedsExclusive x) reserved finish words sc_ok = Ok (storing_to x (finish (words x) false) reserved)
change_by (Conditional x) reserved finish words sc_ok = Ok (conditional (sc_ok && has_reserved reserved x) x (finish (words x)))
change_by (Halt cause) reserved finish words sc_ok = Err cause

-- the item whose words an instruction needs
abbrev pub asked_item : Ask → Option ℕ
asked_item Plain = None
asked_item (Put byte) = None
asked_item (NeedsShared x lr) = Some x
asked_item (NeedsExclusive x) = Some x
asked_item (Conditional x) = Some x
asked_item (Halt cause) = None

-- the hart's reservation after an instruction, by what it asks for
abbrev pub reserved_by_ask : Ask → Option ℕ → Option ℕ
reserved_by_ask Plain reserved = reserved
reserved_by_ask (Put byte) reserved = reserved
reserved_by_ask (NeedsShared x lr) reserved = if lr then Some x else reserved
reserved_by_ask (NeedsExclusive x) reserved = reserved
reserved_by_ask (Conditional x) reserved = None
reserved_by_ask (Halt cause) reserved = reserved

-- a halted hart answers its cause again
abbrev pub unless_halted : Option HaltCause → Result Change HaltCause → Result Change HaltCause
unless_halted None change = change
unless_halted (Some cause) change = Err cause

-- What a hart's step does, or why it halts. An SC stores exactly where `sc_ok` holds and the hart has its item reserved.
unfoldable pub hart_step : List CodeWord → ItemTable → FlatHart → (ℕ → List ℕ) → Bool → Result Change HaltCause
hart_step code items g words sc_ok =
    unless_halted g.hart.halt
    (change_by (ask_of code items g.hart) g.reserved (finish_of code items g.hart) words sc_ok)

-- ---- the machine after a step

-- a hart whose reservation ends if it is on this item
abbrev pub without_reserved : ℕ → FlatHart → FlatHart
without_reserved x g = record g { reserved = if has_reserved g.reserved x then None else g.reserved }

-- where a step stores to an item, each other hart's reservation on it ends
abbrev pub with_stored : FlatMachine → Option Stored → FlatMachine
with_stored m None = m
with_stored m (Some s) = record { harts = map (without_reserved s.item) m.harts; words = slice_set m.words s.item s.words }

abbrev pub with_hart : FlatMachine → ℕ → FlatHart → FlatMachine
with_hart m h after = record m { harts = slice_set m.harts h after }

abbrev pub with_change : FlatMachine → ℕ → Change → FlatMachine
with_change m h c = with_hart (with_stored m c.stored) h c.after

-- a step that completes or halts
abbrev pub FlatStepped : Type 0
FlatStepped = Result (Effect × FlatMachine) HaltCause

abbrev pub stepped : FlatMachine → ℕ → Result Change HaltCause → FlatStepped
stepped m h (Ok c) = Ok (c.effect, with_change m h c)
stepped m h (Err cause) = Err cause

-- the step of a hart: its effect and the machine after it, or why the hart halts
unfoldable pub flat_step : List CodeWord → ItemTable → FlatMachine → ℕ → Bool → FlatStepped
flat_step code items m h sc_ok = stepped m h (hart_step code items (flat_hart m h) (item_words m) sc_ok)

-- a halt changes nothing but the hart's halt cause
unfoldable pub flat_halted : FlatMachine → ℕ → HaltCause → FlatMachine
flat_halted m h cause = let g = flat_hart m h in with_hart m h (record g { hart = record g.hart { halt = Some cause } })

-- the machine after a step of either kind
abbrev pub machine_after : FlatMachine → ℕ → FlatStepped → FlatMachine
machine_after m h (Ok x) = x.1
machine_after m h (Err cause) = flat_halted m h cause
