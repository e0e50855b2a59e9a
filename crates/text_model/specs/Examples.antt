-- Worked examples: small schedules, and the report and the trace of small runs.
use Rattle.std.specs.Prelude.{◌≡◌, ℕ, ◌+◌, ◌/◌, ◌<◌, List, [], ◌∷◌, Some, None, Ok, Err, ◌++◌, codes, replicate, take}
use Rattle.text_model.specs.DdmTypes.declared.turns.Turn.{Turn}
use Rattle.text_model.specs.DdmTypes.declared.turns.Turn.TheVariants.{Hart, Down, Request, Reply, Leave}
use Rattle.text_model.specs.DdmTypes.declared.keys.Key.{Key}
use Rattle.text_model.specs.DdmTypes.declared.operations.HaltCause.TheVariants.{Exit, FetchOutside}
use Rattle.text_model.specs.DdmTypes.declared.operations.Effect.{Effect}
use Rattle.text_model.specs.DdmTypes.declared.operations.Effect.TheVariants.{Plain, Put, Load, Store}
use Rattle.text_model.specs.DdmTypes.declared.operations.Op.{Op}
use Rattle.text_model.specs.DdmTypes.declared.answers.TxKind.{TxKind}
use Rattle.text_model.specs.DdmTypes.declared.answers.TxKind.TheVariants.{ReadTx, DataTx, EraseTx, ExclusiveTx, InjectTx, OutTx}
use Rattle.text_model.specs.DdmTypes.declared.answers.PendingWhy.TheVariants.{UpErase}
use Rattle.text_model.specs.DdmTypes.declared.answers.QueueName.TheVariants.{Down as DownListOf}
use Rattle.text_model.specs.DdmTypes.declared.answers.BusyCause.TheVariants.{ItemPending, QueueFull, BufferFull, NoRoom}
use Rattle.text_model.specs.DdmTypes.declared.answers.Place.{Place}
use Rattle.text_model.specs.DdmTypes.declared.answers.Place.TheVariants.{Parent, Child, Parking, All, Gone, Joined, Readers}
use Rattle.text_model.specs.DdmTypes.declared.answers.TurnAnswer.{TurnAnswer}
use Rattle.text_model.specs.DdmTypes.declared.answers.TurnAnswer.TheVariants.{Retired, Issued, Waiting, Halted, Granted, Empty, Busy}
use Rattle.text_model.specs.DdmTypes.declared.sizes.LeafState.TheVariants.{Shared, Exclusive}
use Rattle.text_model.specs.FlatModel.Hart.{HartValue}
use Rattle.tree_model.specs.declared.CopyPlace.{CopyPlace}
use Rattle.tree_model.specs.declared.Traffic.{Traffic}
use Rattle.tree_model.specs.Turns.Machine.{no_traffic}
use Rattle.text_model.specs.declared.ScheduleRefusal.{ScheduleRefusal}
use Rattle.text_model.specs.declared.ScheduleRefusal.TheVariants.{NoEnd}
use Rattle.text_model.specs.declared.RunCounts.{RunCounts}
use Rattle.text_model.specs.Schedule.{one_leaf, hart_turns, schedule_of}
use Rattle.text_model.specs.Report.{ItemView, ReportView}

-- ---- schedules

-- A text is refused in a line, for the tree of one leaf.
abbrev pub IsRefused : List ℕ → ℕ → ScheduleRefusal → Type 0
IsRefused text line refusal = schedule_of one_leaf 0 text ≡ Err (line, refusal)

-- the same, where turns are there already
abbrev pub IsRefusedAfter : ℕ → List ℕ → ℕ → ScheduleRefusal → Type 0
IsRefusedAfter made text line refusal = schedule_of one_leaf made text ≡ Err (line, refusal)

-- A text gives turns, for the tree of one leaf.
abbrev pub Gives : List ℕ → List Turn → Type 0
Gives text turns = schedule_of one_leaf 0 text ≡ Ok turns

-- eight turns of hart 0
abbrev pub eight_turns : List Turn
eight_turns = hart_turns 8

-- their text
abbrev pub eight_turns_text : List ℕ
eight_turns_text = codes "h 0 0\nh 0 0\nh 0 0\nh 0 0\nh 0 0\nh 0 0\nh 0 0\nh 0 0\nend\n"

-- Each shorter text isn't ended, in the line that its bytes have come to.
abbrev pub IsRefusedWhereCut : Type 0
IsRefusedWhereCut = (n : ℕ) → n < 52 → IsRefused (take n eight_turns_text) (n / 6 + 1) NoEnd

-- ---- operations

-- the key of an operation in a tree of one bus
abbrev pub key_at : ℕ → ℕ → ℕ → Key
key_at stamp child number = record { s0 = stamp; c0 = child; s1 = 0; c1 = 0; s2 = 0; c2 = 0; s3 = 0; c3 = 0; i = number }

-- an operation, by its parts
abbrev pub op_at : Key → ℕ → ℕ → Effect → Op
op_at key hart pc effect = record { key = key; hart = hart; pc = pc; effect = effect }

-- ---- a store and a load back: one leaf stores 7 in a word, loads it and ends

-- its operations
abbrev pub store_and_load_ops : List Op
store_and_load_ops =
    op_at (key_at 0 0 0) 0 0x00010000 Plain
    ∷ op_at (key_at 0 0 1) 0 0x00010004 Plain
    ∷ op_at (key_at 0 0 2) 0 0x00010008 (Store 0x00020000 0 7)
    ∷ op_at (key_at 0 0 3) 0 0x0001000c (Load 0x00020000 7)
    ∷ op_at (key_at 0 0 4) 0 0x00010010 Plain
    ∷ op_at (key_at 0 0 5) 0 0x00010014 Plain
    ∷ []

-- the hart at the end
abbrev pub store_and_load_hart : HartValue
store_and_load_hart = record {
  registers = 0 ∷ 0 ∷ 0x00030010 ∷ 0 ∷ 0 ∷ 0x00020000 ∷ 7 ∷ 7 ∷ 0 ∷ 0 ∷ 7 ∷ 1 ∷ 0 ∷ 0 ∷ 0 ∷ 0 ∷ 0 ∷ 0x5d ∷ replicate 14 0;
  pc = 0x00010018;
  halt = Some (Exit 7);
}

-- an item that only leaf 0 has
abbrev pub item_in_way : ℕ → ℕ → List ℕ → ItemView
item_in_way number address words =
    record {
      number = number;
      address = address;
      words = words;
      place = CopyPlace.LeafWay 0 number;
      states = Some Exclusive ∷ [];
    }

-- the items, by the word that is stored and loaded back
abbrev pub store_and_load_items : ℕ → List ItemView
store_and_load_items word =
    item_in_way 0 0x00010000 (0x000202b7 ∷ 0x00700313 ∷ 0x0062a023 ∷ 0x0002a383 ∷ [])
    ∷ item_in_way 1 0x00010010 (0x05d00893 ∷ 0x00038513 ∷ 0x00000073 ∷ 0 ∷ [])
    ∷ item_in_way 2 0x00020000 (word ∷ 0 ∷ 0 ∷ 0 ∷ [])
    ∷ item_in_way 3 0x00030000 (0 ∷ 0 ∷ 0 ∷ 0 ∷ [])
    ∷ []

-- the machine at the end
abbrev pub store_and_load : ReportView
store_and_load = record {
  counts = record { turns = 8; retired = 6; granted = 0; busy = 0 };
  depth = 1;
  harts = record { number = 0; hart = store_and_load_hart; done = 6 } ∷ [];
  traffic = no_traffic ∷ [];
  items = store_and_load_items 7;
  completed = store_and_load_ops;
  ops = store_and_load_ops;
}

-- its report
abbrev pub store_and_load_report : List ℕ
store_and_load_report =
    codes "ddm 1\nturns 8 retired 6 granted 0 busy 0\nhart 0 exit 7 pc 00010018 done 6\n"
    ++ codes "regs 0 00000000 00030010 00000000 00000000 00020000 00000007 00000007 00000000 00000000 "
    ++ codes "00000007 00000001 00000000 00000000 00000000 00000000 00000000 0000005d 00000000 00000000 "
    ++ codes "00000000 00000000 00000000 00000000 00000000 00000000 00000000 00000000 00000000 00000000 "
    ++ codes "00000000 00000000\nout 0 -\nbus 0 read 0 data 0 erase 0 exclusive 0 out 0 inject 0\n"
    ++ codes "item 0 00010000 000202b7 00700313 0062a023 0002a383 leaf 0 way 0 E\n"
    ++ codes "item 1 00010010 05d00893 00038513 00000073 00000000 leaf 0 way 1 E\n"
    ++ codes "item 2 00020000 00000007 00000000 00000000 00000000 leaf 0 way 2 E\n"
    ++ codes "item 3 00030000 00000000 00000000 00000000 00000000 leaf 0 way 3 E\n"
    ++ codes "op 0 0.0.0 00010000 plain\nop 0 0.0.1 00010004 plain\n"
    ++ codes "op 0 0.0.2 00010008 store 00020000 00000000 00000007\n"
    ++ codes "op 0 0.0.3 0001000c load 00020000 00000007\nop 0 0.0.4 00010010 plain\n"
    ++ codes "op 0 0.0.5 00010014 plain\nend\n"

-- its summary
abbrev pub store_and_load_summary : List ℕ
store_and_load_summary =
    codes "ddm 1\nturns 8 retired 6 granted 0 busy 0\nhart 0 exit 7 pc 00010018 done 6\n"
    ++ codes "bus 0 read 0 data 0 erase 0 exclusive 0 out 0 inject 0\nend\n"

-- the same before any turn

-- the hart at the start
abbrev pub untouched_hart : HartValue
untouched_hart =
    record {
      registers = 0 ∷ 0 ∷ 0x00030010 ∷ 0 ∷ 0 ∷ 0 ∷ 0 ∷ 0 ∷ 0 ∷ 0 ∷ 0 ∷ 1 ∷ replicate 20 0;
      pc = 0x00010000;
      halt = None;
    }

-- the machine at the start
abbrev pub no_turns : ReportView
no_turns = record {
  counts = record { turns = 0; retired = 0; granted = 0; busy = 0 };
  depth = 1;
  harts = record { number = 0; hart = untouched_hart; done = 0 } ∷ [];
  traffic = no_traffic ∷ [];
  items = store_and_load_items 0;
  completed = [];
  ops = [];
}

-- its report
abbrev pub no_turns_report : List ℕ
no_turns_report =
    codes "ddm 1\nturns 0 retired 0 granted 0 busy 0\nhart 0 running pc 00010000 done 0\n"
    ++ codes "regs 0 00000000 00030010 00000000 00000000 00000000 00000000 00000000 00000000 00000000 "
    ++ codes "00000000 00000001 00000000 00000000 00000000 00000000 00000000 00000000 00000000 00000000 "
    ++ codes "00000000 00000000 00000000 00000000 00000000 00000000 00000000 00000000 00000000 00000000 "
    ++ codes "00000000 00000000\nout 0 -\nbus 0 read 0 data 0 erase 0 exclusive 0 out 0 inject 0\n"
    ++ codes "item 0 00010000 000202b7 00700313 0062a023 0002a383 leaf 0 way 0 E\n"
    ++ codes "item 1 00010010 05d00893 00038513 00000073 00000000 leaf 0 way 1 E\n"
    ++ codes "item 2 00020000 00000000 00000000 00000000 00000000 leaf 0 way 2 E\n"
    ++ codes "item 3 00030000 00000000 00000000 00000000 00000000 leaf 0 way 3 E\nend\n"

-- ---- one byte of output: of two harts, the second puts `H`

-- their operations
abbrev pub output_ops : List Op
output_ops =
    op_at (key_at 0 0 0) 0 0x00010000 Plain
    ∷ op_at (key_at 0 1 0) 1 0x00010000 Plain
    ∷ op_at (key_at 0 1 1) 1 0x00010004 Plain
    ∷ op_at (key_at 0 1 2) 1 0x00010008 (Put 0x48)
    ∷ []

-- ---- one read: leaf 0 reads an item that leaf 1 has

-- the answer of a granted transaction
abbrev pub grant_of : ℕ → TxKind → ℕ → Place → Place → TurnAnswer
grant_of bus kind item source taker = Granted (record { bus = bus; kind = kind; item = item; source = source; taker = taker })

-- its turns
abbrev pub one_read_turns : List Turn
one_read_turns = Hart 0 0 ∷ Hart 0 0 ∷ Request 0 0 ∷ Reply 0 1 ∷ Hart 0 0 ∷ []

-- the load that ends it
abbrev pub first_load : Op
first_load = op_at (key_at 2 0 1) 0 0x00010004 (Load 0x00020000 5)

-- their answers
abbrev pub one_read_answers : List TurnAnswer
one_read_answers =
    Retired (op_at (key_at 0 0 0) 0 0x00010000 Plain)
    ∷ Issued ReadTx 1
    ∷ grant_of 0 ReadTx 1 (Child 0) (Child 1)
    ∷ grant_of 0 DataTx 1 (Child 1) (Child 0)
    ∷ Retired first_load
    ∷ []

-- their trace
abbrev pub one_read_trace : List ℕ
one_read_trace =
    codes "t 0 h 0 0 retired plain\nt 1 h 0 0 issued read 1\n"
    ++ codes "t 2 g 0 q 0 granted read 1 from child 0 to child 1\n"
    ++ codes "t 3 g 0 r 1 granted data 1 from child 1 to child 0\n"
    ++ codes "t 4 h 0 0 retired load 00020000 00000005\n"

-- what the turns came to
abbrev pub one_read_counts : RunCounts
one_read_counts = record { turns = 5; retired = 2; granted = 2; busy = 0 }

-- what the bus has granted
abbrev pub one_read_traffic : Traffic
one_read_traffic = record { reads = 1; copies = 1; erases = 0; exclusives = 0; outs = 0; injects = 0 }

-- the item at the end
abbrev pub one_read_item : ItemView
one_read_item = record {
  number = 1;
  address = 0x00020000;
  words = 5 ∷ 0 ∷ 0 ∷ 0 ∷ [];
  place = CopyPlace.LeafWay 0 1;
  states = Some Shared ∷ Some Shared ∷ [];
}

-- ---- answers of other runs

-- turns out of several runs
abbrev pub other_turns : List Turn
other_turns =
    Request 0 0 ∷ Down 0 ∷ Hart 1 0 ∷ Hart 1 0 ∷ Request 0 2 ∷ Reply 0 1 ∷ Hart 2 0 ∷ Down 0
    ∷ Request 0 1 ∷ Hart 0 73 ∷ Leave 0 0 0 ∷ Leave 1 0 0 ∷ Leave 0 0 255 ∷ Down 2 ∷ Hart 0 0 ∷ []

-- what they answered there
abbrev pub other_answers : List TurnAnswer
other_answers =
    Busy (ItemPending 0 1 (UpErase 1))
    ∷ grant_of 0 ExclusiveTx 1 Parent (Child 1)
    ∷ Retired (op_at (key_at 2 1 3) 1 0x0001000c (Store 0x00020000 5 2))
    ∷ Issued EraseTx 1
    ∷ grant_of 0 ReadTx 1 (Child 2) Joined
    ∷ grant_of 0 DataTx 1 (Child 1) Readers
    ∷ Waiting 1
    ∷ Empty
    ∷ Busy (QueueFull (DownListOf 2))
    ∷ Busy (BufferFull 0)
    ∷ Busy (NoRoom 0)
    ∷ grant_of 1 InjectTx 0 (Child 0) Parking
    ∷ grant_of 0 OutTx 1 (Child 0) Gone
    ∷ grant_of 2 EraseTx 2 Parent All
    ∷ Halted (FetchOutside 0x0001000c)
    ∷ []

-- their trace, as if they were one run
abbrev pub other_trace : List ℕ
other_trace =
    codes "t 0 g 0 q 0 busy item 0 1 uperase 1\nt 1 g 0 d granted exclusive 1 from parent to child 1\n"
    ++ codes "t 2 h 1 0 retired store 00020000 00000005 00000002\nt 3 h 1 0 issued erase 1\n"
    ++ codes "t 4 g 0 q 2 granted read 1 from child 2 to joined\n"
    ++ codes "t 5 g 0 r 1 granted data 1 from child 1 to readers\nt 6 h 2 0 waiting 1\nt 7 g 0 d empty\n"
    ++ codes "t 8 g 0 q 1 busy queue down 2\nt 9 h 0 73 busy buffer 0\nt 10 g 0 l 0 0 busy room 0\n"
    ++ codes "t 11 g 1 l 0 0 granted inject 0 from child 0 to parking\n"
    ++ codes "t 12 g 0 l 0 255 granted out 1 from child 0 to gone\n"
    ++ codes "t 13 g 2 d granted erase 2 from parent to all\nt 14 h 0 0 halted nofetch 0001000c\n"

-- an operation in a tree of four levels
abbrev pub deep_op : Op
deep_op = op_at (record { s0 = 1; c0 = 2; s1 = 3; c1 = 4; s2 = 5; c2 = 6; s3 = 7; c3 = 8; i = 9 }) 0 0x00010000 Plain

-- an item whose only copy is parked
abbrev pub parked_item : ItemView
parked_item = record {
  number = 1;
  address = 0x00020000;
  words = 5 ∷ 0 ∷ 0 ∷ 0 ∷ [];
  place = CopyPlace.Parking 1 0;
  states = None ∷ None ∷ [];
}
