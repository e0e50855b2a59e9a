-- The report of a machine after a run, and its summary.
use Rattle.std.specs.Prelude.{ℕ, ◌+◌, ◌*◌, nat_eq, List, [], ◌∷◌, ◌++◌, Option, Some, None, codes, decimal, drop}
use Rattle.std.specs.Prelude.{take, flat_map, if◌then◌else◌}
use Rattle.ddm_text.specs.Hex.{hex2, hex8}
use Rattle.text_model.specs.DdmTypes.declared.operations.HaltCause.{HaltCause}
use Rattle.text_model.specs.DdmTypes.declared.operations.Effect.{Effect}
use Rattle.text_model.specs.DdmTypes.declared.operations.Effect.TheVariants.{Plain, Put, Load, Store, Lr, ScOk, ScFail, Amo}
use Rattle.text_model.specs.DdmTypes.declared.operations.Op.{Op}
use Rattle.text_model.specs.DdmTypes.declared.keys.Key.{Key}
use Rattle.text_model.specs.DdmTypes.declared.sizes.LeafState.{LeafState}
use Rattle.text_model.specs.DdmTypes.declared.sizes.LeafState.TheVariants.{Shared, Exclusive, Waiting, Reading, ReadingWaiting}
use Rattle.text_model.specs.FlatModel.Hart.{HartValue}
use Rattle.tree_model.specs.declared.CopyPlace.{CopyPlace}
use Rattle.tree_model.specs.declared.CopyPlace.TheVariants.{LeafWay, LeafBuffer, Parking, DownList}
use Rattle.tree_model.specs.declared.Traffic.{Traffic}
use Rattle.text_model.specs.declared.RunCounts.{RunCounts}
use Rattle.text_model.specs.Words.{effect_text, state_text}

-- ---- the head

-- what the turns came to
unfoldable pub turns_line : RunCounts → List ℕ
turns_line counts =
    codes "turns " ++ decimal counts.turns ++ codes " retired " ++ decimal counts.retired ++ codes " granted "
    ++ decimal counts.granted ++ codes " busy " ++ decimal counts.busy ++ codes "\n"

-- the first two lines
unfoldable pub head_lines : RunCounts → List ℕ
head_lines counts = codes "ddm 1\n" ++ turns_line counts

-- ---- harts

-- a space and eight digits for each word
unfoldable pub word_texts : List ℕ → List ℕ
word_texts words = flat_map (λ word. codes " " ++ hex8 word) words

-- how a hart stands
unfoldable pub hart_line : ℕ → Option HaltCause → ℕ → ℕ → List ℕ
hart_line number halt pc done =
    codes "hart " ++ decimal number ++ codes " " ++ state_text halt ++ codes " pc " ++ hex8 pc ++ codes " done "
    ++ decimal done ++ codes "\n"

-- its registers but the first
unfoldable pub regs_line : ℕ → List ℕ → List ℕ
regs_line number registers = codes "regs " ++ decimal number ++ word_texts (drop 1 registers) ++ codes "\n"

-- the byte that an instruction put, in two digits
abbrev pub put_text : Effect → List ℕ
put_text Plain = []
put_text (Put byte) = hex2 byte
put_text (Load address word) = []
put_text (Store address before after) = []
put_text (Lr address word) = []
put_text (ScOk address before after) = []
put_text (ScFail address) = []
put_text (Amo address before after) = []

-- what an operation adds to a hart's output
abbrev pub put_text_by : ℕ → Op → List ℕ
put_text_by number op = if nat_eq op.hart number then put_text op.effect else []

-- a hart's output, out of operations in order of completion
unfoldable pub put_texts : ℕ → List Op → List ℕ
put_texts number ops = flat_map (put_text_by number) ops

-- a text, or a dash for the empty one
abbrev pub or_dash : List ℕ → List ℕ
or_dash [] = codes "-"
or_dash (byte ∷ bytes) = byte ∷ bytes

-- what it has put
unfoldable pub out_line : ℕ → List Op → List ℕ
out_line number ops = codes "out " ++ decimal number ++ codes " " ++ or_dash (put_texts number ops) ++ codes "\n"

-- a hart with its number and how many instructions it has completed
pub record HartView : Type 0 where
  pub number : ℕ
  pub hart : HartValue
  pub done : ℕ

-- its first line
abbrev pub hart_line_of : HartView → List ℕ
hart_line_of view = hart_line view.number view.hart.halt view.hart.pc view.done

-- its three lines, with the operations in order of completion
unfoldable pub hart_lines : List Op → HartView → List ℕ
hart_lines completed view = hart_line_of view ++ regs_line view.number view.hart.registers ++ out_line view.number completed

-- ---- buses

-- the transactions that a bus has granted
unfoldable pub bus_line : ℕ → Traffic → List ℕ
bus_line bus traffic =
    codes "bus " ++ decimal bus ++ codes " read " ++ decimal traffic.reads ++ codes " data " ++ decimal traffic.copies
    ++ codes " erase " ++ decimal traffic.erases ++ codes " exclusive " ++ decimal traffic.exclusives
    ++ codes " out " ++ decimal traffic.outs ++ codes " inject " ++ decimal traffic.injects ++ codes "\n"

-- the lines of buses from a number on
unfoldable pub bus_lines_from : ℕ → List Traffic → List ℕ
bus_lines_from bus [] = []
bus_lines_from bus (traffic ∷ more) = bus_line bus traffic ++ bus_lines_from (bus + 1) more

-- the lines of all buses
abbrev pub bus_lines : List Traffic → List ℕ
bus_lines traffic = bus_lines_from 0 traffic

-- ---- items

-- where an item's current copy is: in a way or the buffer of a leaf, or in the parking or the down list of the directory
-- over a bus
unfoldable pub copy_place_text : CopyPlace → List ℕ
copy_place_text (LeafWay leaf way) = codes "leaf " ++ decimal leaf ++ codes " way " ++ decimal way
copy_place_text (LeafBuffer leaf place) = codes "leaf " ++ decimal leaf ++ codes " buffer " ++ decimal place
copy_place_text (Parking bus place) = codes "bus " ++ decimal bus ++ codes " parking " ++ decimal place
copy_place_text (DownList bus place) = codes "bus " ++ decimal bus ++ codes " down " ++ decimal place

-- a leaf's entry of an item
unfoldable pub letter_text : Option LeafState → List ℕ
letter_text None = codes "-"
letter_text (Some Shared) = codes "S"
letter_text (Some Exclusive) = codes "E"
letter_text (Some Reading) = codes "R"
letter_text (Some Waiting) = codes "W"
letter_text (Some ReadingWaiting) = codes "B"

-- a letter for each leaf
unfoldable pub letter_texts : List (Option LeafState) → List ℕ
letter_texts states = flat_map letter_text states

-- an item with its current words, where they are, and the state of its entry in each leaf
pub record ItemView : Type 0 where
  pub number : ℕ
  pub address : ℕ
  pub words : List ℕ
  pub place : CopyPlace
  pub states : List (Option LeafState)

-- the line of an item
unfoldable pub item_line : ItemView → List ℕ
item_line item =
    codes "item " ++ decimal item.number ++ codes " " ++ hex8 item.address ++ word_texts item.words ++ codes " "
    ++ copy_place_text item.place ++ codes " " ++ letter_texts item.states ++ codes "\n"

-- the lines of all items
unfoldable pub item_lines : List ItemView → List ℕ
item_lines items = flat_map item_line items

-- ---- operations

-- the numbers of a key but the last, from the top bus down
abbrev pub level_numbers : Key → List ℕ
level_numbers key = key.s0 ∷ key.c0 ∷ key.s1 ∷ key.c1 ∷ key.s2 ∷ key.c2 ∷ key.s3 ∷ key.c3 ∷ []

-- numbers, each with a full stop behind it
unfoldable pub number_stops : List ℕ → List ℕ
number_stops numbers = flat_map (λ number. decimal number ++ codes ".") numbers

-- the numbers of a key that a tree of this depth has, two for each level and the last one
unfoldable pub key_text : ℕ → Key → List ℕ
key_text depth key = number_stops (take (2 * depth) (level_numbers key)) ++ decimal key.i

-- the line of an operation
unfoldable pub op_line : ℕ → Op → List ℕ
op_line depth op =
    codes "op " ++ decimal op.hart ++ codes " " ++ key_text depth op.key ++ codes " " ++ hex8 op.pc ++ codes " "
    ++ effect_text op.effect ++ codes "\n"

-- the lines of operations
unfoldable pub op_lines : ℕ → List Op → List ℕ
op_lines depth ops = flat_map (op_line depth) ops

-- ---- the whole

-- what a report shows of a machine
pub record ReportView : Type 0 where
  pub counts : RunCounts
  -- how many buses are on the way from a leaf to the top
  pub depth : ℕ
  pub harts : List HartView
  -- for each bus
  pub traffic : List Traffic
  pub items : List ItemView
  -- the operations, in order of completion and in order of their keys
  pub completed : List Op
  pub ops : List Op

-- the whole report
unfoldable pub report_of : ReportView → List ℕ
report_of view =
    head_lines view.counts ++ flat_map (hart_lines view.completed) view.harts ++ bus_lines view.traffic
    ++ item_lines view.items ++ op_lines view.depth view.ops ++ codes "end\n"

-- the head, how the harts stand, and the buses
unfoldable pub summary_of : ReportView → List ℕ
summary_of view = head_lines view.counts ++ flat_map hart_line_of view.harts ++ bus_lines view.traffic ++ codes "end\n"
