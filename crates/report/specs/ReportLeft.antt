-- What is left of a report that is given part by part.
-- Letters: v is what a report shows, k and n are numbers of parts.
use Rattle.std.specs.Prelude.{◌≡◌, ℕ, ◌+◌, ◌<◌, ◌≤◌, nat_lt, Option, List, [], ◌++◌, length, drop, codes, decimal}
use Rattle.std.specs.Prelude.{slice_index_or, ⊤, if◌then◌else◌}
use Rattle.std.specs.List.{flat_map}
use Rattle.report.specs.DdmTypes.declared.sizes.LeafState.{LeafState}
use Rattle.report.specs.TreeModel.declared.CopyPlace.{CopyPlace}
use Rattle.report.specs.TreeModel.State.Blank.{no_hart}
use Rattle.text_model.specs.Report.{HartView, ItemView, ReportView, bus_lines_from, hart_line_of, hart_lines}
use Rattle.text_model.specs.Report.{item_lines, letter_texts, op_lines, put_texts, regs_line, report_of}
use Rattle.report.specs.LineParts.{are_silent, dash_behind, item_front}
use Rattle.report.specs.declared.report_parts.ReportPart.{ReportPart}
use Rattle.report.specs.declared.report_parts.ReportPart.TheVariants.{Head, Hart, Output, Bus, Item, States, Operation, End, Nothing}
use Rattle.report.specs.declared.report_parts.ReportSize.{ReportSize}

-- ---- from the first line of something on

abbrev pub from_operation : ReportView → ℕ → List ℕ
from_operation v k = op_lines v.depth (drop k v.ops) ++ codes "end\n"

abbrev pub from_item : ReportView → ℕ → List ℕ
from_item v k = item_lines (drop k v.items) ++ from_operation v 0

abbrev pub from_bus : ReportView → ℕ → List ℕ
from_bus v k = bus_lines_from k (drop k v.traffic) ++ from_item v 0

abbrev pub from_hart : ReportView → ℕ → List ℕ
from_hart v k = flat_map (hart_lines v.completed) (drop k v.harts) ++ from_bus v 0

-- ---- lines in parts

-- a hart's lines up to its output
abbrev pub hart_front : HartView → List ℕ
hart_front hart = hart_line_of hart ++ regs_line hart.number hart.hart.registers ++ codes "out " ++ decimal hart.number ++ codes " "

abbrev pub no_view : HartView
no_view = record { number = 0; hart = no_hart; done = 0 }

abbrev pub front_of : ItemView → List ℕ
front_of item = item_front item.number item.address item.words item.place

abbrev pub no_item : ItemView
no_item = record { number = 0; address = 0; words = []; place = CopyPlace.Parking 0 0; states = [] }

-- the states of an item's entries
abbrev pub states_shown : ReportView → ℕ → List (Option LeafState)
states_shown v k = (slice_index_or v.items k no_item).states

-- ---- from a part on

abbrev pub from_part : ReportView → ReportPart → List ℕ
from_part v Head = report_of v
from_part v (Hart k) = from_hart v k
from_part v (Output k n) =
    put_texts k (drop n v.completed)
    ++ (dash_behind (put_texts k v.completed) ++ (codes "\n" ++ from_hart v (k + 1)))
from_part v (Bus k) = from_bus v k
from_part v (Item k) = from_item v k
from_part v (States k n) = letter_texts (drop n (states_shown v k)) ++ (codes "\n" ++ from_item v (k + 1))
from_part v (Operation k) = from_operation v k
from_part v End = codes "end\n"
from_part v Nothing = []

-- the report has this part
abbrev pub HasPart : ReportView → ReportPart → Type 0
HasPart v Head = ⊤
HasPart v (Hart k) = k < length v.harts
HasPart v (Output k n) = (k < length v.harts) × (n ≤ length v.completed)
HasPart v (Bus k) = k < length v.traffic
HasPart v (Item k) = k < length v.items
HasPart v (States k n) = (k < length v.items) × (n ≤ length v.harts)
HasPart v (Operation k) = k < length v.ops
HasPart v End = ⊤
HasPart v Nothing = ⊤

-- so many levels of buses, harts, buses, items and operations are shown, and it is said whether no hart has put anything
pub record HasSize (v : ReportView) (size : ReportSize) : Type 0 where
  pub depth : v.depth ≡ size.depth
  pub few : size.depth ≤ 4
  pub harts : length v.harts ≡ size.harts
  pub buses : length v.traffic ≡ size.buses
  pub items : length v.items ≡ size.items
  pub operations : length v.ops ≡ size.operations
  pub silent : size.silent ≡ are_silent v.completed

-- ---- the part that comes next

abbrev pub operation_part : ReportSize → ℕ → ReportPart
operation_part size k = if nat_lt k size.operations then Operation k else End

abbrev pub item_part : ReportSize → ℕ → ReportPart
item_part size k = if nat_lt k size.items then Item k else operation_part size 0

abbrev pub bus_part : ReportSize → ℕ → ReportPart
bus_part size k = if nat_lt k size.buses then Bus k else item_part size 0

abbrev pub hart_part : ReportSize → ℕ → ReportPart
hart_part size k = if nat_lt k size.harts then Hart k else bus_part size 0

-- a part's text, which is empty only where nothing is left, and the part that comes next
pub record Gives (v : ReportView) (part : ReportPart) (text : List ℕ) (next : ReportPart) : Type 0 where
  pub left : from_part v part ≡ text ++ from_part v next
  pub there : HasPart v next
  pub some : text ≡ [] → from_part v part ≡ []
