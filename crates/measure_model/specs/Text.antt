-- What is printed of a run that is measured.
-- Letters: r is a recorded run, m the machine that it began with, k that at its end, s its measures, v a leaf, b the number of a bus.
-- To be believed: it is what the command prints.
use Rattle.std.specs.Prelude.{ℕ, ◌+◌, nat_eq, List, [], ◌∷◌, ◌++◌, codes, decimal, if◌then◌else◌}
use Rattle.ddm_text.specs.Hex.{hex8}
use Rattle.ddm_types.specs.ItemTable.{ItemRow}
use Rattle.recording_model.specs.TreeModel.State.Values.{LeafValue, MachineValue}
use Rattle.recording_model.specs.TreeModel.Turns.Machine.{machine_leaves}
use Rattle.recording_model.specs.TextModel.Schedule.{ShapeView}
use Rattle.text_model.specs.Words.{state_text}
use Rattle.tree_model.specs.declared.DirLengths.{DirLengths}
use Rattle.tree_model.specs.declared.LeafLengths.{LeafLengths}
use Rattle.tree_model.specs.declared.Traffic.{Traffic}
use Rattle.recording_model.specs.Recording.{Recording, recording_of}
use Rattle.recording_model.specs.declared.RunEnd.{RunEnd}
use Rattle.recording_model.specs.declared.SeedKind.{SeedKind}
use Rattle.survey_model.specs.Survey.{end_word}
use Rattle.measure_model.specs.declared.HartCounts.{HartCounts}
use Rattle.measure_model.specs.declared.ItemCounts.{ItemCounts}
use Rattle.measure_model.specs.declared.RunTotals.{RunTotals}
use Rattle.measure_model.specs.Measures.{Measures, measures_of}

unfoldable pub totals_line : RunTotals → List ℕ
totals_line t =
    codes "turns " ++ decimal t.turns ++ codes " drawn " ++ decimal t.drawn ++ codes " retired "
    ++ decimal t.retired ++ codes " issued " ++ decimal t.issued
    ++ codes " granted " ++ decimal t.granted ++ codes " halted " ++ decimal t.halted ++ codes " busy " ++ decimal t.busy ++ codes "\n"

unfoldable pub hart_counts_line : LeafValue → HartCounts → List ℕ
hart_counts_line v c =
    codes "hart " ++ decimal v.number ++ codes " " ++ state_text v.hart.halt ++ codes " pc " ++ hex8 v.hart.pc
    ++ codes " done " ++ decimal v.done
    ++ codes " loads " ++ decimal c.loads ++ codes " stores " ++ decimal c.stores ++ codes " amos "
    ++ decimal c.amos ++ codes " failed " ++ decimal c.failed
    ++ codes " reads " ++ decimal c.reads ++ codes " erases " ++ decimal c.erases ++ codes " busy " ++ decimal c.busy ++ codes "\n"

-- what a bus has granted, and how often it was busy
unfoldable pub bus_counts_line : ℕ → Traffic → ℕ → List ℕ
bus_counts_line b t busy =
    codes "bus " ++ decimal b ++ codes " read " ++ decimal t.reads ++ codes " data " ++ decimal t.copies
    ++ codes " erase " ++ decimal t.erases
    ++ codes " exclusive " ++ decimal t.exclusives ++ codes " out " ++ decimal t.outs ++ codes " inject "
    ++ decimal t.injects ++ codes " busy " ++ decimal busy ++ codes "\n"

unfoldable pub most_line : ℕ → DirLengths → List ℕ
most_line b l =
    codes "most bus " ++ decimal b ++ codes " down " ++ decimal l.down ++ codes " requests "
    ++ decimal l.requests ++ codes " replies " ++ decimal l.replies
    ++ codes " parking " ++ decimal l.parking ++ codes "\n"

unfoldable pub leaf_most_line : ℕ → LeafLengths → List ℕ
leaf_most_line k l =
    codes "most leaf " ++ decimal k ++ codes " replies " ++ decimal l.replies ++ codes " buffer "
    ++ decimal l.buffer ++ codes "\n"

-- of an item, where there is anything to be told
unfoldable pub item_counts_line : ℕ → ItemRow → ItemCounts → List ℕ
item_counts_line x row c =
    if nat_eq (c.reads + c.erases + c.injects) 0 then []
    else codes "item " ++ decimal x ++ codes " " ++ hex8 row.address ++ codes " reads " ++ decimal c.reads
    ++ codes " erases " ++ decimal c.erases ++ codes " injects " ++ decimal c.injects ++ codes "\n"

-- ---- a line for each of a list, by number

abbrev pub hart_counts_lines : List LeafValue → List HartCounts → List ℕ
hart_counts_lines (v ∷ vs) (c ∷ cs) = hart_counts_line v c ++ hart_counts_lines vs cs
hart_counts_lines vs cs = []

abbrev pub bus_counts_lines : ℕ → List Traffic → List ℕ → List ℕ
bus_counts_lines b (t ∷ ts) (n ∷ ns) = bus_counts_line b t n ++ bus_counts_lines (b + 1) ts ns
bus_counts_lines b ts ns = []

abbrev pub most_lines : ℕ → List DirLengths → List ℕ
most_lines b [] = []
most_lines b (l ∷ ls) = most_line b l ++ most_lines (b + 1) ls

abbrev pub leaf_most_lines : ℕ → List LeafLengths → List ℕ
leaf_most_lines k [] = []
leaf_most_lines k (l ∷ ls) = leaf_most_line k l ++ leaf_most_lines (k + 1) ls

abbrev pub item_counts_lines : ℕ → List ItemRow → List ItemCounts → List ℕ
item_counts_lines x (row ∷ rows) (c ∷ cs) = item_counts_line x row c ++ item_counts_lines (x + 1) rows cs
item_counts_lines x rows cs = []

-- ---- the text

-- of these measures of a run that ended so, with this machine
unfoldable pub measures_text : RunEnd → Measures → MachineValue → List ℕ
measures_text end s k =
    codes "measure 1\nend " ++ end_word end ++ codes "\n" ++ totals_line s.totals ++ hart_counts_lines (machine_leaves k) s.harts
    ++ bus_counts_lines 0 k.traffic s.busy ++ most_lines 0 s.most ++ leaf_most_lines 0 s.leaf_most
    ++ item_counts_lines 0 k.items.rows s.items ++ codes "end\n"

abbrev pub run_text : Recording → MachineValue → List ℕ
run_text r m = measures_text r.end (measures_of r m) r.machine

-- of a seed's run
unfoldable pub measure_text : SeedKind → ShapeView → ℕ → ℕ → MachineValue → List ℕ
measure_text kind shape seed turns m = run_text (recording_of kind shape seed turns m) m
