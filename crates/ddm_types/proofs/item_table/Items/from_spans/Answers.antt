use Rattle.std.proofs.Common.{◌≡◌, ℕ, List, map, sym, ◌∙◌, ap}
use Rattle.std.specs.List.{flat_map}
use Rattle.std.proofs.lemmas.List.{take_all}
use Rattle.ddm_types.specs.declared.item_table.Run.{Run}
use Rattle.ddm_types.specs.ItemTable.{ItemRow, ItemTable, item_row, item_numbers, items_of}
use Rattle.ddm_types.specs.ItemRuns.{run_numbers}
use Rattle.ddm_types.specs.ItemRows.{row_of}
use Rattle.ddm_types.proofs.item_table.Items.from_spans.Goals as goal
use Rattle.ddm_types.proofs.item_table.Items.from_spans.Goals.{After-loop-run}
use Rattle.ddm_types.proofs.Rule.{items_of-rule}
use Rattle.ddm_types.proofs.Rows.{items_of-is, made_rows}

all : (c : After-loop-run) → map row_of c.loop-run.rows.items ≡ map (item_row c.args.item_bytes c.args.spans.now) (item_numbers c.args.item_bytes c.args.spans.now)
all c =
    c.loop-run.invariant ∙
    ap (λ (runs : List Run). map (item_row c.args.item_bytes c.args.spans.now) (flat_map run_numbers runs)) (take_all c.loop-run.run-index c.deref-run-items.result.now c.loop-run-test.false ∙ c.deref-run-items.ensures.value) ∙
    ap (λ (ns : List ℕ). map (item_row c.args.item_bytes c.args.spans.now) ns) c.in_ok-runs.ensures.numbers

pub invariant_of-result : goal.invariant_of-result
invariant_of-result c = made_rows c.args.item_bytes c.args.spans.now c.loop-run.rows.items c.requires.size (all (goal.at.invariant_of-result c).After-loop-run) c.requires.few

abbrev table : ℕ → List ItemRow → ItemTable
table size rows = record { size = size; rows = rows }

is_table : (c : After-loop-run) → table c.args.item_bytes (map row_of c.loop-run.rows.items) ≡ items_of c.args.item_bytes c.args.spans.now
is_table c = ap (λ (rows : List ItemRow). table c.args.item_bytes rows) (all c) ∙ sym (items_of-is c.args.item_bytes c.args.spans.now)

pub returns-clause-table : goal.returns-clause-table
returns-clause-table c = is_table (goal.at.returns-clause-table c).After-loop-run

pub returns-clause-rule : goal.returns-clause-rule
returns-clause-rule c = rw (is_table (goal.at.returns-clause-rule c).After-loop-run) (items_of-rule c.args.item_bytes c.args.spans.now c.requires.size)
