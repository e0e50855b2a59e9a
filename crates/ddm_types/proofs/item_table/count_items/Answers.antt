use Rattle.std.proofs.Common.{ℕ, length, sym, ◌∙◌, ap, arith, List}
use Rattle.std.specs.List.{flat_map}
use Rattle.std.proofs.lemmas.List.{take_all}
use Rattle.ddm_types.specs.declared.item_table.Run.{Run}
use Rattle.ddm_types.specs.ItemRuns.{run_numbers}
use Rattle.ddm_types.proofs.item_table.count_items.Goals as goal
use Rattle.ddm_types.proofs.Runs.{counted_more, rest_more, item_count-items_of}

abbrev no_run : Run
no_run = record { first = 0; end = 0 }

pub loop-run-preserved : goal.loop-run-preserved
loop-run-preserved c =
    let runs = c.deref-run-items.result.now in
    let i = c.loop-run.run-index in
    let more = counted_more runs i no_run c.loop-run-test.true in
    let rest = rest_more runs i c.loop-run.count no_run c.loop-run-test.true c.loop-run.invariant.rest in
    record {
      counted = omega (arith, more);
      rest = rw c.from-count.ensures rest;
    }

pub returns : goal.returns
returns c =
    c.loop-run.invariant.counted ∙
    ap (λ (runs : List Run). length (flat_map run_numbers runs)) (take_all c.loop-run.run-index c.deref-run-items.result.now c.loop-run-test.false ∙ c.deref-run-items.ensures.value) ∙
    ap (λ (ns : List ℕ). length ns) c.in_ok-runs.ensures.numbers ∙
    sym (item_count-items_of c.args.item_bytes c.args.spans.now)
