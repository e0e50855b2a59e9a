use Rattle.std.proofs.Common.{◌≡◌, ◌*◌, ◌^◌, ◌≤◌, All, map, ◌∙◌, ap, arith, rules, List}
use Rattle.std.specs.List.{flat_map}
use Rattle.std.proofs.lemmas.List.{take_all}
use Rattle.std.proofs.lemmas.List.Sorted.{IsNonDecreasingBy-from_sort_by_key, All-permutation}
use Rattle.ddm_types.specs.declared.sizes.Span.{Span}
use Rattle.ddm_types.specs.ItemTable.{item_numbers}
use Rattle.ddm_types.specs.ItemRuns.{run_numbers, run_of, swept}
use Rattle.ddm_types.proofs.item_table.runs_of.Goals as goal
use Rattle.ddm_types.proofs.Runs.{IfOk_then, swept-numbers, swept-in_order, swept-bound}

pub returns : goal.returns
returns c =
    let all : c.loop-span.overlapped.items ≡ map (run_of c.args.item_bytes) c.args.spans.now =
    c.loop-span.invariant.runs ∙ ap (λ (spans : List Span). map (run_of c.args.item_bytes) spans) (take_all c.loop-span.span-index c.args.spans.now (omega arith)) in
    let moves = rw all at c.sort_by_key.ensures.permutation in
    let rise = IsNonDecreasingBy-from_sort_by_key (λ r. r.first) _ c.in_ok-sort_by_key.ensures.sorted (λ a r q k. search rules) in
    let numbers : flat_map run_numbers (swept 0 c.deref.result.now) ≡ item_numbers c.args.item_bytes c.args.spans.now =
    rw c.deref.ensures.value (swept-numbers c.args.item_bytes c.args.spans.now c.sort_by_key.new.self.items moves rise) in
    let bound : All (λ r. r.end * c.args.item_bytes ≤ 2 ^ 32) (swept 0 c.deref.result.now) =
    rw c.deref.ensures.value (swept-bound c.args.item_bytes 0 c.sort_by_key.new.self.items (All-permutation (λ r. r.end * c.args.item_bytes ≤ 2 ^ 32) _ _ c.sort_by_key.ensures.permutation c.loop-span.invariant.bound)) in
    record {
      numbers = IfOk_then c.new_in_each.result c.new_in_each.ensures (λ runs e. rw e numbers);
      in_order = IfOk_then c.new_in_each.result c.new_in_each.ensures (λ runs e. rw e (swept-in_order 0 c.deref.result.now));
      bound = IfOk_then c.new_in_each.result c.new_in_each.ensures (λ runs e. rw e bound);
    }
