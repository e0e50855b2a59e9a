use Rattle.std.proofs.Common.{◌≡◌, ◌*◌, ◌^◌, ◌≤◌, All, map, take}
use Rattle.ddm_types.specs.ItemRuns.{run_of}
use Rattle.ddm_types.proofs.item_table.runs_of.Given as goal

abbrev pub invariant-loop-span : goal.invariant-loop-span
invariant-loop-span l = record {
  runs : l.overlapped.items ≡ map (run_of l.item_bytes) (take l.span-index l.spans);
  bound : All (λ run. run.end * l.item_bytes ≤ 2 ^ 32) l.overlapped.items;
}
