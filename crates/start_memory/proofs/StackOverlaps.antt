-- The first stack that meets a segment, while a loop goes over the harts.
use Rattle.std.proofs.Common.{◌≡◌, ◌<◌, ◌≤◌, ℕ, suc, ◌+◌, ◌-◌, List, map, Option, Some, None, sym, ap, ◌∙◌, arith}
use Rattle.std.specs.List.{range_with_len}
use Rattle.start_memory.specs.DdmTypes.declared.sizes.Start.{Start}
use Rattle.start_memory.specs.TreeModel.State.Lists.{first_some}
use Rattle.start_memory.specs.TreeModel.Start.Machine.{header_met, overlap_from, overlap_of, StartRefusal, stack_overlap}
use Rattle.start_memory.specs.TreeModel.Start.Sources.{SegmentValue}
use Rattle.start_memory.specs.Memory.{stack_of, stacks_of}

module _ (start : Start) (segments : List SegmentValue) where
  -- from this hart on
  abbrev pub overlap_at : ℕ → Option StartRefusal
  overlap_at hart = overlap_from segments hart (map (stack_of start) (range_with_len hart (start.harts - hart)))

  pub overlap-all : overlap_from segments 0 (stacks_of start) ≡ overlap_at 0
  overlap-all =
      let whole : start.harts - 0 ≡ start.harts = omega arith in
      ap (λ n. overlap_from segments 0 (map (stack_of start) (range_with_len 0 n))) (sym whole)

  here : (hart : ℕ) → hart < start.harts → overlap_at hart ≡ first_some (overlap_of hart (header_met (stack_of start hart) segments)) (overlap_at (hart + 1))
  here hart within =
      let size : start.harts - hart ≡ suc (start.harts - (hart + 1)) = omega (arith, within) in
      ap (λ n. overlap_from segments hart (map (stack_of start) (range_with_len hart n))) size

  pub overlap-met : (hart header : ℕ) → hart < start.harts → Some header ≡ header_met (stack_of start hart) segments → overlap_at hart ≡ Some (stack_overlap hart header)
  overlap-met hart header within is = here hart within ∙ ap (λ o. first_some (overlap_of hart o) (overlap_at (hart + 1))) (sym is)

  pub overlap-past : (hart : ℕ) → hart < start.harts → None ≡ header_met (stack_of start hart) segments → overlap_at hart ≡ overlap_at (hart + 1)
  overlap-past hart within is = here hart within ∙ ap (λ o. first_some (overlap_of hart o) (overlap_at (hart + 1))) (sym is)

  pub overlap-end : (hart : ℕ) → start.harts ≤ hart → overlap_at hart ≡ None
  overlap-end hart past =
      let none : start.harts - hart ≡ 0 = omega (arith, past) in
      ap (λ n. overlap_from segments hart (map (stack_of start) (range_with_len hart n))) none
