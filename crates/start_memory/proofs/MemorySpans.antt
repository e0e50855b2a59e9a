-- The memory of segments and stacks.
use Rattle.std.proofs.Common.{◌≡◌, ℕ, zero, suc, ◌+◌, ◌*◌, ◌<◌, ◌≤◌, List, [], ◌∷◌, ◌++◌, map, sym, ap, ◌∙◌, arith}
use Rattle.std.specs.Prelude.{All}
use Rattle.std.specs.List.{range_with_len}
use Rattle.std.proofs.Math.Nat.{mul-le-mul_right}
use Rattle.std.proofs.lemmas.List.{append_assoc}
use Rattle.std.proofs.lemmas.List.Elements.{All-nil, All-cons, All-head, All-tail}
use Rattle.std.proofs.lemmas.List.FromFn.{map-range_with_len_more}
use Rattle.start_memory.specs.DdmTypes.declared.sizes.Span.{Span}
use Rattle.start_memory.specs.DdmTypes.declared.sizes.Start.{Start}
use Rattle.start_memory.specs.DdmTypes.ItemTable.{span_end}
use Rattle.start_memory.specs.TreeModel.Start.Sources.{SegmentValue, segment_span}
use Rattle.elf_load.specs.ImageRule.{EndsInside}
use Rattle.start_memory.specs.Memory.{stack_of, stacks_of}

-- a stack ends where the last one does, or before
pub stack_inside : (base bytes harts hart : ℕ) → base + harts * bytes ≤ 4294967280 → hart < harts → base + (hart * bytes + bytes) ≤ 4294967280
stack_inside base bytes harts hart fits inside =
    let more : (hart + 1) * bytes ≤ harts * bytes = mul-le-mul_right bytes (omega (arith, inside)) in
    omega (arith, more, fits)

pub one_stack_more : (start : Start) (segments : List SegmentValue) (hart : ℕ) (old new : List Span) (span : Span)
    → old ≡ map segment_span segments ++ map (stack_of start) (range_with_len 0 hart) → new ≡ old ++ span ∷ [] → span ≡ stack_of start hart
    → new ≡ map segment_span segments ++ map (stack_of start) (range_with_len 0 (hart + 1))
one_stack_more start segments hart old new span was is put =
    let first = map segment_span segments in
    let stacks = map (stack_of start) (range_with_len 0 hart) in
    is ∙ ap (λ (o : List Span). o ++ span ∷ []) was ∙ ap (λ (s : Span). (first ++ stacks) ++ s ∷ []) put ∙ append_assoc first stacks (stack_of start hart ∷ [])
    ∙ ap (λ (more : List Span). first ++ more) (sym (map-range_with_len_more (stack_of start) 0 hart hart (omega arith)))

pub all_stacks : (start : Start) (segments : List SegmentValue) (hart : ℕ) (spans : List Span) → hart ≤ start.harts → start.harts ≤ hart
    → spans ≡ map segment_span segments ++ map (stack_of start) (range_with_len 0 hart) → spans ≡ map segment_span segments ++ stacks_of start
all_stacks start segments hart spans most least is =
    let same : hart ≡ start.harts = omega (arith, most, least) in
    is ∙ ap (λ n. map segment_span segments ++ map (stack_of start) (range_with_len 0 n)) same

abbrev pub Ends : Span → Type 0
Ends s = span_end s ≤ 4294967296

segments_end : (segments : List SegmentValue) (rest : List Span) → All EndsInside segments → All Ends rest → All Ends (map segment_span segments ++ rest)
segments_end [] rest fit ends = ends
segments_end (s ∷ ss) rest fit ends = All-cons Ends _ _ (All-head EndsInside s ss fit) (segments_end ss rest (All-tail EndsInside s ss fit) ends)

stacks_end : (start : Start) (first count : ℕ) → start.stack_base + start.harts * start.stack_bytes ≤ 4294967280 → first + count ≤ start.harts → All Ends (map (stack_of start) (range_with_len first count))
stacks_end start first zero fits few = All-nil Ends
stacks_end start first (suc count) fits few =
    let inside = stack_inside start.stack_base start.stack_bytes start.harts first fits (omega (arith, few)) in
    All-cons Ends _ _ (omega (arith, inside)) (stacks_end start (first + 1) count fits (omega (arith, few)))

-- each ends in memory
pub spans_end : (start : Start) (segments : List SegmentValue) → All EndsInside segments → start.stack_base + start.harts * start.stack_bytes ≤ 4294967280 → All Ends (map segment_span segments ++ stacks_of start)
spans_end start segments fit fits = segments_end segments (stacks_of start) fit (stacks_end start 0 start.harts fits (omega arith))
