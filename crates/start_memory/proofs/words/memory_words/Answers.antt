use Rattle.std.proofs.Common.{rules, ◌≡◌, [], ◌∷◌, ◌+◌, ◌*◌, length, replicate, arith, sym, ap, ◌∙◌}
use Rattle.std.specs.Prelude.{slice_index}
use Rattle.std.proofs.lemmas.Bool.Decides.{nat_tests}
use Rattle.std.proofs.lemmas.List.{get_or-replicate}
use Rattle.std.proofs.lemmas.List.FromFn.{fill_by_all, get_or-map-range_with_len}
use Rattle.start_memory.specs.TreeModel.Start.Memory.{memory_word}
use Rattle.start_memory.proofs.WordAt.{word_here, word_none, word_past}
use Rattle.start_memory.proofs.words.memory_words.Goals as goal

pub returns-then-has_in_file : goal.returns-then-has_in_file
returns-then-has_in_file c =
    let ss = c.args.segments.now in
    let width = length c.args.words.now in
    let e = c.segment-item.result in
    let new = c.file_words.new.words in
    fill_by_all (λ k. memory_word ss (c.args.a + 4 * k)) new width 0 (omega arith)
    (λ k below.
    let read : slice_index new k ≡ memory_word (e ∷ []) (c.args.a + 4 * k) =
    ap (λ ws. slice_index ws k) c.file_words.ensures ∙ get_or-map-range_with_len (λ j. memory_word (e ∷ []) (c.args.a + 4 * j)) 0 _ k k 0 (omega arith) (omega arith) in
    read ∙ sym (word_here ss c.loop-segment.segment-index e (c.args.a + 4 * k) c.loop-segment-test.true c.segment-item.is (grind (arith, nat_tests))) ∙ c.loop-segment.invariant k (omega arith))

pub loop-segment-preserved : goal.loop-segment-preserved
loop-segment-preserved c = λ k below.
    sym (word_past c.args.segments.now c.loop-segment.segment-index c.segment-item.result (c.args.a + 4 * k) c.loop-segment-test.true c.segment-item.is (grind (arith, nat_tests)))
    ∙ c.loop-segment.invariant k below

pub returns : goal.returns
returns c =
    let ss = c.args.segments.now in
    let width = length c.args.words.now in
    let zeros : c.fill.new.self ≡ replicate width 0 = search rules in
    fill_by_all (λ k. memory_word ss (c.args.a + 4 * k)) c.fill.new.self width 0 (omega arith)
    (λ k below. ap (λ ws. slice_index ws k) zeros ∙ get_or-replicate width k 0 0 below ∙ sym (word_none ss c.loop-segment.segment-index (c.args.a + 4 * k) c.loop-segment-test.false)
    ∙ c.loop-segment.invariant k (omega arith))
