use Rattle.std.proofs.Common.{◌≡◌, ◌*◌, length, get_or, sym, ◌∙◌, ap, arith}
use Rattle.attraction_mem.proofs.Copied.{copied_join, copied_next, copied_equal, copied_all, below_join, below_free, below_all, free_in_set, next_set}
use Rattle.attraction_mem.proofs.copying.copy_sets.Goals.{then-marks-set-ne0, else-marks-set-ne0+else-from_marks-set-ne0}
use Rattle.attraction_mem.proofs.copying.copy_sets.Goals as goal

pub loop-set-preserved : goal.loop-set-preserved
loop-set-preserved g c =
    let set = c.loop-set.set in
    let first = set * g.row.WAYS in
    let before = c.loop-set.invariant in
    elim c.if-marks-set-ne0.branch [
      | then-marks-set-ne0 w ↦ rw (w.tags-is, w.words-is, w.marks-is, ← next_set set g.row.WAYS) (
        copied_join first g.row.WAYS before.0 w.copy_set.ensures.tags,
        below_join first g.row.WAYS before.1 w.copy_set.ensures.words,
        copied_next set before.2 (omega (arith, c.loop-set-test.true, c.requires.from_marks)),
      )
      | else-marks-set-ne0+else-from_marks-set-ne0 w ↦
          let from_free = free_in_set g.row.WAYS set c.args.from_tags.now c.args.from_marks.now c.requires.from_free w.if-from_marks-set-ne0.false in
          let unmarked : get_or c.args.marks.now set 0 ≡ 0 = sym (before.2.elsewhere set (λ _ less. omega (arith, less))) ∙ w.if-marks-set-ne0.false in
          let was_free = free_in_set g.row.WAYS set c.args.tags.now c.args.marks.now c.requires.free unmarked in
          rw (w.tags-is, w.words-is, w.marks-is, ← next_set set g.row.WAYS) (
            copied_equal first g.row.WAYS before.0 (λ k low high. was_free k low high ∙ sym (from_free k low high)),
            below_free first g.row.WAYS before.1 from_free,
            copied_equal set 1 before.2 (λ k low high. let here : k ≡ set = omega (arith, low, high) in ap (λ s. get_or c.args.marks.now s 0) here ∙ unmarked ∙ sym (w.if-from_marks-set-ne0.false) ∙ ap (λ s. get_or c.args.from_marks.now s 0) (sym here)),
          )
    ]

pub returns-clause-tags : goal.returns-clause-tags
returns-clause-tags g c =
    let all : c.loop-set.set ≡ length c.args.marks.now = omega (arith, c.loop-set-test.false, c.loop-set.auto.set-end, c.requires.from_marks) in
    copied_all (c.loop-set.set * g.row.WAYS) c.loop-set.invariant.0 (ap (λ n. n * g.row.WAYS) all ∙ sym c.requires.sized.count ∙ sym c.requires.from_tags) c.requires.from_tags

pub returns-clause-words : goal.returns-clause-words
returns-clause-words g c =
    let all : c.loop-set.set ≡ length c.args.marks.now = omega (arith, c.loop-set-test.false, c.loop-set.auto.set-end, c.requires.from_marks) in
    let places : c.loop-set.set * g.row.WAYS ≡ length c.args.from_tags.now = ap (λ n. n * g.row.WAYS) all ∙ sym c.requires.sized.count ∙ sym c.requires.from_tags in
    below_all (c.loop-set.set * g.row.WAYS) c.loop-set.invariant.1 (omega (arith, places))

pub returns-clause-marks : goal.returns-clause-marks
returns-clause-marks g c = copied_all c.loop-set.set c.loop-set.invariant.2 (omega (arith, c.loop-set-test.false, c.loop-set.auto.set-end)) c.requires.from_marks
