use Rattle.std.proofs.Common.{◌+◌, ◌-◌, ◌≤◌, length, take, drop, sym, ◌∙◌, arith}
use Rattle.witness_check.proofs.Cuts.{tail_is}
use Rattle.witness_check.proofs.FirstPlaces.{block_behind, block_ends, block_inside}
use Rattle.witness_check.proofs.places.place_of.Goals as goal

pub overflow_add-result : goal.overflow_add-result
overflow_add-result c =
    let text = c.args.text.now in
    let from = c.blocks-2.from in
    let room : from + 32 ≤ length text = omega (arith, c.blocks-2-test.true, c.blocks-2.invariant.within) in
    omega (arith, block_inside c.args.separator from 32 c.in-Some.place text (take (length text - from) (drop from text)) (tail_is text from) room (sym c.in-Some.is ∙ c.place_in_32.ensures))

pub returns-in-Some : goal.returns-in-Some
returns-in-Some c =
    let text = c.args.text.now in
    let from = c.blocks-2.from in
    let room : from + 32 ≤ length text = omega (arith, c.blocks-2-test.true, c.blocks-2.invariant.within) in
    block_ends c.args.separator from 32 c.in-Some.place text (take (length text - from) (drop from text)) (tail_is text from) room (sym c.in-Some.is ∙ c.place_in_32.ensures)
    ∙ sym c.blocks-2.invariant.left

pub blocks-2-preserved : goal.blocks-2-preserved
blocks-2-preserved c =
    let text = c.args.text.now in
    let from = c.blocks-2.from in
    let room : from + 32 ≤ length text = omega (arith, c.blocks-2-test.true, c.blocks-2.invariant.within) in
    record {
      within = room;
      left = c.blocks-2.invariant.left ∙ block_behind c.args.separator from 32 text (take (length text - from) (drop from text)) (tail_is text from) room (sym c.in_default.is ∙ c.place_in_32.ensures);
    }
