use Rattle.std.proofs.Common.{◌≡◌, ◌∙◌, ◌+◌, ◌&&◌, ap, rules, not, nat_lt, Err, arith, [], drop, length}
use Rattle.std.specs.List.{list_any}
use Rattle.replacement.specs.TreeModel.State.Leaf.{is_copy}
use Rattle.state_reading.specs.Reading.{times}
use Rattle.state_reading.specs.Parts.{read_copy}
use Rattle.state_reading.proofs.Steps.{went_on, one_step_more, one_step_refused, times_done}
use Rattle.replacement.proofs.parking.Parking.read.Goals as goal

pub loop-number-preserved : goal.loop-number-preserved
loop-number-preserved g c = record {
  left = one_step_more (read_copy g.row.WORDS (λ x cs. nat_lt x c.args.items && not (list_any (is_copy x) cs))) c.in_ok-count.count c.loop-number._number _ c.loop-number.at (drop c.loop-number.at c.args.words.now) _ _ _ _ (omega arith) c.loop-number.invariant.left c.in_ok-read_copy.ensures.read;
  many = c.in_ok-read_copy.ensures.more ∙ ap (λ n. n + 1) c.loop-number.invariant.many;
  room = c.loop-number.invariant.room;
  below = c.in_ok-read_copy.ensures.below;
  inside = c.in_ok-read_copy.ensures.inside;
  capacity = c.in_ok-read_copy.ensures.capacity ∙ c.loop-number.invariant.capacity;
  reserved = c.in_ok-read_copy.ensures.reserved ∙ c.loop-number.invariant.reserved;
}

pub returns-in_err-read_copy-clause-refused : goal.returns-in_err-read_copy-clause-refused
returns-in_err-read_copy-clause-refused g c =
    let e = c.in_err-read_copy.field-0.0 in
    let is : c.from_residual-in_err-read_copy.result ≡ Err e = search rules in
    let room : c.capacity.result ≡ c.args.self.now.capacity = c.capacity.ensures ∙ ap (λ p. p.capacity) c.clear.ensures in
    let step = read_copy g.row.WORDS (λ x cs. nat_lt x c.args.items && not (list_any (is_copy x) cs)) in
    rw is (went_on _ (λ count k ws. times step count [] k ws) c.in_ok-count.count c.word_to.new.at (drop c.word_to.new.at c.args.words.now) (rw room at c.in_ok-count.ensures.read)
    ∙ one_step_refused step c.in_ok-count.count c.loop-number._number _ c.loop-number.at (drop c.loop-number.at c.args.words.now) e _ (omega arith) c.loop-number.invariant.left c.in_err-read_copy.ensures.refused)

pub returns-clause-read : goal.returns-clause-read
returns-clause-read g c =
    let room : c.capacity.result ≡ c.args.self.now.capacity = c.capacity.ensures ∙ ap (λ p. p.capacity) c.clear.ensures in
    let step = read_copy g.row.WORDS (λ x cs. nat_lt x c.args.items && not (list_any (is_copy x) cs)) in
    went_on _ (λ count k ws. times step count [] k ws) c.in_ok-count.count c.word_to.new.at (drop c.word_to.new.at c.args.words.now) (rw room at c.in_ok-count.ensures.read)
    ∙ (c.loop-number.invariant.left ∙ times_done step c.in_ok-count.count c.loop-number._number _ c.loop-number.at (drop c.loop-number.at c.args.words.now) (omega arith))
