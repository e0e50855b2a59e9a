use Rattle.std.proofs.Common.{◌≡◌, ◌∙◌, ◌+◌, ap, rules, Err, arith, [], drop, length, map, nat_lt}
use Rattle.state_reading.specs.Reading.{times}
use Rattle.state_reading.specs.Parts.{read_copy, listed}
use Rattle.tx_queue.specs.Read.{copy_value}
use Rattle.state_reading.proofs.Steps.{went_on, one_step_more, one_step_refused, times_done}
use Rattle.tx_queue.proofs.reading.«Queue+tuple2+ItemId+Words+WORDS».read_copies.Goals as goal

pub loop-number-preserved : goal.loop-number-preserved
loop-number-preserved g c =
    let one : read_copy g.row.WORDS (λ x cs. nat_lt x c.args.self.now.items) (map copy_value c.loop-number.self.list) c.loop-number.at (drop c.loop-number.at c.args.words.now) ≡ _ = rw c.loop-number.invariant.items at c.in_ok-read_copy.ensures.read in
    record {
      left = one_step_more (read_copy g.row.WORDS (λ x cs. nat_lt x c.args.self.now.items)) c.in_ok-count.count c.loop-number._number _ c.loop-number.at (drop c.loop-number.at c.args.words.now) _ _ _ _ (omega arith) c.loop-number.invariant.left one;
      many = c.in_ok-read_copy.ensures.more ∙ ap (λ n. n + 1) c.loop-number.invariant.many;
      room = c.loop-number.invariant.room;
      inside = c.in_ok-read_copy.ensures.inside;
      capacity = c.in_ok-read_copy.ensures.capacity ∙ c.loop-number.invariant.capacity;
      items = c.in_ok-read_copy.ensures.items ∙ c.loop-number.invariant.items;
    }

pub returns-in_err-read_copy-clause-refused : goal.returns-in_err-read_copy-clause-refused
returns-in_err-read_copy-clause-refused g c =
    let e = c.in_err-read_copy.field-0.0 in
    let is : c.from_residual-in_err-read_copy.result ≡ Err e = search rules in
    let one : read_copy g.row.WORDS (λ x cs. nat_lt x c.args.self.now.items) (map copy_value c.loop-number.self.list) c.loop-number.at (drop c.loop-number.at c.args.words.now) ≡ Err e = rw c.loop-number.invariant.items at c.in_err-read_copy.ensures.refused in
    rw is (went_on _ (λ count k ws. times (read_copy g.row.WORDS (λ x cs. nat_lt x c.args.self.now.items)) count [] k ws) c.in_ok-count.count c.word_to.new.at (drop c.word_to.new.at c.args.words.now) (rw c.capacity.ensures at c.in_ok-count.ensures.read)
    ∙ one_step_refused (read_copy g.row.WORDS (λ x cs. nat_lt x c.args.self.now.items)) c.in_ok-count.count c.loop-number._number _ c.loop-number.at (drop c.loop-number.at c.args.words.now) e _ (omega arith) c.loop-number.invariant.left one)

pub returns-clause-read : goal.returns-clause-read
returns-clause-read g c =
    went_on _ (λ count k ws. times (read_copy g.row.WORDS (λ x cs. nat_lt x c.args.self.now.items)) count [] k ws) c.in_ok-count.count c.word_to.new.at (drop c.word_to.new.at c.args.words.now) (rw c.capacity.ensures at c.in_ok-count.ensures.read)
    ∙ (c.loop-number.invariant.left ∙ times_done (read_copy g.row.WORDS (λ x cs. nat_lt x c.args.self.now.items)) c.in_ok-count.count c.loop-number._number _ c.loop-number.at (drop c.loop-number.at c.args.words.now) (omega arith))
