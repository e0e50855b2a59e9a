use Rattle.std.proofs.Common.{rules, ◌≡◌, ◌∙◌, Err, arith, drop, map, nat_lt}
use Rattle.leaf_protocol.specs.StateReading.Parts.{read_copy}
use Rattle.leaf_protocol.proofs.StateReading.Steps.{times_went_on, times_refused, times_done}
use Rattle.leaf_protocol.specs.Leaf.{copy_value}
use Rattle.leaf_protocol.proofs.read_back.read_replies.Goals as goal

pub returns-in_err-read_reply-clause-refused : goal.returns-in_err-read_reply-clause-refused
returns-in_err-read_reply-clause-refused g c =
    let is : c.from_residual.result ≡ Err c.in_err-read_reply.field-0.0 = search rules in
    rw is (c.copies.invariant.left
    ∙ times_refused (read_copy g.row.WORDS (λ x cs. nat_lt x c.args.items)) c.args.count c.copies.done (map copy_value c.copies.replies.list) c.copies.at (drop c.copies.at c.args.words.now) c.in_err-read_reply.field-0.0 (omega arith) c.in_err-read_reply.ensures.refused)

pub copies-preserved : goal.copies-preserved
copies-preserved g c = record {
  left = c.copies.invariant.left
      ∙ times_went_on (read_copy g.row.WORDS (λ x cs. nat_lt x c.args.items)) c.args.count c.copies.done (map copy_value c.copies.replies.list) c.copies.at (drop c.copies.at c.args.words.now) (map copy_value c.read_reply.new.replies.list) c.read_reply.new.at (drop c.read_reply.new.at c.args.words.now) (omega arith) c.in_ok-read_reply.ensures.read;
  below = c.in_ok-read_reply.ensures.below;
  count = omega (arith, c.in_ok-read_reply.ensures.count, c.copies.invariant.count);
  capacity = c.in_ok-read_reply.ensures.capacity ∙ c.copies.invariant.capacity;
  items = c.in_ok-read_reply.ensures.items ∙ c.copies.invariant.items;
  inside = c.in_ok-read_reply.ensures.inside;
}

pub returns-clause-read : goal.returns-clause-read
returns-clause-read g c =
    c.copies.invariant.left
    ∙ times_done (read_copy g.row.WORDS (λ x cs. nat_lt x c.args.items)) c.args.count c.copies.done (map copy_value c.copies.replies.list) c.copies.at (drop c.copies.at c.args.words.now) (omega arith)
