use Rattle.std.proofs.Common.{rules, ◌≡◌, ◌-◌, ◌+◌, ◌||◌, ◌∙◌, Err, sym, ap, arith, drop, length, nat_eq, take}
use Rattle.state_reading.proofs.Steps.{one_more, none_more, words_begun, words_done}
use Rattle.state_reading.proofs.words.words_if.Goals as goal

pub loop-place-init : goal.loop-place-init
loop-place-init c = record { left = words_begun _ (length c.args.into.now) c.args.at.now (drop c.args.at.now c.args.words.now); inside = c.requires.inside; few = c.requires.few }

pub loop-place-preserved : goal.loop-place-preserved
loop-place-preserved c = record {
  left = c.loop-place.invariant.left
      ∙ one_more (λ w. c.args.means || nat_eq w 0) c.loop-place.into (length c.args.into.now) c.loop-place.place c.loop-place.at (drop c.loop-place.at c.args.words.now) c.in_ok-into.field-0 _ _ (omega arith) (omega arith) c.in_ok-into.ensures.read;
  inside = c.word_if.ensures.inside;
  few = c.requires.few;
}

pub returns-in_err-into-clause-refused : goal.returns-in_err-into-clause-refused
returns-in_err-into-clause-refused c =
    let is : c.from_residual.result ≡ Err c.in_err-into.field-0.0 = search rules in
    rw is (c.loop-place.invariant.left
    ∙ none_more (λ w. c.args.means || nat_eq w 0) (take c.loop-place.place c.loop-place.into) (length c.args.into.now) c.loop-place.place c.loop-place.at (drop c.loop-place.at c.args.words.now) c.in_err-into.field-0.0 (omega arith) c.in_err-into.ensures.read)

pub returns-clause-read : goal.returns-clause-read
returns-clause-read c =
    c.loop-place.invariant.left
    ∙ words_done (λ w. c.args.means || nat_eq w 0) c.loop-place.into (length c.args.into.now) c.loop-place.place c.loop-place.at (drop c.loop-place.at c.args.words.now) (omega arith) (omega arith)
