use Rattle.std.proofs.Common.{◌≡◌, drop, rules, Err, lit<}
use Rattle.std.specs.Prelude.{slice_index}
use Rattle.ddm_tree.proofs.StateJudged.{judge-refused, judged-read, state-counts, state-frame, state-granted, state-rules, words-refused}
use Rattle.ddm_tree.proofs.machine.Machine.read_state.Goals as goal

pub returns-in_err-parts-clause-refused : goal.returns-in_err-parts-clause-refused
returns-in_err-parts-clause-refused g c =
    let e = c.in_err-parts.field-0.0 in
    let is : c.from_residual.result ≡ Err e = search rules in
    let ws = drop c.args.from c.args.words.now in
    rw is (λ other. words-refused c.args.fresh.machine (slice_index c.args.words.now 8) c.args.from ws e ((rw c.into_parts.ensures.value at c.in_err-parts.ensures.refused) other))

pub returns-in_err-judge-clause-refused : goal.returns-in_err-judge-clause-refused
returns-in_err-judge-clause-refused g c =
    let e = c.in_err-judge.field-0.0 in
    let is : c.from_residual-in_err-judge.result ≡ Err e = search rules in
    let ws = drop c.args.from c.args.words.now in
    let read = rw c.into_parts.ensures.value at c.in_ok-parts.ensures.read in
    rw is (λ other. judge-refused c.args.fresh.machine (slice_index c.args.words.now 8) c.args.from ws c.in_ok-parts.parts c.in_ok-parts.at (drop c.in_ok-parts.at c.args.words.now) read e (c.in_err-judge.ensures.refused other))

pub into_machine-requires : goal.into_machine-requires
into_machine-requires g c =
    let ws = drop c.args.from c.args.words.now in
    let rest = drop c.in_ok-parts.at c.args.words.now in
    let read = rw c.into_parts.ensures.value at c.in_ok-parts.ensures.read in
    let retired = slice_index c.args.words.now 8 in (
      lit< tt,
      (
        lit< tt,
        (
          state-rules c.args.fresh.machine retired c.args.from ws c.in_ok-parts.parts c.in_ok-parts.at rest read c.into_parts.ensures.readable c.in_ok-judge.ensures.ok,
          (
            state-counts c.args.fresh.machine retired c.args.from ws c.in_ok-parts.parts c.in_ok-parts.at rest read c.into_parts.ensures.readable,
            state-granted c.args.fresh.machine retired c.args.from ws c.in_ok-parts.parts c.in_ok-parts.at rest read c.into_parts.ensures.readable,
          ),
        ),
      ),
    )

pub returns-clause-read : goal.returns-clause-read
returns-clause-read g c =
    let ws = drop c.args.from c.args.words.now in
    let read = rw c.into_parts.ensures.value at c.in_ok-parts.ensures.read in
    rw c.into_machine.ensures (judged-read c.args.fresh.machine (slice_index c.args.words.now 8) c.args.from ws c.in_ok-parts.parts c.in_ok-parts.at (drop c.in_ok-parts.at c.args.words.now) read c.in_ok-judge.ensures.ok)

pub returns-clause-frame : goal.returns-clause-frame
returns-clause-frame g c =
    let ws = drop c.args.from c.args.words.now in
    let read = rw c.into_parts.ensures.value at c.in_ok-parts.ensures.read in
    rw c.into_machine.ensures (state-frame c.args.fresh.machine (slice_index c.args.words.now 8) c.args.from ws c.in_ok-parts.parts c.in_ok-parts.at (drop c.in_ok-parts.at c.args.words.now) read c.into_parts.ensures.readable)
