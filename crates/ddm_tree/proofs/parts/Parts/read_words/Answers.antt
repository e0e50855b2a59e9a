-- The sections one after the other: what refuses one of them refuses the whole.
use Rattle.std.proofs.Common.{◌≡◌, drop, rules, Err}
use Rattle.ddm_tree.proofs.StateRead.{buses-refused, count-refused, end-refused, harts-refused, leaves-refused, ops-refused, state-read}
use Rattle.ddm_tree.proofs.parts.Parts.read_words.Goals as goal

pub returns-in_err-harts-clause-refused : goal.returns-in_err-harts-clause-refused
returns-in_err-harts-clause-refused g c =
    let e = c.in_err-harts.field-0.0 in
    let is : c.from_residual.result ≡ Err e = search rules in
    rw is (λ other. harts-refused c.args.self c.args.retired c.args.from (drop c.args.from c.args.words.now) e c.in_err-harts.ensures.refused)

pub returns-in_err-buses-clause-refused : goal.returns-in_err-buses-clause-refused
returns-in_err-buses-clause-refused g c =
    let e = c.in_err-buses.field-0.0 in
    let is : c.from_residual-in_err-buses.result ≡ Err e = search rules in
    rw is (λ other. buses-refused c.args.self c.args.retired c.counts.ensures.readable c.counts.ensures.rooms c.args.words.now c.args.from c.in_ok-harts.harts c.in_ok-harts.at c.in_ok-harts.ensures.read e c.in_err-buses.ensures.refused)

pub returns-in_err-leaves-clause-refused : goal.returns-in_err-leaves-clause-refused
returns-in_err-leaves-clause-refused g c =
    let e = c.in_err-leaves.field-0.0 in
    let is : c.from_residual-in_err-leaves.result ≡ Err e = search rules in
    rw is (λ other. leaves-refused c.args.self c.args.retired c.counts.ensures.readable c.counts.ensures.rooms c.args.words.now c.args.from c.in_ok-harts.harts c.in_ok-harts.at c.in_ok-harts.ensures.read c.in_ok-buses.buses c.in_ok-buses.at c.in_ok-buses.ensures.read e c.in_err-leaves.ensures.refused)

pub returns-in_err-expect_word-clause-refused : goal.returns-in_err-expect_word-clause-refused
returns-in_err-expect_word-clause-refused g c =
    let e = c.in_err-expect_word.field-0.0 in
    let is : c.from_residual-in_err-expect_word.result ≡ Err e = search rules in
    rw is (λ other. count-refused c.args.self c.args.retired c.counts.ensures.readable c.counts.ensures.rooms c.args.words.now c.args.from c.in_ok-harts.harts c.in_ok-harts.at c.in_ok-harts.ensures.read c.in_ok-buses.buses c.in_ok-buses.at c.in_ok-buses.ensures.read c.in_ok-leaves.leaves c.in_ok-leaves.at c.in_ok-leaves.ensures.read e c.in_err-expect_word.ensures.refused)

pub returns-in_err-whole-clause-refused : goal.returns-in_err-whole-clause-refused
returns-in_err-whole-clause-refused g c =
    let e = c.in_err-whole.field-0.0 in
    let is : c.from_residual-in_err-whole.result ≡ Err e = search rules in
    rw is (λ other. ops-refused c.args.self c.args.retired c.counts.ensures.readable c.counts.ensures.rooms c.args.words.now c.args.from c.in_ok-harts.harts c.in_ok-harts.at c.in_ok-harts.ensures.read c.in_ok-buses.buses c.in_ok-buses.at c.in_ok-buses.ensures.read c.in_ok-leaves.leaves c.in_ok-leaves.at c.in_ok-leaves.ensures.read c.expect_word.new.at c.in_ok-expect_word.ensures.read e (c.in_err-whole.ensures.refused other))

pub returns-in_err-expect_word-2-clause-refused : goal.returns-in_err-expect_word-2-clause-refused
returns-in_err-expect_word-2-clause-refused g c =
    let e = c.in_err-expect_word-2.field-0.0 in
    let is : c.from_residual-in_err-expect_word-2.result ≡ Err e = search rules in
    rw is (λ other. end-refused c.args.self c.args.retired c.counts.ensures.readable c.counts.ensures.rooms c.args.words.now c.args.from c.in_ok-harts.harts c.in_ok-harts.at c.in_ok-harts.ensures.read c.in_ok-buses.buses c.in_ok-buses.at c.in_ok-buses.ensures.read c.in_ok-leaves.leaves c.in_ok-leaves.at c.in_ok-leaves.ensures.read c.expect_word.new.at c.in_ok-expect_word.ensures.read c.in_ok-whole.whole c.in_ok-whole.at c.in_ok-whole.ensures.read e c.in_err-expect_word-2.ensures.refused)

pub returns-clause-read : goal.returns-clause-read
returns-clause-read g c = state-read c.args.self c.args.retired c.counts.ensures.readable c.counts.ensures.rooms c.args.words.now c.args.from c.in_ok-harts.harts c.in_ok-harts.at c.in_ok-harts.ensures.read c.in_ok-buses.buses c.in_ok-buses.at c.in_ok-buses.ensures.read c.in_ok-leaves.leaves c.in_ok-leaves.at c.in_ok-leaves.ensures.read c.expect_word.new.at c.in_ok-expect_word.ensures.read c.in_ok-whole.whole c.in_ok-whole.at c.in_ok-whole.ensures.read c.expect_word-2.new.at c.in_ok-expect_word-2.ensures.read
