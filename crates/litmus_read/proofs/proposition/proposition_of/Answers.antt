use Rattle.std.proofs.Common.{◌≡◌, [], true, false, length, drop, refl, ap, ◌∙◌, rules, arith}
use Rattle.std.specs.Prelude.{◌||◌, not, nat_eq, Err}
use Rattle.litmus_model.specs.Condition.{chunks_of}
use Rattle.litmus_read.specs.Reading.{from_here}
use Rattle.litmus_read.proofs.Readings.{breaks_off, none_left, nothing_more, reading_begun, reading_fails, whole_fails}
use Rattle.litmus_read.proofs.proposition.proposition_of.Goals as goal

pub tokens-init : goal.tokens-init
tokens-init c =
    reading_begun c.args.threads c.args.end (chunks_of c.args.tokens.now) c.new.result.items c.new-2.result.items c.new.ensures.items c.new-2.ensures.items

pub returns-in_err-taken : goal.returns-in_err-taken
returns-in_err-taken c =
    let is : c.from_residual.result ≡ Err c.in_err-taken.field-0.0 = search rules in
    rw is
    (reading_fails _ _ (λ count. from_here c.args.threads c.args.end c.take_tokens.new.reading (chunks_of (drop count c.tokens.left.now))) c.in_err-taken.field-0.0 c.tokens.invariant
    (c.in_err-taken.ensures.taken c.args.end))

pub returns-in_err-end_atom : goal.returns-in_err-end_atom
returns-in_err-end_atom c =
    let is : c.from_residual-in_err-end_atom.result ≡ Err c.in_err-end_atom.field-0.0 = search rules in
    let none : length c.tokens.left.now ≡ 0 = omega (arith, c.tokens-test.false) in
    let whole = c.tokens.invariant ∙ ap (from_here c.args.threads c.args.end c.tokens.reading) (none_left c.tokens.left.now none) in
    rw is (whole_fails _ _ (from_here c.args.threads c.args.end c.end_atom.new.reading []) c.in_err-end_atom.field-0.0 whole (c.in_err-end_atom.ensures.atom c.args.end [] refl))

pub returns-then-is_open : goal.returns-then-is_open
returns-then-is_open c =
    let r = c.end_atom.new.reading in
    let none : length c.tokens.left.now ≡ 0 = omega (arith, c.tokens-test.false) in
    let whole = c.tokens.invariant ∙ ap (from_here c.args.threads c.args.end c.tokens.reading) (none_left c.tokens.left.now none) in
    let unfinished : (c.end_atom.new.reading.standing.wants || not (nat_eq c.end_atom.new.reading.standing.brackets 0)) ≡ true = search rules in
    rw c.in_line.ensures
    (whole
    ∙ c.in_ok-end_atom.ensures.atom c.args.end [] refl
    ∙ breaks_off c.args.threads c.args.end r.line r.chunks.items r.standing r.row.items c.in_ok-end_atom.ensures.ended unfinished)

pub returns : goal.returns
returns c =
    let r = c.end_atom.new.reading in
    let none : length c.tokens.left.now ≡ 0 = omega (arith, c.tokens-test.false) in
    let whole = c.tokens.invariant ∙ ap (from_here c.args.threads c.args.end c.tokens.reading) (none_left c.tokens.left.now none) in
    let closed : (c.end_atom.new.reading.standing.wants || not (nat_eq c.end_atom.new.reading.standing.brackets 0)) ≡ false = search rules in
    whole
    ∙ c.in_ok-end_atom.ensures.atom c.args.end [] refl
    ∙ nothing_more c.args.threads c.args.end r.line r.chunks.items r.standing r.row.items c.in_ok-end_atom.ensures.ended closed
