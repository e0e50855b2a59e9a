use Rattle.std.proofs.Common.{◌≡◌, ◌+◌, ◌<◌, length, sym, ◌∙◌, rules, arith}
use Rattle.std.specs.Prelude.{Err}
use Rattle.std.proofs.lemmas.List.{take_rest}
use Rattle.litmus_read.proofs.AtomParts.{bad_target, bad_value, both_good}
use Rattle.litmus_read.proofs.atoms.compared_at.Goals as goal

pub returns-in_err-target : goal.returns-in_err-target
returns-in_err-target c =
    let is : c.from_residual.result ≡ Err c.in_err-target.field-0.0 = search rules in
    let inside : c.args.at < length c.args.parts.now = omega (arith, c.requires, c.if-at-parts.false) in
    is ∙ sym (bad_target c.args.threads c.args.line c.args.parts.now c.args.at c.in_err-target.field-0.0 inside (sym c.in_err-target.ensures))

pub returns-in_err-value : goal.returns-in_err-value
returns-in_err-value c =
    let is : c.from_residual-in_err-value.result ≡ Err c.in_err-value.field-0.0 = search rules in
    let inside : c.args.at < length c.args.parts.now = omega (arith, c.requires, c.if-at-parts.false) in
    is
    ∙ sym
    (bad_value c.args.threads c.args.line c.args.parts.now _ c.args.at c.in_ok-target.target c.in_err-value.field-0.0 inside (take_rest c.args.parts.now (c.args.at + 1)) (sym c.in_ok-target.ensures)
    (sym c.in_err-value.ensures))

pub returns : goal.returns
returns c =
    let inside : c.args.at < length c.args.parts.now = omega (arith, c.requires, c.if-at-parts.false) in
    c.comparison.ensures
    ∙ sym
    (both_good c.args.threads c.args.line c.args.parts.now _ c.args.at c.in_ok-target.target c.in_ok-value.value inside (take_rest c.args.parts.now (c.args.at + 1)) (sym c.in_ok-target.ensures)
    (sym c.in_ok-value.ensures))
