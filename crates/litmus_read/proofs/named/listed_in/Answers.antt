use Rattle.std.proofs.Common.{◌≡◌, ◌<◌, List, take, length, sym, ◌∙◌, subst, rules, arith}
use Rattle.std.specs.Prelude.{Err}
use Rattle.litmus_model.specs.Tokens.{Piece, pieces_at}
use Rattle.litmus_model.specs.Condition.{pieces_targets}
use Rattle.litmus_text.specs.Reads.{ReadsList}
use Rattle.litmus_read.proofs.NamedTargets.{pieces_bad}
use Rattle.litmus_read.proofs.named.listed_in.Goals as goal

pub returns-in_err-named-clause-targets : goal.returns-in_err-named-clause-targets
returns-in_err-named-clause-targets c =
    let is : c.from_residual-in_err-named.result ≡ Err c.in_err-named.field-0.0 = search rules in
    let at = c.place_of-count.result in
    let inside : c.place_of-count.result < length c.args.tokens.now = omega (arith, c.place_of-count.ensures.inside, c.if-count-tokens.false) in
    let pieces : c.deref.result.now ≡ pieces_at 59 c.args.line (take c.place_of-count.result c.args.tokens.now) = c.deref.ensures.value ∙ c.in_ok-pieces.ensures in
    rw is
    (pieces_bad c.args.threads c.args.line c.args.tokens.now at c.in_err-named.field-0.0 (sym c.place_of-count.ensures.place) inside
    (subst (λ (ps : List Piece). ReadsList (pieces_targets c.args.threads ps) (Err c.in_err-named.field-0.0)) pieces c.in_err-named.ensures))
