use Rattle.std.proofs.Common.{List, ◌∷◌, ◌++◌, ◌+◌, drop, sym, ap, ◌∙◌}
use Rattle.std.proofs.lemmas.List.{drop_more}
use Rattle.litmus_model.specs.declared.parts.Token.{Token}
use Rattle.litmus_model.specs.Tokens.{pieces_at}
use Rattle.litmus_text.specs.Pieces.{with_tokens}
use Rattle.litmus_text.proofs.pieces.pieces_at.Goals as goal

pub loop-token-preserved : goal.loop-token-preserved
loop-token-preserved c =
    let tokens = c.args.tokens.now in
    let k = c.loop-token.token-index in
    let t = c.token-item.result in
    let next = drop_more tokens k t c.loop-token-test.true ∙ ap (λ (u : Token). u ∷ drop (k + 1) tokens) (sym c.token-item.is) in
    c.loop-token.invariant
    ∙ ap (λ (ts : List Token). c.loop-token.pieces.items ++ with_tokens c.loop-token.begun.items (pieces_at c.args.mark c.args.end ts)) next
    ∙ c.in_ok-take_token.ensures (drop (k + 1) tokens) c.args.end
