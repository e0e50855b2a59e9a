use Rattle.std.proofs.Common.{◌≡◌, ◌<◌, drop, length, sym, ◌∙◌, arith}
use Rattle.std.proofs.lemmas.List.{take_rest}
use Rattle.litmus_text.proofs.Cuts.{some_final}
use Rattle.litmus_text.proofs.sections.with_final.Goals as goal

pub returns : goal.returns
returns c =
    let at = c.place_of_final-at.result in
    let inside : c.place_of_final-at.result < length c.args.tokens.now = omega (arith, c.place_of_final-at.ensures.inside, c.if-at-tokens.false) in
    let last : c.in_ok-last.last.items ≡ drop c.place_of_final-at.result c.args.tokens.now = c.in_ok-last.ensures ∙ take_rest c.args.tokens.now at in
    rw (c.in_ok-program.ensures, last)
    (some_final c.args.name.items c.args.init.items c.args.closing c.args.end c.args.tokens.now at c.index-tokens-at.result (sym c.place_of_final-at.ensures.place) inside)
