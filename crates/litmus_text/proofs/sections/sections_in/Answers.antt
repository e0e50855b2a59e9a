use Rattle.std.proofs.Common.{◌+◌, ◌<◌, length, sym, arith, subst}
use Rattle.std.proofs.lemmas.List.{take_rest}
use Rattle.litmus_model.specs.Refusing.{Judged}
use Rattle.litmus_model.specs.Sections.{Sections}
use Rattle.litmus_text.specs.Kept.{sections_from}
use Rattle.litmus_text.specs.Reads.{Reads}
use Rattle.litmus_text.proofs.Cuts.{closed_init}
use Rattle.litmus_text.proofs.sections.sections_in.Goals as goal

pub returns : goal.returns
returns c =
    let at = c.place_of-at.result in
    let tokens = c.args.tokens.now in
    let inside : c.place_of-at.result < length c.args.tokens.now = omega (arith, c.place_of-at.ensures.inside, c.if-at-tokens.false) in
    let cut = closed_init c.args.name.items c.args.begun c.args.end tokens at c.index-tokens-at.result (sym c.place_of-at.ensures.place) inside in
    let rest = take_rest tokens (at + 1) in
    let same = rw (rest, c.in_ok-init.ensures) at c.with_final.ensures in
    subst (λ (j : Judged Sections). Reads sections_from j c.with_final.result) (sym cut) same
