use Rattle.std.proofs.Common.{◌≡◌, ◌<◌, List, length, sym, ap, ◌∙◌, arith, rules, subst}
use Rattle.std.specs.Prelude.{Err}
use Rattle.std.proofs.lemmas.Bool.Decides.{nat_tests}
use Rattle.std.proofs.lemmas.List.{take_rest}
use Rattle.litmus_model.specs.declared.parts.Token.{Token}
use Rattle.litmus_model.specs.Refusing.{Judged}
use Rattle.litmus_model.specs.Tokens.{tokens_of}
use Rattle.litmus_model.specs.Sections.{Sections, sections_in}
use Rattle.litmus_text.specs.Kept.{sections_from}
use Rattle.litmus_text.specs.Reads.{Reads}
use Rattle.litmus_text.proofs.Cuts.{some_brace, tokens_bad}
use Rattle.litmus_text.proofs.sections.behind_header.Goals as goal

pub returns-in_err-tokens : goal.returns-in_err-tokens
returns-in_err-tokens c =
    let is : c.from_residual.result ≡ Err c.in_err-tokens.field-0.0 = search rules in
    let some : 0 < length c.args.text.now = grind (arith, nat_tests) in
    rw is (tokens_bad c.args.name.items c.args.begun c.args.end c.args.text.now _ c.in_err-tokens.field-0.0 some (take_rest c.args.text.now 1) c.in_err-tokens.ensures)

pub returns : goal.returns
returns c =
    let text = c.args.text.now in
    let some : 0 < length c.args.text.now = grind (arith, nat_tests) in
    let are = ap (tokens_of c.args.begun) (sym (take_rest text 1)) ∙ c.in_ok-tokens.ensures in
    let cut = some_brace c.args.name.items c.args.begun c.args.end text c.in_ok-tokens.tokens.items (λ none. omega (arith, some, none)) are in
    subst (λ (j : Judged Sections). Reads sections_from j c.sections_in.result)
    (sym (cut ∙ ap (λ (ts : List Token). sections_in c.args.name.items c.args.begun c.args.end ts) (sym c.deref.ensures.value))) c.sections_in.ensures
