use Rattle.std.proofs.Common.{◌≡◌, ◌<◌, List, ℕ, length, arith, subst}
use Rattle.std.specs.Prelude.{bytes_eq, codes, true}
use Rattle.std.proofs.lemmas.Bool.Decides.{nat_tests}
use Rattle.std.proofs.lemmas.List.{take_rest}
use Rattle.litmus_model.specs.Refusing.{Judged}
use Rattle.litmus_model.specs.Sections.{HeadWord}
use Rattle.litmus_text.specs.Reads.{ReadsList}
use Rattle.litmus_text.proofs.Headers.{riscv_named}
use Rattle.litmus_text.proofs.header.name_of.Goals as goal

pub returns : goal.returns
returns c =
    let words = c.args.words.now in
    let w : HeadWord = record { line = c.word.inside.line; bytes = c.word.inside.bytes.items } in
    let some : 0 < length c.args.words.now = grind (arith, nat_tests) in
    let is : bytes_eq c.word.inside.bytes.items (codes "RISCV") ≡ true = cc (c.is.ensures, c.if-not-is.false, c.deref.ensures.value) in
    subst (λ (j : Judged (List ℕ)). ReadsList j c.name_in.result)
    (riscv_named c.args.last words _ w c.index-words-0.result some c.word.view_is c.index-words-0.is is (take_rest words 1)) c.name_in.ensures
