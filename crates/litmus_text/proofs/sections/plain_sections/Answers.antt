use Rattle.std.proofs.Common.{◌≡◌, ◌+◌, [], take, sym, subst}
use Rattle.std.specs.Prelude.{Ok}
use Rattle.std.proofs.lemmas.List.{take_rest}
use Rattle.litmus_model.specs.Refusing.{Judged}
use Rattle.litmus_model.specs.Sections.{Sections, head_words, line_feeds, name_of}
use Rattle.litmus_text.specs.Kept.{sections_from}
use Rattle.litmus_text.specs.Reads.{Reads}
use Rattle.litmus_text.proofs.Cuts.{good_header}
use Rattle.litmus_text.proofs.sections.plain_sections.Goals as goal

pub returns : goal.returns
returns c =
    let at = c.place_of_brace-at.result in
    let text = c.args.text.now in
    let name : name_of (1 + line_feeds (take c.place_of_brace-at.result c.args.text.now)) (head_words 1 [] (take c.place_of_brace-at.result c.args.text.now)) ≡ Ok c.in_ok-name.name.items =
    cc (c.in_ok-name.ensures, c.deref.ensures.value, c.in_ok-words.ensures, c.line_feeds-last.ensures.feeds) in
    let cut = good_header text at c.in_ok-name.name.items (sym c.place_of_brace-at.ensures.place) name in
    let same = rw (take_rest text at, c.line_feeds-last.ensures.feeds, c.line_feeds.ensures.feeds) at c.behind_header.ensures in
    subst (λ (j : Judged Sections). Reads sections_from j c.behind_header.result) (sym cut) same
