use Rattle.std.proofs.Common.{rules, sym, ap, ◌∙◌}
use Rattle.std.specs.Prelude.{option_map}
use Rattle.leaf_protocol.proofs.Reading.{stands-at, stands-nowhere, words-in-way, words-in-buffer, words-there}
use Rattle.leaf_protocol.proofs.entries.Entries.words_at.Goals as goal

pub words_at-requires : goal.words_at-requires
words_at-requires g c =
    let at = stands-at c.self.invariant c.args.item c.in-Some.place (sym c.in-Some.is ∙ rw (← c.self.view_is) at c.requires.place) in
    (search rules, (search (rules, c.self.invariant.words_fit), at.0))

pub unwrap-requires : goal.unwrap-requires
unwrap-requires g c =
    let none = stands-nowhere c.self.invariant c.args.item (sym c.in-None.is ∙ rw (← c.self.view_is) at c.requires.place) in
    words-there c.self.invariant c.args.item (rw (← c.self.view_is) at c.requires.there) none c.words.result c.words.ensures

pub returns-in-Some : goal.returns-in-Some
returns-in-Some g c = rw (← c.self.view_is) (words-in-way c.self.invariant c.args.item _ c.words_at.ensures)

pub returns-in-None : goal.returns-in-None
returns-in-None g c =
    let none = stands-nowhere c.self.invariant c.args.item (sym c.in-None.is ∙ rw (← c.self.view_is) at c.requires.place) in
    rw (← c.self.view_is) (words-in-buffer c.self.invariant c.args.item _ (sym (ap (option_map (λ e. e.words)) none)) (sym c.unwrap.ensures ∙ c.words.ensures))
