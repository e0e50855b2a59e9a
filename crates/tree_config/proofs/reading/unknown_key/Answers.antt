use Rattle.std.proofs.Common.{◌≡◌, ◌∙◌, false, Some, sym, ap, string_bytes}
use Rattle.tree_config.specs.TreeFile.{is_known}
use Rattle.tree_config.proofs.UnknownKeys.{first_unknown, first_unknown-found, least_unknown-first}
use Rattle.tree_config.proofs.reading.unknown_key.Goals as goal

pub returns-then-not-is_known_key : goal.returns-then-not-is_known_key
returns-then-not-is_known_key c =
    let least = least_unknown-first c.args.table.now.entries c.keys-name-items.ensures.ordered in
    let unknown : is_known (string_bytes c.in-Some.name.now) ≡ false = ap is_known (sym c.as_str.ensures.value) ∙ sym c.is_known_key.ensures ∙ c.if-not-is_known_key.true in
    let found = first_unknown-found c.key.name-iterator c.in-Some.name.now c.next.new.self c.in-Some.ensures.steps unknown in
    ap Some c.as_str-then-not-is_known_key.ensures.value ∙ sym (sym least ∙ c.key.invariant ∙ found)

pub returns : goal.returns
returns c =
    let least = least_unknown-first c.args.table.now.entries c.keys-name-items.ensures.ordered in
    sym (sym least ∙ c.key.invariant ∙ ap first_unknown c.in-None.ensures.steps.0)
