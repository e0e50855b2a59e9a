use Rattle.std.proofs.Common.{◌≡◌, ◌∙◌, ◌<◌, false, ap, length, sym, arith}
use Rattle.std.specs.List.{list_any}
use Rattle.directory.specs.TreeModel.State.Directory.{queue_of, entry_item}
use Rattle.directory.specs.TreeModel.State.Lists.{names_item}
use Rattle.bus_judging.specs.Queue.{facts_of}
use Rattle.directory.proofs.EntryKinds.{kinds-further, no-kinds}
use Rattle.directory.proofs.gathered.down_facts.Goals as goal

pub returns-then-not-holds_item : goal.returns-then-not-holds_item
returns-then-not-holds_item g c =
    let none : list_any (names_item entry_item c.args.item) c.args.down.now.list ≡ false = sym c.holds_item.ensures ∙ c.if-not-holds_item.true in
    c.none-facts.ensures ∙ ap facts_of (sym (no-kinds c.args.item c.args.down.now.list none))

pub loop-place-init : goal.loop-place-init
unfolding queue_of
loop-place-init g c = c.none-facts.ensures

pub loop-place-preserved : goal.loop-place-preserved
loop-place-preserved g c =
    let inside : c.loop-place.place < length c.args.down.now.list = omega (arith, c.len-place-end.ensures, c.loop-place-test.true) in
    kinds-further c.args.item c.loop-place.place c.args.down.now.list c.loop-place.facts c.with_entry.new.facts inside c.loop-place.invariant c.with_entry.ensures
