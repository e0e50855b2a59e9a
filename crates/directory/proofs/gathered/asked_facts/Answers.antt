use Rattle.std.proofs.Common.{◌≡◌, ◌∙◌, ◌<◌, ◌≤◌, false, ap, length, sym, arith}
use Rattle.std.specs.List.{list_any}
use Rattle.std.proofs.lemmas.List.{take_all}
use Rattle.directory.specs.TreeModel.State.Lists.{names_item}
use Rattle.bus_judging.specs.Parent.{request_facts}
use Rattle.directory.proofs.EntryKinds.{none-passing, pair_item, pair_kind, passing, requests-further, requests-kinds}
use Rattle.directory.proofs.gathered.asked_facts.Goals as goal

pub returns-then-not-holds_item : goal.returns-then-not-holds_item
returns-then-not-holds_item c =
    let l = c.args.requests.now.list in
    let none : list_any (names_item pair_item c.args.item) l ≡ false = sym c.holds_item.ensures ∙ c.if-not-holds_item.true in
    c.none-facts.ensures ∙ ap request_facts (sym (requests-kinds c.args.item l ∙ none-passing pair_kind (names_item pair_item c.args.item) l none))

pub loop-place-preserved : goal.loop-place-preserved
loop-place-preserved c =
    let inside : c.loop-place.place < length c.args.requests.now.list = omega (arith, c.len-place-end.ensures, c.loop-place-test.true) in
    requests-further c.args.item c.loop-place.place c.args.requests.now.list c.loop-place.facts c.with_request.new.facts inside c.loop-place.invariant c.with_request.ensures

pub returns : goal.returns
returns c =
    let l = c.args.requests.now.list in
    let past : length l ≤ c.loop-place.place = omega (arith, c.len-place-end.ensures, c.loop-place-test.false) in
    c.loop-place.invariant ∙ ap (λ es. request_facts (passing pair_kind (names_item pair_item c.args.item) es)) (take_all c.loop-place.place l past) ∙ ap request_facts (sym (requests-kinds c.args.item l))
