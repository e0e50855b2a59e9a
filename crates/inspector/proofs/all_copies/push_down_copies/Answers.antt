use Rattle.std.proofs.Common.{◌<◌, ◌≤◌, length, sym, ap, ◌∙◌, arith}
use Rattle.std.proofs.lemmas.List.{append-nil, append_assoc, take_all}
use Rattle.inspector.specs.Copies.{place_list}
use Rattle.inspector.specs.Entries.{down_copy}
use Rattle.inspector.proofs.CopyLists.{down_there, down-length, down-entry, down-more}
use Rattle.inspector.proofs.all_copies.push_down_copies.Goals as goal

pub loop-place-init : goal.loop-place-init
loop-place-init g c = sym (append-nil c.args.places.now.items)

pub loop-place-preserved : goal.loop-place-preserved
loop-place-preserved g c =
    let m = c.args.machine.now.machine in
    let x = c.args.item in
    let es = down_there m c.args.bus c.requires.bus in
    let size = down-length m c.args.bus c.requires.bus c.down_len-place-end.result c.down_len-place-end.ensures in
    let inside : c.loop-place.place < length es = omega (arith, size, c.loop-place-test.true) in
    let copy = ap place_list (c.down_copy.ensures ∙ ap (down_copy x c.args.bus c.loop-place.place) (down-entry m c.args.bus c.requires.bus c.loop-place.place c.down_get-entry.result c.down_get-entry.ensures)) in
    c.in_ok-push_place.ensures ∙ rw (c.loop-place.invariant, copy, down-more x c.args.bus c.loop-place.place es inside) (append_assoc c.args.places.now.items _ _)

pub returns : goal.returns
returns g c =
    let es = down_there c.args.machine.now.machine c.args.bus c.requires.bus in
    let size = down-length c.args.machine.now.machine c.args.bus c.requires.bus c.down_len-place-end.result c.down_len-place-end.ensures in
    let past : length es ≤ c.loop-place.place = omega (arith, size, c.loop-place-test.false) in
    rw (take_all c.loop-place.place es past) at c.loop-place.invariant
