use Rattle.std.proofs.Common.{◌≡◌, true, sym, ap, ◌∙◌}
use Rattle.serving_runs.specs.DdmTypes.ItemTable.{item_count}
use Rattle.serving_runs.specs.ServingModel.Rest.{sizes_have_room}
use Rattle.any_runs.specs.AnyMachine.Any.{machine_state}
use Rattle.serving_runs.proofs.CanStart.{harts-named, start-shown}
use Rattle.serving_runs.proofs.text.served_text.Goals as goal

pub turns_for-requires-clause-shown : goal.turns_for-requires-clause-shown
turns_for-requires-clause-shown c =
    let t = c.args.tree.now in
    let m = (machine_state c.args.machine).machine in
    let room : sizes_have_room t (item_count m.items) ≡ true = ap (λ its. sizes_have_room t (item_count its)) (sym c.items.ensures) ∙ (ap (sizes_have_room t) (sym c.len.ensures) ∙ (sym c.has_room.ensures ∙ c.if-not-has_room.false)) in
    start-shown t c.requires.image m c.requires.tree c.requires.built room

pub turns_for-requires-clause-harts : goal.turns_for-requires-clause-harts
turns_for-requires-clause-harts c =
    let t = c.args.tree.now in
    let m = (machine_state c.args.machine).machine in
    let room : sizes_have_room t (item_count m.items) ≡ true = ap (λ its. sizes_have_room t (item_count its)) (sym c.items.ensures) ∙ (ap (sizes_have_room t) (sym c.len.ensures) ∙ (sym c.has_room.ensures ∙ c.if-not-has_room.false)) in
    harts-named t c.requires.image m c.requires.tree c.requires.built room c.args.ops.now c.requires.legal
