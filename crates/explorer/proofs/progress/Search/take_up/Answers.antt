use Rattle.std.proofs.Common.{◌≡◌, length, sym, ap, subst, ◌∙◌, arith}
use Rattle.std.proofs.lemmas.Bool.{or_parts, leb-false}
use Rattle.tree_model.specs.State.Values.{MachineValue}
use Rattle.search_laws.specs.Search.{looked_through, with_jam}
use Rattle.search_model.specs.Machines.{quiet_space}
use Rattle.search_model.specs.Tried.{tried_turns}
use Rattle.state_keys.specs.Same.{same_state}
use Rattle.explorer.specs.Searching.{IsKept, TakesUp, kept_by, searched_by, state_by}
use Rattle.explorer.proofs.TurnsLooked.{rested, up-taken, moved, moved-kept, there-next}
use Rattle.explorer.proofs.progress.Search.take_up.Goals as goal

pub returns-then-rests-clause-searched : goal.returns-then-rests-clause-searched
returns-then-rests-clause-searched g c = sym (rested c.args.most (g.M.States.start c.args.states.now) c.args.self.now (sym c.rests.ensures ∙ c.if-rests.true))

pub next_schedule-requires : goal.next_schedule-requires
next_schedule-requires g c = leb-false _ _ (or_parts _ _ (sym c.rests.ensures ∙ c.if-rests.false)).1

pub go_to-requires : goal.go_to-requires
go_to-requires g c = omega (arith, c.in_ok-schedule.ensures.few, c.requires.kept.next, c.requires.kept.few, ap length c.deref.ensures.value)

pub move_on-requires : goal.move_on-requires
move_on-requires g c =
    let taking = c.in_ok-look_through.ensures.taking in
    omega (arith, there-next c.args.most _ _ _ taking, taking.kept.few)

pub returns-clause-kept : goal.returns-clause-kept
returns-clause-kept g c =
    let m = g.M.States.start c.args.states.now in
    let here = c.note_jam.ensures.start ∙ c.choices.ensures.start ∙ c.go_to.ensures.start in
    let taking = subst (λ (n : MachineValue). TakesUp n c.deref-4.result.now c.look_through.new.self) here c.in_ok-look_through.ensures.taking in
    subst (IsKept m) (sym c.move_on.ensures) (moved-kept c.args.most m c.look_through.new.self c.deref-4.result.now taking)

pub returns-clause-searched : goal.returns-clause-searched
returns-clause-searched g c =
    let m = g.M.States.start c.args.states.now in
    let v = c.args.self.now in
    let j = c.note_jam.new.self in
    let w = c.look_through.new.self in
    let ts = c.in_ok-schedule.schedule.items in
    let gone = c.choices.ensures.start ∙ c.go_to.ensures.start in
    let here = c.note_jam.ensures.start ∙ gone in
    let taking = subst (λ l. TakesUp m l w) c.deref-4.ensures.value (subst (λ (n : MachineValue). TakesUp n c.deref-4.result.now w) here c.in_ok-look_through.ensures.taking) in
    let jam = subst (λ (n : MachineValue). searched_by n j ≡ with_jam (quiet_space same_state) c.args.most (kept_by n c.deref-2.result.now) (searched_by n v)) gone (c.in_ok-note_jam.ensures.searched c.args.most)
    ∙ ap (λ l. with_jam (quiet_space same_state) c.args.most (kept_by m l) (searched_by m v)) c.deref-2.ensures.value in
    let through = subst (λ (n : MachineValue). searched_by n w ≡ looked_through (quiet_space same_state) c.args.most (kept_by n c.deref-4.result.now) c.deref-5.result.now (searched_by n j)) here c.in_ok-look_through.ensures.searched
    ∙ ap (λ l. looked_through (quiet_space same_state) c.args.most (kept_by m l) c.deref-5.result.now (searched_by m j)) c.deref-4.ensures.value
    ∙ ap (λ l. looked_through (quiet_space same_state) c.args.most (kept_by m ts) l (searched_by m j)) c.deref-5.ensures.value in
    let tried = c.in_ok-turns.ensures.turns ∙ ap tried_turns (c.in_ok-go_to.ensures.at ∙ ap (state_by m) c.deref.ensures.value) in
    let runs = (or_parts _ _ (sym c.rests.ensures ∙ c.if-rests.false)).0 in
    ap (searched_by m) c.move_on.ensures ∙ sym (moved c.args.most m w ts taking) ∙ sym (up-taken c.args.most m v w ts c.in_ok-turns.turns.items (searched_by m j) runs c.in_ok-schedule.ensures.turns tried jam through)
