use Rattle.std.proofs.Common.{◌≡◌, ◌<◌, ◌≤◌, length, refl, ap, ◌∙◌, arith}
use Rattle.std.proofs.lemmas.List.{take_all}
use Rattle.directory.specs.TreeModel.State.Directory.{queue_of}
use Rattle.directory.specs.TreeModel.Turns.Found.{down_place, queue_words}
use Rattle.directory.proofs.LastCopy.{last-further}
use Rattle.directory.proofs.state.DirState.last_copy.Goals as goal

pub loop-place-init : goal.loop-place-init
unfolding queue_of
loop-place-init g c = record { place = refl; words = refl }

pub loop-place-preserved : goal.loop-place-preserved
loop-place-preserved g c =
    let down : c.self.inside.down.list ≡ c.args.self.now.down = ap (λ d. d.down) c.self.view_is in
    let size = ap length down in
    let inside : c.loop-place.place < length c.args.self.now.down = omega (arith, c.len-place-end.ensures, c.loop-place-test.true, size) in
    last-further c.args.item c.loop-place.place c.args.self.now.down c.loop-place.last c.later_copy-last.result inside c.loop-place.invariant (λ e is. c.later_copy-last.ensures e (rw down is))

pub returns-clause-place : goal.returns-clause-place
returns-clause-place g c =
    let size = ap (λ d. length d.down) c.self.view_is in
    let past : length c.args.self.now.down ≤ c.loop-place.place = omega (arith, c.len-place-end.ensures, c.loop-place-test.false, size) in
    c.loop-place.invariant.place ∙ ap (down_place c.args.item 0) (take_all c.loop-place.place c.args.self.now.down past)

pub returns-clause-words : goal.returns-clause-words
returns-clause-words g c =
    let size = ap (λ d. length d.down) c.self.view_is in
    let past : length c.args.self.now.down ≤ c.loop-place.place = omega (arith, c.len-place-end.ensures, c.loop-place-test.false, size) in
    c.loop-place.invariant.words ∙ ap (λ es. queue_words (queue_of c.args.item es)) (take_all c.loop-place.place c.args.self.now.down past)
