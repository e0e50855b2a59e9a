use Rattle.std.proofs.Common.{◌≡◌, ◌∙◌, ap, refl}
use Rattle.bus_judging.proofs.Agree.{face_by_facts}
use Rattle.bus_judging.proofs.parent.ParentFacts.face.Goals as goal

pub returns : goal.returns
returns c p is =
    let at = c.self.view_is ∙ is in
    let hold : c.self.inside.hold ≡ p.hold = ap (λ f. f.hold) at in
    let answering : c.self.inside.answering ≡ p.answering = ap (λ f. f.answering) at in
    rw (c.was_granted_a_read.ensures, c.was_granted_an_erase.ensures, is, hold, answering, face_by_facts p c.args.replies) refl
