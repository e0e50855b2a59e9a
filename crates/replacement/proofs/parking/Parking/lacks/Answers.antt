use Rattle.std.proofs.Common.{◌∙◌, ap, sym, refl}
use Rattle.std.specs.List.{find}
use Rattle.replacement.specs.TreeModel.State.Leaf.{is_copy}
use Rattle.replacement.proofs.Absent.{has_copy, has_none}
use Rattle.replacement.proofs.parking.Parking.lacks.Goals as goal

pub returns-in-Some : goal.returns-in-Some
returns-in-Some g c =
    rw (has_copy c.args.item c.args.self.now.list c.in-Some.field-0.1 (sym (c.in-Some.ensures.entry ∙ ap (λ p. find (is_copy c.args.item) p.list) c.self.view_is))) refl

pub returns-in-None : goal.returns-in-None
returns-in-None g c =
    rw (has_none c.args.item c.args.self.now.list (sym (c.in-None.ensures.entry ∙ ap (λ p. find (is_copy c.args.item) p.list) c.self.view_is))) refl
