use Rattle.std.proofs.Common.{sym, ap, ◌∙◌, subst, ◌≡◌, ◌+◌, ◌<◌, ◌++◌, ◌∷◌, [], length}
use Rattle.search_store.specs.Schedule.{gone_on, schedules_of, AreEarlier}
use Rattle.search_store.proofs.Steps.{steps-one, steps-earlier, steps-counted}
use Rattle.search_store.proofs.schedules.Schedules.add.Goals as goal

pub invariant_of-self-2 : goal.invariant_of-self-2
invariant_of-self-2 c =
    let counted : length c.args.self.now ≡ 1 + length c.self.inside.steps.items = sym (ap length c.self.view_is) ∙ steps-counted ([] ∷ []) c.self.inside.steps.items in
    subst (AreEarlier 1) (sym c.in_ok-push.ensures.items) (steps-earlier 1 c.self.inside.steps.items (record { parent = c.args.parent; turn = c.args.turn }) c.self.invariant (subst (λ n. c.args.parent < n) counted c.requires))

pub returns-clause-added : goal.returns-clause-added
returns-clause-added c =
    ap schedules_of c.in_ok-push.ensures.items ∙ steps-one ([] ∷ []) c.self.inside.steps.items (record { parent = c.args.parent; turn = c.args.turn })
    ∙ ap (λ ss. ss ++ gone_on ss c.args.parent c.args.turn ∷ []) c.self.view_is
