use Rattle.std.proofs.Common.{sym, ap, ◌∙◌, ◌≡◌, ◌+◌, ◌∷◌, [], length, arith}
use Rattle.search_store.proofs.Steps.{steps-counted}
use Rattle.search_store.proofs.schedules.Schedules.len.Goals as goal

pub returns : goal.returns
returns c =
    let counted : length c.args.self.now ≡ 1 + length c.self.inside.steps.items = sym (ap length c.self.view_is) ∙ steps-counted ([] ∷ []) c.self.inside.steps.items in
    omega (arith, counted, c.len.ensures, c.self.inside.steps.ok.0)
