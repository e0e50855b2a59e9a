use Rattle.std.proofs.Common.{◌∙◌, ap, sym, subst, length, IfSome, is_some, true, ◌≡◌, ◌<◌}
use Rattle.directory.specs.TreeModel.State.Directory.{dir_leaving, parked_words}
use Rattle.directory.specs.DirParts.{AreCopiesBelow}
use Rattle.directory.proofs.Leaving.{leaving-chosen, leaving-below, leaving-there}
use Rattle.directory.proofs.state.DirState.up_leaving.Goals as goal

pub returns-clause-value : goal.returns-clause-value
returns-clause-value g c = c.ready.ensures ∙ leaving-chosen c.args.choice c.self.inside.parking.list ∙ ap (λ d. dir_leaving c.args.choice d.parked) c.self.view_is

pub returns-clause-in_range : goal.returns-clause-in_range
returns-clause-in_range g c =
    let below : AreCopiesBelow (length c.args.self.now.items) c.args.self.now.parked = subst (λ d. AreCopiesBelow (length d.items) d.parked) c.self.view_is c.self.invariant.copies in
    subst (λ o. IfSome o (λ x. x < length c.args.self.now.items)) (sym (returns-clause-value g c)) (leaving-below (length c.args.self.now.items) c.args.choice c.args.self.now.parked below)

pub returns-clause-there : goal.returns-clause-there
returns-clause-there g c =
    subst (λ o. IfSome o (λ x. is_some (parked_words x c.args.self.now) ≡ true)) (sym (returns-clause-value g c)) (leaving-there c.args.choice c.args.self.now)
