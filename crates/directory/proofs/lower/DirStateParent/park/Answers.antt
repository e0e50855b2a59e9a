use Rattle.std.proofs.Common.{◌≡◌, ◌∙◌, ap, sym, subst, rules, None, find, ◌<◌}
use Rattle.directory.specs.TreeModel.State.Leaf.{is_copy}
use Rattle.directory.specs.TreeModel.State.Directory.{is_parked}
use Rattle.directory.specs.TreeModel.State.Values.{DirValue}
use Rattle.directory.specs.ItemStates.Parts.{CanPark}
use Rattle.directory.proofs.Lists.{parked-none}
use Rattle.directory.proofs.lower.DirStateParent.park.Goals as goal

pub put_reserved-requires : goal.put_reserved-requires
put_reserved-requires g c =
    let fresh : find (is_copy c.args.item) c.self.inside.parking.list ≡ None = parked-none c.args.item c.self.inside.parking.list (ap (is_parked c.args.item) c.self.view_is ∙ c.requires.once) in
    let kept : 0 < c.self.inside.parking.reserved =
    subst (λ n. 0 < n) (ap (λ (d : DirValue). d.reserved) (sym c.self.view_is)) (subst (λ b. CanPark b c.args.self.now) c.if-kept.true c.requires.place) in
    search rules

pub put-requires : goal.put-requires
put-requires g c =
    let fresh : find (is_copy c.args.item) c.self.inside.parking.list ≡ None = parked-none c.args.item c.self.inside.parking.list (ap (is_parked c.args.item) c.self.view_is ∙ c.requires.once) in
    search rules
