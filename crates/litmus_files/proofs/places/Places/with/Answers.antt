use Rattle.std.proofs.Common.{◌≡◌, ◌<◌, length, take, ap, arith}
use Rattle.std.proofs.lemmas.List.{length-take-le}
use Rattle.litmus_files.proofs.Leaves.{padded_more}
use Rattle.litmus_files.proofs.places.Places.with.Goals as goal

pub invariant_of-result : goal.invariant_of-result
invariant_of-result c =
    let kept : length (take c.self.inside.count c.self.inside.leaves) ≡ c.self.inside.count =
    length-take-le c.self.inside.count c.self.inside.leaves (omega (arith, c.self.invariant.short, c.self.invariant.whole)) in
    let few : c.self.inside.count < 64 = omega (arith, c.requires, ap length c.self.view_is, kept) in
    padded_more c.self.inside c.args.leaf c.self.invariant few
