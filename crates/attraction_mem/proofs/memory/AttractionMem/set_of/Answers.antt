use Rattle.std.proofs.Common.{◌<◌, ◌%◌, ap, ◌∙◌}
use Rattle.std.proofs.Math.Nat.{mod-lt}
use Rattle.attraction_mem.proofs.Reading.{sets_seen}
use Rattle.attraction_mem.proofs.memory.AttractionMem.set_of.Goals as goal

pub returns-clause-set : goal.returns-clause-set
returns-clause-set g c = c.remainder.ensures ∙ rw (sets_seen g.row.WAYS c.self.inside.sets c.self.inside.tags.items c.self.inside.words.items c.self.view_is) (ap (λ k. k % c.self.inside.sets) c.item.view_is)

pub returns-clause-inside : goal.returns-clause-inside
returns-clause-inside g c =
    let below : c.remainder.result < c.self.inside.sets = rw c.remainder.ensures (mod-lt c.item.inside.0 c.self.invariant.0.sized.some_sets) in
    rw (sets_seen g.row.WAYS c.self.inside.sets c.self.inside.tags.items c.self.inside.words.items c.self.view_is) below

pub returns-clause-some_ways : goal.returns-clause-some_ways
returns-clause-some_ways g c = c.self.invariant.0.sized.some_ways
