use Rattle.std.proofs.Common.{ap, []}
use Rattle.leaf_protocol.proofs.Ways.{ways_of-length}
use Rattle.leaf_protocol.proofs.Changing.{empty-kept, empty-ways}
use Rattle.leaf_protocol.proofs.entries.Entries.clear.Goals as goal

pub invariant_of-self : goal.invariant_of-self
invariant_of-self g c =
    rw c.clear-2.ensures (empty-kept g.row.WAYS g.row.WORDS c.self.inside.items c.self.inside.memory.sets c.clear.new.self c.self.invariant.some_ways c.self.invariant.words_fit c.clear.ensures)

pub returns : goal.returns
returns g c =
    rw (← c.self.view_is, c.clear.ensures, c.clear-2.ensures, ways_of-length c.self.inside.items c.self.inside.memory) (ap (λ ways. record { sets = c.self.inside.memory.sets; ways = ways; buffer = []; room = c.self.inside.buffer.capacity }) (empty-ways c.self.inside.items c.self.inside.memory.sets))
