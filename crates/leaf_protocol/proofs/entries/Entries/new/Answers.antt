use Rattle.std.proofs.Common.{ap, []}
use Rattle.leaf_protocol.proofs.Changing.{empty-kept, empty-ways}
use Rattle.leaf_protocol.proofs.entries.Entries.new.Goals as goal

pub invariant_of-result : goal.invariant_of-result
invariant_of-result g c = rw c.in_ok-buffer.ensures (empty-kept g.row.WAYS g.row.WORDS c.args.items c.args.sets c.in_ok-memory.memory c.requires.some_ways c.requires.words_fit c.in_ok-memory.ensures)

pub returns : goal.returns
returns g c =
    rw (c.in_ok-memory.ensures, c.in_ok-buffer.ensures) (ap (λ ways. record { sets = c.args.sets; ways = ways; buffer = []; room = c.args.room }) (empty-ways c.args.items c.args.sets))
