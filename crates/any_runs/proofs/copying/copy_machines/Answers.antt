use Rattle.std.proofs.Common.{ap, rules}
use Rattle.any_machine.specs.Kind.{Kind}
use Rattle.any_runs.proofs.copying.copy_machines.Goals as goal

pub copy_depths-requires : goal.copy_depths-requires
copy_depths-requires g c = (search rules, (ap (λ (k : Kind). k.levels) (rw (c.in-OneWay.is, c.in-OneWay-other.is) at c.requires.kind), rw (c.in-OneWay.is, c.in-OneWay-other.is) at c.requires.can))

pub copy_depths-requires-in-TwoWays-other : goal.copy_depths-requires-in-TwoWays-other
copy_depths-requires-in-TwoWays-other g c = (search rules, (ap (λ (k : Kind). k.levels) (rw (c.in-TwoWays.is, c.in-TwoWays-other.is) at c.requires.kind), rw (c.in-TwoWays.is, c.in-TwoWays-other.is) at c.requires.can))

pub copy_depths-requires-in-FourWays-other : goal.copy_depths-requires-in-FourWays-other
copy_depths-requires-in-FourWays-other g c = (search rules, (ap (λ (k : Kind). k.levels) (rw (c.in-FourWays.is, c.in-FourWays-other.is) at c.requires.kind), rw (c.in-FourWays.is, c.in-FourWays-other.is) at c.requires.can))
