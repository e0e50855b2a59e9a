use Rattle.std.proofs.Common.{ap, arith}
use Rattle.machine_states.proofs.States.{at-start}
use Rattle.machine_states.proofs.machine_states.MachineStates.new.Goals as goal

pub invariant_of-result : goal.invariant_of-result
invariant_of-result c =
    let r = c.requires in
    record {
      can = r.can;
      few = omega arith;
      gone = at-start 0 c.args.start c.args.at r.can r.kind_at (ap (λ s. s.machine) r.alike_at) (ap (λ s. s.turns) r.alike_at);
      later = at-start 1048577 c.args.start c.args.reached r.can r.kind_reached (ap (λ s. s.machine) r.alike_reached) (ap (λ s. s.turns) r.alike_reached);
    }
