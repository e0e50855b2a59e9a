use Rattle.std.proofs.Common.{◌≡◌, ap, map, subst}
use Rattle.state_judging.specs.Read.{CanRead}
use Rattle.ddm_tree.specs.Machine.{machine_of}
use Rattle.ddm_tree.proofs.PartsKept.{can-read}
use Rattle.ddm_tree.proofs.machine.Machine.into_parts.Goals as goal

pub invariant_of-result : goal.invariant_of-result
invariant_of-result g c =
    let m = machine_of c.self.inside.code c.self.inside.items c.self.inside.top (map g.C.Agent.value c.self.inside.children.items) c.self.inside.ops.items c.self.inside.traffic.items in
    let inv = c.self.invariant in (
      record {
        readable = can-read m c.capacity.result g.row.WORDS inv.0.shaped inv.0.rules c.capacity.ensures;
        rooms = inv.0.rooms;
        words = inv.0.words;
        paths = inv.0.paths;
      },
      inv.1,
      inv.2,
      inv.3,
      inv.8,
    )

pub returns-clause-readable : goal.returns-clause-readable
returns-clause-readable g c =
    let m = machine_of c.self.inside.code c.self.inside.items c.self.inside.top (map g.C.Agent.value c.self.inside.children.items) c.self.inside.ops.items c.self.inside.traffic.items in
    let same : m ≡ c.args.self.machine = ap (λ s. s.machine) c.self.view_is in
    subst CanRead same (can-read m c.capacity.result g.row.WORDS c.self.invariant.0.shaped c.self.invariant.0.rules c.capacity.ensures)
