use Rattle.std.proofs.Common.{ap}
use Rattle.ddm_tree.specs.TreeModel.State.Values.{MachineValue}
use Rattle.ddm_tree.proofs.parts.Parts.read_ops.Goals as goal

pub returns-clause-read : goal.returns-clause-read
returns-clause-read g c =
    let ops = c.fill_ops.new.ops.items in
    record {
      ops = ops;
      read = rw (c.counts-counts.ensures.counts) at c.in_ok-fill_ops.ensures.read;
      is = ap (λ (m : MachineValue). record m { ops = ops }) c.parts.view_is;
    }
