use Rattle.std.proofs.Common.{◌≡◌, length, sym, ap, ◌∙◌, arith}
use Rattle.report.specs.DdmTypes.ItemTable.{item_count}
use Rattle.report.specs.TreeModel.State.Shape.{depth_of}
use Rattle.text_model.specs.Run.{view_of}
use Rattle.any_machine.specs.Any.{state_in}
use Rattle.report.specs.LineParts.{are_silent}
use Rattle.report.proofs.MachineLines.{buses-counted, depth-few, harts-counted, items-counted}
use Rattle.report.proofs.report_pieces.size_shown.Goals as goal

pub returns-clause-size : goal.returns-clause-size
unfolding view_of
returns-clause-size g c =
    let m = (state_in c.args.machine.now).machine in
    let counts = c.counts-tree.ensures.counts in
    let shape = c.counts-tree.ensures.shape in
    let depth : depth_of m ≡ c.counts-tree.result.depth = sym (ap (λ n. n.depth) counts) in
    record {
      depth = depth;
      few = omega (arith, depth, depth-few m shape);
      harts = harts-counted m ∙ sym (ap (λ n. n.leaves) counts);
      buses = buses-counted m shape ∙ sym (ap (λ n. n.buses) counts);
      items = items-counted m ∙ sym (c.len.ensures ∙ ap item_count c.items.ensures);
      operations = ap length (sym c.requires) ∙ sym c.len-2.ensures;
      silent = c.are_silent.ensures ∙ ap are_silent c.ops.ensures;
    }
