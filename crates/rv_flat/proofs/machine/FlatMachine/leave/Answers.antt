use Rattle.std.proofs.Common.{length, ap, ◌∙◌}
use Rattle.rv_flat.specs.FlatModel.Flat.{flat_hart}
use Rattle.rv_flat.specs.FlatState.{FlatState}
use Rattle.rv_flat.proofs.Outcomes.{item_inside}
use Rattle.rv_flat.proofs.machine.FlatMachine.leave.Goals as goal

pub finish_on-requires-clause-inside : goal.finish_on-requires-clause-inside
finish_on-requires-clause-inside c =
    rw (ap (λ (s : FlatState). length s.machine.words) c.self.view_is ∙ c.requires.items.count) (item_inside c.args.code.now c.args.items.now (flat_hart c.args.self.now.machine c.args.hart) c.args.item c.requires.ask)
