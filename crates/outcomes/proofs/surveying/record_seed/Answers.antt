use Rattle.std.proofs.Common.{◌∙◌, ap, arith}
use Rattle.outcomes.specs.TreeModel.State.Shape.{frame_of}
use Rattle.outcomes.specs.DdmTree.Machine.{MachineState}
use Rattle.outcomes.proofs.Surveys.{recording-frame}
use Rattle.outcomes.proofs.surveying.record_seed.Goals as goal

pub returns-clause-twin : goal.returns-clause-twin
returns-clause-twin c = record {
  kind = c.record.ensures.kind ∙ c.in_ok-reserve.ensures.kind ∙ c.copy_from.ensures.kind ∙ c.requires.twin.kind;
  frame = ap frame_of c.record.ensures.after
      ∙ recording-frame _ _ _ _ _
      ∙ ap (λ (s : MachineState). frame_of s.machine) c.in_ok-reserve.ensures.after
      ∙ ap (λ (s : MachineState). frame_of s.machine) c.copy_from.ensures.after;
  room = omega arith;
}
