use Rattle.std.proofs.Common.{subst, sym}
use Rattle.litmus_steps.specs.Made.{IsMade}
use Rattle.litmus_steps.proofs.Uppers.{load_made, load_steps}
use Rattle.litmus_steps.proofs.made.loaded.Goals as goal

pub returns-clause-steps : goal.returns-clause-steps
returns-clause-steps c =
    load_steps c.args.rd c.args.value c.load_number.result c.index-load_number-0.result c.index-load_number-1.result c.load_number.ensures

pub returns-clause-made : goal.returns-clause-made
returns-clause-made c =
    subst IsMade
    (sym (load_steps c.args.rd c.args.value c.load_number.result c.index-load_number-0.result c.index-load_number-1.result c.load_number.ensures))
    (load_made c.args.rd c.args.value c.requires)
