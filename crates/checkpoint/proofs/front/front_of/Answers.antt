use Rattle.std.proofs.Common.{[], ◌∷◌, ◌++◌, ap, ◌∙◌}
use Rattle.checkpoint.specs.DdmText.Adds.{◌▸◌, alone}
use Rattle.checkpoint.specs.AnyMachine.Any.{machine_state}
use Rattle.checkpoint.specs.StateWords.Machine.{head_words, sizes_of}
use Rattle.checkpoint.specs.DdmTree.Written.{tree_words}
use Rattle.checkpoint.proofs.front.front_of.Goals as goal

pub returns : goal.returns
returns c =
    let counts = c.args.counts in
    let tree = tree_words (machine_state c.args.machine.now).machine in
    alone (c.in_ok-push_head.ensures ▸ c.in_ok-write_tree.ensures.ok ▸ c.in_ok-push_words.ensures.ok) c.new-words.ensures.items
    ∙ ap (λ sizes. head_words sizes counts.turns counts.retired counts.granted counts.busy ++ tree ++ counts.retired ∷ []) c.sizes.ensures
    ∙ ap (λ n. head_words (sizes_of (machine_state c.args.machine.now).machine) counts.turns counts.retired counts.granted counts.busy ++ tree ++ n ∷ []) c.requires
