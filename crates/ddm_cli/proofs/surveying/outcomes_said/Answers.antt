use Rattle.ddm_cli.specs.AnyMachine.Any.{machine_state}
use Rattle.ddm_words.specs.Views.{seeds_from}
use Rattle.ddm_cli.proofs.Surveys.{survey_taken}
use Rattle.ddm_cli.proofs.surveying.outcomes_said.Goals as goal

pub returns-in-Ok-clause-taken : goal.returns-in-Ok-clause-taken
returns-in-Ok-clause-taken g c =
    let told = g.F.Shelf.told c.args.files.now in
    let seeds = seeds_from c.args.seeds in
    let found = c.in_ok-start.ensures.found in
    survey_taken seeds c.in_ok-tree.tree found.0 (machine_state c.in_ok-start.start) c.in-Ok.text.items found.1 c.in-Ok.ensures (told seeds.tree) (told seeds.image) c.in_ok-tree.ensures.found (rw c.tree_file.ensures.same at found.2)
