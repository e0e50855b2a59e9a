use Rattle.std.proofs.Common.{ap, ◌∙◌, ◌++◌}
use Rattle.timeless_words.proofs.Forgotten.{hart-forgotten, when-ok}
use Rattle.timeless_words.proofs.hart.push_hart.Goals as goal

pub returns : goal.returns
returns c = when-ok c.push_struck.result c.push_struck.ensures (λ put v count is. put ∙ ap (λ ws. c.args.out.now.items ++ ws) (hart-forgotten v c.args.words.now count is))
