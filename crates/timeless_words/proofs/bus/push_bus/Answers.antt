use Rattle.std.proofs.Common.{ap, ◌∙◌, ◌++◌}
use Rattle.timeless_words.proofs.Forgotten.{bus-forgotten, when-ok}
use Rattle.timeless_words.proofs.bus.push_bus.Goals as goal

pub returns : goal.returns
returns c = when-ok c.push_struck.result c.push_struck.ensures (λ put d wide is. put ∙ ap (λ ws. c.args.out.now.items ++ ws) (bus-forgotten c.args.item_words d c.args.words.now wide is))
