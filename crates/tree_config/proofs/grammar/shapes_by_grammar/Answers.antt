use Rattle.tree_config.proofs.Shapes.{IsLongestBeginning-reads, IsTextOf-reads, reads-IsTextOf}
use Rattle.tree_config.proofs.grammar.shapes_by_grammar.Goals as goal

pub returns : goal.returns
returns c = record {
  shape = λ t. (IsTextOf-reads c.args.text.now t, reads-IsTextOf c.args.text.now t);
  place = IsLongestBeginning-reads c.args.text.now;
}
