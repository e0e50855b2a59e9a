use Rattle.std.proofs.Common.{inr}
use Rattle.tree_config.proofs.Files.{tree_of-not_text, tree_of-text}
use Rattle.tree_config.proofs.reading.read_tree.Goals as goal

pub returns-in-Ok-clause-tree : goal.returns-in-Ok-clause-tree
returns-in-Ok-clause-tree c =
    rw (tree_of-text c.args.bytes.now c.if-bytes-gt-MOST_BYTES.false c.in-Ok.ensures.cases.1) (rw c.in-Ok.ensures.cases.0 at c.tree_of_text.ensures.tree)

pub returns-in-Ok-clause-refused : goal.returns-in-Ok-clause-refused
returns-in-Ok-clause-refused c =
    rw (tree_of-text c.args.bytes.now c.if-bytes-gt-MOST_BYTES.false c.in-Ok.ensures.cases.1) (rw c.in-Ok.ensures.cases.0 at c.tree_of_text.ensures.refused)

pub returns-in-Err-clause-refused : goal.returns-in-Err-clause-refused
returns-in-Err-clause-refused c = inr (tree_of-not_text c.args.bytes.now c.if-bytes-gt-MOST_BYTES.false c.in-Err.ensures.cases.0)
