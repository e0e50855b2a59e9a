use Rattle.text_model.specs.Report.{copy_place_text}
use Rattle.report.proofs.items.push_place_between.Goals as goal

pub returns-in-LeafWay-clause-text : goal.returns-in-LeafWay-clause-text
unfolding copy_place_text
returns-in-LeafWay-clause-text g c = rw c.in-LeafWay.is c.push_leaf_way.ensures.text
