use Rattle.lr_sc_laws.proofs.Between.{each-sc}
use Rattle.lr_sc_laws.proofs.laws.nothing_between.Goals as goal

pub returns : goal.returns
returns c = each-sc
