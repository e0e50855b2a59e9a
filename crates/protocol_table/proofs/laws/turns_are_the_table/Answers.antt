use Rattle.protocol_table.proofs.Turns.{turn-is}
use Rattle.protocol_table.proofs.laws.turns_are_the_table.Goals as goal

pub returns : goal.returns
returns c = turn-is
