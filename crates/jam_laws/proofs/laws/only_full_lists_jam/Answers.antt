use Rattle.jam_laws.proofs.NoJam.{goes-or_full}
use Rattle.jam_laws.proofs.laws.only_full_lists_jam.Goals as goal

pub returns : goal.returns
returns c = goes-or_full
