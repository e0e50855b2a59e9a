use Rattle.std.proofs.Common.{◌≡◌}
use Rattle.std.specs.BTreeMap.{keys}
use Rattle.tree_config.proofs.UnknownKeys.{first_unknown}
use Rattle.tree_config.proofs.reading.unknown_key.Given as goal

abbrev pub invariant-key : goal.invariant-key
invariant-key l = first_unknown (keys l.table) ≡ first_unknown l.name-iterator
