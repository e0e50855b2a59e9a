-- The keys of tree files are short.
use Rattle.std.proofs.Common.{◌≤◌, length, arith}
use Rattle.ddm_cli.specs.TreeConfig.TreeFile.{key_name}
use Rattle.ddm_cli.specs.TreeConfig.declared.refusal.TreeKey.{TreeKey}
use Rattle.ddm_cli.specs.TreeConfig.declared.refusal.TreeKey.TheVariants as key

pub key_short : (k : TreeKey) → length (key_name k) ≤ 11
key_short key.Shape = omega arith
key_short key.Ways = omega arith
key_short key.Sets = omega arith
key_short key.Buffer = omega arith
key_short key.Parking = omega arith
key_short key.Down = omega arith
key_short key.Requests = omega arith
key_short key.Replies = omega arith
key_short key.StackBase = omega arith
key_short key.StackBytes = omega arith
key_short key.ItemBytes = omega arith
