-- A machine keeps the rules of time, and so no two of its operations have one key.
use Rattle.std.proofs.Common.{◌≢◌, List, [], ◌∷◌, arith}
use Rattle.std.proofs.lemmas.List.Elements.{All-from_recursion}
use Rattle.std.proofs.lemmas.List.Kept.{AllPairs-cons}
use Rattle.report.specs.DdmTypes.declared.operations.Op.{Op}
use Rattle.report.specs.TreeModel.State.Values.{MachineValue}
use Rattle.report.specs.TreeRules.Order.Rules.{keys_differ}
use Rattle.report.proofs.OrderLists.Listed.{KeysDiffer-from_rule}
use Rattle.report.proofs.OrderLists.Sorted.{KeysDiffer}
use Rattle.report.specs.DdmTree.Rules.{KeepsRules}
use Rattle.report.proofs.DdmTree.RulesKept.{rules-timed}
use Rattle.witness_order.specs.Order.{HaveOtherKeys}

other_keys : (ops : List Op) → KeysDiffer ops → HaveOtherKeys ops
other_keys [] differ = λ i j d before within. absurd (omega (arith, within))
other_keys (o ∷ os) differ = AllPairs-cons (λ (a b : Op). a.key ≢ b.key) o os (All-from_recursion (λ (p : Op). o.key ≢ p.key) os differ.0) (other_keys os differ.1)

pub keys_by_rules : (m : MachineValue) → KeepsRules m → HaveOtherKeys m.ops
keys_by_rules m rules = other_keys m.ops (KeysDiffer-from_rule m.ops ((rules-timed m rules).each keys_differ))
