-- A machine that keeps the rules of every bus and of time, and whose values have their form, is spelled.
-- Letters: m is a machine, n is a node, ns are nodes in a row.
use Rattle.std.specs.Prelude.{◌≡◌, ℕ, true, List, [], ◌∷◌, refl}
use Rattle.std.specs.List.{AllByRecursion, list_all}
use Rattle.std.proofs.lemmas.Bool.{and_from, le-leb}
use Rattle.spelling_laws.specs.TreeModel.declared.Traffic.{Traffic}
use Rattle.spelling_laws.specs.TreeModel.State.Values.{Node, Nodes, leaf_node, dir_node, no_nodes, more_nodes, MachineValue, root_of}
use Rattle.spelling_laws.specs.TreeRules.Bus.Rules.{IsTreeOk, AreTreesOk, IsMachineOk, items_of_machine}
use Rattle.spelling_laws.specs.TreeRules.Order.Rules.{IsTimed, ops_of_leaves, keys_end, stamps_end, epochs_end}
use Rattle.spelling_laws.proofs.TreeRules.BusTests.{test-from_IsLeafOk, test-from_IsDirOk}
use Rattle.spelling_laws.specs.StateReading.Parts.{most_counted}
use Rattle.state_judging.specs.Read.{parts_hold, parts_hold_among, is_counted}
use Rattle.value_laws.specs.Values.{TrafficHasForm, PartsHaveForm, PartsHaveFormAmong, HasForm}
use Rattle.spelling_laws.specs.Spelled.{IsSpelled}

module _ (items width : ℕ) where
  mutual
    parts-ruled : (n : Node) → IsTreeOk items n → PartsHaveForm width most_counted n → parts_hold items n ≡ true
    parts-ruled (leaf_node v) ok form = and_from _ _ (test-from_IsLeafOk items v ok) (le-leb _ _ form.done)
    parts-ruled (dir_node d ns) ok form = and_from _ _ (and_from _ _ (test-from_IsDirOk items _ d ok.0.own) (le-leb _ _ form.0.count)) (parts-ruled_among ns ok.1 form.1)

    parts-ruled_among : (ns : Nodes) → AreTreesOk items ns → PartsHaveFormAmong width most_counted ns → parts_hold_among items ns ≡ true
    parts-ruled_among no_nodes ok form = refl
    parts-ruled_among (more_nodes n ns) ok form = and_from _ _ (parts-ruled n ok.0 form.0) (parts-ruled_among ns ok.1 form.1)

counts-ruled : (ts : List Traffic) → AllByRecursion (TrafficHasForm most_counted) ts → list_all is_counted ts ≡ true
counts-ruled [] form = refl
counts-ruled (t ∷ ts) form =
    let f = form.0 in
    and_from _ _ (and_from _ _ (le-leb _ _ f.reads) (and_from _ _ (le-leb _ _ f.copies) (and_from _ _ (le-leb _ _ f.erases) (and_from _ _ (le-leb _ _ f.exclusives) (and_from _ _ (le-leb _ _ f.outs) (le-leb _ _ f.injects))))))
    (counts-ruled ts form.1)

pub ruled-spelled : (m : MachineValue) → IsMachineOk m → IsTimed m → HasForm most_counted m → IsSpelled m
ruled-spelled m ok timed form = record {
  parts = record {
    parts = parts-ruled (items_of_machine m) m.top.sizes.width (root_of m) ok.tree form.parts;
    top = ok.top;
    traffic = counts-ruled m.traffic form.traffic;
    leaves = timed.each ops_of_leaves;
    keys = timed.each keys_end;
    stamps = timed.each stamps_end;
    epochs = timed.each epochs_end;
  };
  form = form;
}
