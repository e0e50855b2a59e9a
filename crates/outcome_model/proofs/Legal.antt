-- The outcome of a machine whose witness is one run of the flat machine, and the outcomes of a table of runs from a start.
use Rattle.std.proofs.Common.{◌≡◌, ℕ, ◌+◌, zero, suc, Bool, true, false, cond, List, [], ◌∷◌, ◌++◌, length, map, None, Ok, refl, sym, ap, subst, ◌∙◌}
use Rattle.std.specs.List.{AllByRecursion, range_with_len}
use Rattle.std.proofs.lemmas.List.FromFn.{length-map-range_with_len}
use Rattle.outcome_model.specs.DdmTypes.declared.operations.Op.{Op}
use Rattle.outcome_model.specs.DdmTypes.declared.turns.Turn.{Turn}
use Rattle.outcome_model.specs.DdmTypes.CodeMap.{CodeWord}
use Rattle.outcome_model.specs.DdmTypes.ItemTable.{ItemTable}
use Rattle.outcome_model.specs.FlatModel.Hart.{HartValue}
use Rattle.outcome_model.specs.FlatModel.Flat.{FlatMachine, flat_hart_start, flat_start}
use Rattle.outcome_model.specs.TreeModel.State.Values.{LeafValue, Node, Nodes, leaf_node, dir_node, no_nodes, more_nodes, MachineValue, root_of}
use Rattle.outcome_model.specs.TreeModel.State.Shape.{Frame, frame_of, skeleton, skeletons, leaf_numbers_of, leaf_numbers_among}
use Rattle.outcome_model.specs.TreeModel.Start.Sources.{ImageValue, TreeValue, leaf_count, start_of_harts}
use Rattle.outcome_model.specs.TreeModel.Start.Machine.{flat_start_of, start_of}
use Rattle.outcome_model.specs.TreeModel.Turns.Machine.{leaves_of, leaves_among, machine_leaves, run_of}
use Rattle.outcome_model.specs.TreeModel.Turns.Witness.{sorted_ops}
use Rattle.outcome_model.proofs.TreeModel.FrameKept.{run-frame}
use Rattle.outcome_model.specs.TreeRules.Order.Ops.{flat_now}
use Rattle.outcome_model.specs.TreeRules.Witness.{IsHartOf, IsWitnessed}
use Rattle.outcome_model.specs.BusLaws.IsTree.{IsTree}
use Rattle.headline.proofs.BusLaws.StartKept.{start-numbered}
use Rattle.headline.proofs.Runs.{run-witnessed}
use Rattle.headline.proofs.StartOrder.{start-orderly}
use Rattle.text_model.specs.Report.{or_dash, put_texts}
use Rattle.text_model.specs.Schedule.{ShapeView}
use Rattle.text_model.specs.Seeded.{seeded_turns}
use Rattle.text_model.specs.Words.{state_text}
use Rattle.text_model.proofs.Outputs.{put_texts-same}
use Rattle.outcome_model.specs.Outcome.{HartEnd, end_of, end_text, ends_text, outcome_of, seed_outcome, seed_outcomes}
use Rattle.outcome_model.specs.Outcomes.{outcome_table}
use Rattle.outcome_model.specs.FlatOutcome.{EndsSo, IsLegalOutcome, OutcomesAreLegal}
use Rattle.outcome_model.specs.Table.{OutcomeLine}
use Rattle.outcome_model.proofs.Tables.{table-each}

-- ---- one machine

abbrev number_of_end : HartEnd → ℕ
number_of_end e = e.number

mutual
  numbers-in : (n : Node) (rest : List LeafValue) → map number_of_end (map end_of (leaves_of n rest)) ≡ leaf_numbers_of (skeleton n) (map number_of_end (map end_of rest))
  numbers-in (leaf_node v) rest = refl
  numbers-in (dir_node d ns) rest = numbers-among ns rest

  numbers-among : (ns : Nodes) (rest : List LeafValue) → map number_of_end (map end_of (leaves_among ns rest)) ≡ leaf_numbers_among (skeletons ns) (map number_of_end (map end_of rest))
  numbers-among no_nodes rest = refl
  numbers-among (more_nodes n ns) rest = numbers-in n (leaves_among ns rest) ∙ ap (leaf_numbers_of (skeleton n)) (numbers-among ns rest)

module _ (s : FlatMachine) (m : MachineValue) (w : IsWitnessed s m) (numbered : leaf_numbers_of (skeleton (root_of m)) [] ≡ range_with_len 0 (length s.harts)) where
  stand : (vs : List LeafValue) → AllByRecursion (IsHartOf s m) vs → AllByRecursion (EndsSo m.code m.items (flat_now s m)) (map end_of vs)
  stand [] h = tt
  stand (v ∷ vs) h = (record { running = ap (λ (k : HartValue). k.halt) h.0.hart; halted = h.0.halt }, stand vs h.1)

  same_texts : (es : List HartEnd) → ends_text m.ops es ≡ ends_text (sorted_ops m.ops) es
  unfolding ends_text end_text
  same_texts [] = refl
  same_texts (e ∷ es) =
      let output : put_texts e.number m.ops ≡ put_texts e.number (sorted_ops m.ops) = sym (put_texts-same e.number (sorted_ops m.ops) m.ops (w.own_order e.number)) in
      rw (output, same_texts es) refl

  pub witnessed-legal : IsLegalOutcome m.code m.items s (outcome_of m)
  unfolding outcome_of
  witnessed-legal = record {
    ops = sorted_ops m.ops;
    legal = w.legal;
    ends = map end_of (machine_leaves m);
    numbers = numbers-in (root_of m) [] ∙ numbered;
    stand = stand (machine_leaves m) w.harts;
    text = same_texts (map end_of (machine_leaves m));
  }

-- ---- the runs from a start

module _ (t : TreeValue) (i : ImageValue) (m : MachineValue) (tree : IsTree t) (built : start_of t i ≡ Ok m) where
  abbrev legal : List ℕ → Type 0
  legal o = IsLegalOutcome m.code m.items (flat_start_of t i) o

  hart_count : length (flat_start_of t i).harts ≡ leaf_count t
  unfolding flat_start
  hart_count = length-map-range_with_len (flat_hart_start (start_of_harts t i)) 0 (leaf_count t)

  ran-legal : (ts : List Turn) → legal (outcome_of (run_of ts m).machine)
  ran-legal ts =
      let r = run-witnessed (flat_start_of t i) ts m (start-orderly t i m tree built) in
      let frame : frame_of (run_of ts m).machine ≡ frame_of m = run-frame ts m in
      let o : List ℕ = outcome_of (run_of ts m).machine in
      let numbered : leaf_numbers_of (skeleton (root_of (run_of ts m).machine)) [] ≡ range_with_len 0 (length (flat_start_of t i).harts) =
      ap (λ (f : Frame). leaf_numbers_of f.bones []) frame ∙ start-numbered t i m tree built ∙ ap (range_with_len 0) (sym hart_count) in
      let here : IsLegalOutcome (run_of ts m).machine.code (run_of ts m).machine.items (flat_start_of t i) o = witnessed-legal (flat_start_of t i) (run_of ts m).machine r.machine numbered in
      subst (λ (f : Frame). IsLegalOutcome f.code f.items (flat_start_of t i) o) frame here

  seeds-legal : (shape : ShapeView) (turns : ℕ) (seeds : List ℕ) → AllByRecursion legal (map (seed_outcome shape turns m) seeds)
  unfolding seed_outcome
  seeds-legal shape turns [] = tt
  seeds-legal shape turns (seed ∷ seeds) = (ran-legal (seeded_turns shape seed turns), seeds-legal shape turns seeds)

pub outcomes-legal : OutcomesAreLegal
unfolding outcome_table
outcomes-legal t i m tree built shape turns first count =
    table-each (legal t i m tree built) first (seed_outcomes shape turns m first count) (seeds-legal t i m tree built shape turns (range_with_len first count))
