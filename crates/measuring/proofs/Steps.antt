-- What is measured of a run that has one more turn.
-- Letters: t is a turn after those that were made, ts, a its answer, m the machine that the run began with, k that after t as the code has it,
-- b the number of a bus, j that of a leaf, s are measures.
use Rattle.std.proofs.Common.{◌≡◌, ◌∙◌, ◌<◌, ℕ, zero, suc, Bool, true, false, List, [], ◌∷◌, ◌++◌, length, map, length-append, refl, sym, ap, if◌then◌else◌, arith}
use Rattle.std.specs.Prelude.{slice_index_or, slice_set}
use Rattle.std.specs.List.{range_with_len}
use Rattle.ddm_types.specs.declared.answers.TurnAnswer.{TurnAnswer}
use Rattle.ddm_types.specs.declared.answers.BusyCause.{BusyCause}
use Rattle.ddm_types.specs.declared.turns.Turn.{Turn}
use Rattle.ddm_types.specs.ItemTable.{item_count}
use Rattle.recording.specs.DdmTree.Machine.{without_ops}
use Rattle.recording.specs.Runs.{came_by, is_done}
use Rattle.recording.specs.declared.making.Came.{Came}
use Rattle.recording.proofs.AnyRuns.RunMore.{machine-more}
use Rattle.recording_model.specs.TreeModel.State.Shape.{skeleton, tree_counts}
use Rattle.recording_model.specs.TreeModel.State.Values.{MachineValue, root_of}
use Rattle.recording_model.specs.TreeModel.Turns.Machine.{run_of, turn_of}
use Rattle.recording_model.specs.TreeModel.Turns.Tree.{bus_of_number, leaf_of_number}
use Rattle.tree_model.proofs.FrameKept.{turn-frame}
use Rattle.tree_model.specs.declared.DirLengths.{DirLengths}
use Rattle.tree_model.specs.declared.LeafLengths.{LeafLengths}
use Rattle.measure_model.specs.Counts.{Made, bus_busy, hart_counts, is_busy, is_granted, is_halted, is_issued, is_retired, item_counts, made_of, of_all}
use Rattle.measure_model.specs.Lengths.{lengths_in, lengths_over, most_in, most_over}
use Rattle.measure_model.specs.Measures.{Measures}
use Rattle.measure_model.specs.declared.HartCounts.{HartCounts}
use Rattle.measure_model.proofs.Near.{changes-near}
use Rattle.measuring.specs.Seen.{leaf_raised, raised, turn_in, turn_over}
use Rattle.measuring.specs.Step.{after_came, harts_busy}
use Rattle.measuring.specs.Tally.{busy_after, hart_after, harts_after, items_after, more, no_hart_counts, totals_after}
use Rattle.measuring.specs.Tallied.{measured_so, totals_so}
use Rattle.measuring.proofs.Bones.{far-before}
use Rattle.measuring.proofs.Grown.{leaf-most-kept, leaf-most-more, most-kept, most-more}
use Rattle.measuring.proofs.More.{buses-busy, buses-idle, harts-more, items-more, made-length, made-more, more-is, none-counted, one-counted}
use Rattle.measuring.proofs.Sets.{map-same}
use Rattle.measuring.proofs.SeenMaps.{turn-in, turn-over}

abbrev one_made : Turn → TurnAnswer → Made
one_made t a = record { turn = t; answer = a }

-- ---- what is seen doesn't hang on the operations

over-alike : (k n : MachineValue) (t : Turn) (ls : List DirLengths) → without_ops k ≡ without_ops n → turn_over k t ls ≡ turn_over n t ls
over-alike k n t ls same = ap (λ x. turn_over x t ls) same

in-alike : (k n : MachineValue) (t : Turn) (ls : List LeafLengths) → without_ops k ≡ without_ops n → turn_in k t ls ≡ turn_in n t ls
in-alike k n t ls same = ap (λ x. turn_in x t ls) same

-- ---- lengths

module _ (ts : List Turn) (t : Turn) (m : MachineValue) where
  abbrev here : MachineValue
  here = (run_of ts m).machine

  abbrev next : MachineValue
  next = (turn_of t here).machine

  abbrev made : List Made
  made = made_of ts m

  abbrev longer : List Turn
  longer = ts ++ t ∷ []

  after-is : (run_of longer m).machine ≡ next
  after-is = machine-more ts t m

  bones-kept : skeleton (root_of next) ≡ skeleton (root_of here)
  bones-kept = ap (λ f. f.bones) (turn-frame t here)

  seen-over : (n : ℕ) → turn_over next t (map (most_over ts m) (range_with_len 0 n)) ≡ map (most_over longer m) (range_with_len 0 n)
  seen-over n =
      turn-over next t (most_over ts m) (most_over longer m) n
      (λ b far. most-kept ts m b (lengths_over b next) ((changes-near t here).over b (far-before (bus_of_number b) t here next bones-kept far)))
      (λ b. most-more ts t m b ∙ ap (λ k. raised (most_over ts m b) (lengths_over b k)) after-is)

  seen-in : (n : ℕ) → turn_in next t (map (most_in ts m) (range_with_len 0 n)) ≡ map (most_in longer m) (range_with_len 0 n)
  seen-in n =
      turn-in next t (most_in ts m) (most_in longer m) n
      (λ j far. leaf-most-kept ts m j (lengths_in j next) ((changes-near t here).inside j (far-before (leaf_of_number j) t here next bones-kept far)))
      (λ j. leaf-most-more ts t m j ∙ ap (λ k. leaf_raised (most_in ts m j) (lengths_in j k)) after-is)

  -- where the turn changes nothing
  module _ (rests : next ≡ here) where
    rested-over : (n : ℕ) → map (most_over ts m) (range_with_len 0 n) ≡ map (most_over longer m) (range_with_len 0 n)
    rested-over n = map-same (most_over ts m) (most_over longer m) 0 n (λ b l. most-more ts t m b ∙ most-kept ts m b (lengths_over b (run_of longer m).machine) (ap (lengths_over b) (after-is ∙ rests)))

    rested-in : (n : ℕ) → map (most_in ts m) (range_with_len 0 n) ≡ map (most_in longer m) (range_with_len 0 n)
    rested-in n = map-same (most_in ts m) (most_in longer m) 0 n (λ j l. leaf-most-more ts t m j ∙ leaf-most-kept ts m j (lengths_in j (run_of longer m).machine) (ap (lengths_in j) (after-is ∙ rests)))

  -- ---- counts

  module _ (a : TurnAnswer) (is : (turn_of t here).answer ≡ a) (few : length ts < 4294967295) where
    made-is : made_of longer m ≡ made ++ one_made t a ∷ []
    made-is = made-more ts t m ∙ ap (λ x. made ++ one_made t x ∷ []) is

    few_made : length made < 4294967295
    few_made = let size = made-length ts m in omega (arith, few, size)

    harts-step : (n : ℕ) → harts_after t a (map (hart_counts made) (range_with_len 0 n)) ≡ map (hart_counts (made_of longer m)) (range_with_len 0 n)
    harts-step n = harts-more made (one_made t a) few_made n ∙ ap (λ l. map (hart_counts l) (range_with_len 0 n)) (sym made-is)

    items-step : (n : ℕ) → items_after a (map (item_counts made) (range_with_len 0 n)) ≡ map (item_counts (made_of longer m)) (range_with_len 0 n)
    items-step n = items-more made (one_made t a) few_made n ∙ ap (λ l. map (item_counts l) (range_with_len 0 n)) (sym made-is)

    idle-step : (n : ℕ) → is_busy a ≡ false → map (bus_busy made) (range_with_len 0 n) ≡ map (bus_busy (made_of longer m)) (range_with_len 0 n)
    idle-step n idle = buses-idle made (one_made t a) few_made n idle ∙ ap (λ l. map (bus_busy l) (range_with_len 0 n)) (sym made-is)

    busy-step : (n : ℕ) → is_busy a ≡ true → busy_after t (map (bus_busy made) (range_with_len 0 n)) ≡ map (bus_busy (made_of longer m)) (range_with_len 0 n)
    busy-step n busy = buses-busy made (one_made t a) few_made n busy ∙ ap (λ l. map (bus_busy l) (range_with_len 0 n)) (sym made-is)

    idle-total : is_busy a ≡ false → of_all is_busy made ≡ of_all is_busy (made_of longer m)
    idle-total idle = sym (ap (of_all is_busy) made-is ∙ none-counted (λ (k : Made). is_busy k.answer) made (one_made t a) idle)

    busy-total : is_busy a ≡ true → more true (of_all is_busy made) ≡ of_all is_busy (made_of longer m)
    busy-total busy = sym (ap (of_all is_busy) made-is ∙ one-counted (λ (k : Made). is_busy k.answer) made (one_made t a) true few_made busy)

    -- ---- measures

    same-measures : (s u : Measures) → s.totals ≡ u.totals → s.harts ≡ u.harts → s.busy ≡ u.busy → s.most ≡ u.most → s.leaf_most ≡ u.leaf_most → s.items ≡ u.items → s ≡ u
    same-measures s u totals harts busy most leaf_most items = rw (totals, harts, busy, most, leaf_most, items) refl

    -- the turn was made and did nothing
    module _ (kept : List Turn) (rests : next ≡ here) where
      busy-so : is_busy a ≡ true → harts_after t a (map (hart_counts made) (range_with_len 0 (tree_counts m).leaves)) ≡ harts_busy t (map (hart_counts made) (range_with_len 0 (tree_counts m).leaves))
          → items_after a (map (item_counts made) (range_with_len 0 (item_count m.items))) ≡ map (item_counts made) (range_with_len 0 (item_count m.items))
          → (x : TurnAnswer) (k : MachineValue) → after_came Came.ToBusy t x k (measured_so 0 kept ts m) ≡ measured_so 0 kept longer m
      busy-so busy harts items x k =
          same-measures (after_came Came.ToBusy t x k (measured_so 0 kept ts m)) (measured_so 0 kept longer m)
          (ap (λ n. record (totals_so 0 kept ts m) { busy = n }) (busy-total busy)) (sym harts ∙ harts-step (tree_counts m).leaves) (busy-step (tree_counts m).buses busy) (rested-over rests (tree_counts m).buses) (rested-in rests (tree_counts m).leaves)
          (sym items ∙ items-step (item_count m.items))

      idle-so : is_busy a ≡ false → harts_after t a (map (hart_counts made) (range_with_len 0 (tree_counts m).leaves)) ≡ map (hart_counts made) (range_with_len 0 (tree_counts m).leaves)
          → items_after a (map (item_counts made) (range_with_len 0 (item_count m.items))) ≡ map (item_counts made) (range_with_len 0 (item_count m.items))
          → measured_so 0 kept ts m ≡ measured_so 0 kept longer m
      idle-so idle harts items =
          same-measures (measured_so 0 kept ts m) (measured_so 0 kept longer m)
          (ap (λ n. record (totals_so 0 kept ts m) { busy = n }) (idle-total idle)) (sym harts ∙ harts-step (tree_counts m).leaves) (idle-step (tree_counts m).buses idle) (rested-over rests (tree_counts m).buses) (rested-in rests (tree_counts m).leaves)
          (sym items ∙ items-step (item_count m.items))

    -- it did something
    module _ (kept : List Turn) (ran : (run_of kept m).machine ≡ here) (few_kept : length kept < 4294967295) where
      kept-is : made_of (kept ++ t ∷ []) m ≡ made_of kept m ++ one_made t a ∷ []
      kept-is = made-more kept t m ∙ ap (λ x. made_of kept m ++ one_made t x ∷ []) (ap (λ k. (turn_of t k).answer) ran ∙ is)

      kept-total : (test : TurnAnswer → Bool) → more (test a) (of_all test (made_of kept m)) ≡ of_all test (made_of (kept ++ t ∷ []) m)
      kept-total test =
          let size = made-length kept m in
          sym (ap (of_all test) kept-is ∙ one-counted (λ (k : Made). test k.answer) (made_of kept m) (one_made t a) (test a) (omega (arith, few_kept, size)) refl)

      length-more : more true (length kept) ≡ length (kept ++ t ∷ [])
      length-more = more-is true (length kept) few_kept ∙ sym (length-append kept (t ∷ []))

      totals-step : is_busy a ≡ false → totals_after a (totals_so 0 kept ts m) ≡ totals_so 0 (kept ++ t ∷ []) longer m
      totals-step idle = rw (length-more, kept-total is_retired, kept-total is_issued, kept-total is_granted, kept-total is_halted, idle-total idle) refl

      done-so : is_busy a ≡ false → (k : MachineValue) → without_ops k ≡ without_ops next → after_came Came.ToDoing t a k (measured_so 0 kept ts m) ≡ measured_so 0 (kept ++ t ∷ []) longer m
      done-so idle k same =
          same-measures (after_came Came.ToDoing t a k (measured_so 0 kept ts m)) (measured_so 0 (kept ++ t ∷ []) longer m)
          (totals-step idle) (harts-step (tree_counts m).leaves) (idle-step (tree_counts m).buses idle)
          (over-alike k next t (map (most_over ts m) (range_with_len 0 (tree_counts m).buses)) same ∙ seen-over (tree_counts m).buses)
          (in-alike k next t (map (most_in ts m) (range_with_len 0 (tree_counts m).leaves)) same ∙ seen-in (tree_counts m).leaves) (items-step (item_count m.items))

-- ---- a drawn turn that was made, by its answer

set-same : {A : Type 0} (xs : List A) (i : ℕ) (d : A) → slice_set xs i (slice_index_or xs i d) ≡ xs
set-same [] zero d = refl
set-same [] (suc i) d = refl
set-same (x ∷ xs) zero d = refl
set-same (x ∷ xs) (suc i) d = ap (λ ys. x ∷ ys) (set-same xs i d)

harts-rest : (t : Turn) (a : TurnAnswer) (cs : List HartCounts) → ((c : HartCounts) → hart_after a c ≡ c) → harts_after t a cs ≡ cs
harts-rest (Turn.Hart hart victim) a cs same = ap (slice_set cs hart) (same (slice_index_or cs hart no_hart_counts)) ∙ set-same cs hart no_hart_counts
harts-rest (Turn.Down bus) a cs same = refl
harts-rest (Turn.Request bus child) a cs same = refl
harts-rest (Turn.Reply bus child) a cs same = refl
harts-rest (Turn.Leave bus child choice) a cs same = refl

harts-busied : (t : Turn) (cause : BusyCause) (cs : List HartCounts) → harts_after t (TurnAnswer.Busy cause) cs ≡ harts_busy t cs
harts-busied (Turn.Hart hart victim) cause cs = refl
harts-busied (Turn.Down bus) cause cs = refl
harts-busied (Turn.Request bus child) cause cs = refl
harts-busied (Turn.Reply bus child) cause cs = refl
harts-busied (Turn.Leave bus child choice) cause cs = refl

module _ (ts kept : List Turn) (t : Turn) (m : MachineValue) (ran : (run_of kept m).machine ≡ (run_of ts m).machine) (few : length ts < 4294967295) (few_kept : length kept < 4294967295) where
  abbrev kept_if : Bool → List Turn
  kept_if did = if did then kept ++ t ∷ [] else kept

  abbrev machine_here : MachineValue
  machine_here = (run_of ts m).machine

  by-answer : (a : TurnAnswer) (halted : Bool) → (turn_of t machine_here).answer ≡ a → (is_done (came_by a halted) ≡ false → (turn_of t machine_here).machine ≡ machine_here)
      → (x : TurnAnswer) → (is_done (came_by a halted) ≡ true → x ≡ a) → (k : MachineValue) → without_ops k ≡ without_ops (turn_of t machine_here).machine
      → after_came (came_by a halted) t x k (measured_so 0 kept ts m) ≡ measured_so 0 (kept_if (is_done (came_by a halted))) (ts ++ t ∷ []) m
  by-answer (TurnAnswer.Retired op) halted is rests x answer k same = ap (λ a. after_came Came.ToDoing t a k (measured_so 0 kept ts m)) (answer refl) ∙ done-so ts t m (TurnAnswer.Retired op) is few kept ran few_kept refl k same
  by-answer (TurnAnswer.Issued kind y) halted is rests x answer k same = ap (λ a. after_came Came.ToDoing t a k (measured_so 0 kept ts m)) (answer refl) ∙ done-so ts t m (TurnAnswer.Issued kind y) is few kept ran few_kept refl k same
  by-answer (TurnAnswer.Waiting y) halted is rests x answer k same = idle-so ts t m (TurnAnswer.Waiting y) is few kept (rests refl) refl (harts-rest t (TurnAnswer.Waiting y) _ (λ c. refl)) refl
  by-answer (TurnAnswer.Halted cause) true is rests x answer k same = idle-so ts t m (TurnAnswer.Halted cause) is few kept (rests refl) refl (harts-rest t (TurnAnswer.Halted cause) _ (λ c. refl)) refl
  by-answer (TurnAnswer.Halted cause) false is rests x answer k same = ap (λ a. after_came Came.ToDoing t a k (measured_so 0 kept ts m)) (answer refl) ∙ done-so ts t m (TurnAnswer.Halted cause) is few kept ran few_kept refl k same
  by-answer (TurnAnswer.Granted entry) halted is rests x answer k same = ap (λ a. after_came Came.ToDoing t a k (measured_so 0 kept ts m)) (answer refl) ∙ done-so ts t m (TurnAnswer.Granted entry) is few kept ran few_kept refl k same
  by-answer TurnAnswer.Empty halted is rests x answer k same = idle-so ts t m TurnAnswer.Empty is few kept (rests refl) refl (harts-rest t TurnAnswer.Empty _ (λ c. refl)) refl
  by-answer (TurnAnswer.Busy cause) halted is rests x answer k same = busy-so ts t m (TurnAnswer.Busy cause) is few kept (rests refl) refl (harts-busied t cause _) refl x k

  pub step : (halted : Bool) → (is_done (came_by (turn_of t machine_here).answer halted) ≡ false → (turn_of t machine_here).machine ≡ machine_here)
      → (x : TurnAnswer) → (is_done (came_by (turn_of t machine_here).answer halted) ≡ true → x ≡ (turn_of t machine_here).answer) → (k : MachineValue) → without_ops k ≡ without_ops (turn_of t machine_here).machine
      → after_came (came_by (turn_of t machine_here).answer halted) t x k (measured_so 0 kept ts m) ≡ measured_so 0 (kept_if (is_done (came_by (turn_of t machine_here).answer halted))) (ts ++ t ∷ []) m
  step halted rests x answer k same = by-answer (turn_of t machine_here).answer halted refl rests x answer k same
