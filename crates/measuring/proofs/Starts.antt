-- What is measured before the first turn; and a measured run's machine has the parts that it began with.
-- Letters: m is the machine at the start, k that at the end, r the run, n how many there are.
use Rattle.std.proofs.Common.{◌≡◌, ◌∙◌, ℕ, zero, suc, ◌+◌, List, [], ◌∷◌, map, replicate, length, All, refl, sym, ap, subst, arith}
use Rattle.std.specs.List.{range_with_len}
use Rattle.std.proofs.lemmas.List.{length-map}
use Rattle.std.proofs.lemmas.List.FromFn.{length-range_with_len}
use Rattle.ddm_types.specs.ItemTable.{item_count}
use Rattle.ddm_types.specs.declared.turns.Turn.{Turn}
use Rattle.recording.specs.AnyRuns.Run.{NameParts}
use Rattle.recording.specs.DdmTree.Machine.{MachineState, without_ops}
use Rattle.recording.specs.Runs.{CanBegin, IsStart}
use Rattle.recording_model.specs.TextModel.ReadBack.{IsTurnOf}
use Rattle.recording_model.specs.TextModel.Schedule.{ShapeView}
use Rattle.recording_model.specs.LetBy.{Draw}
use Rattle.recording_model.specs.Recording.{Recording, made_turns, recording_from}
use Rattle.recording_model.specs.declared.RunEnd.{RunEnd}
use Rattle.recording_model.specs.TreeModel.State.Shape.{Frame, buses_of, frame_of, leaf_numbers_of, tree_counts}
use Rattle.recording_model.specs.TreeModel.State.Values.{MachineValue}
use Rattle.recording_model.proofs.Recordings.{left-out-changes-nothing}
use Rattle.tree_model.proofs.FrameKept.{run-frame}
use Rattle.measure_model.specs.Counts.{bus_busy, hart_counts, item_counts, made_of}
use Rattle.measure_model.specs.Lengths.{greatest, lengths_in, lengths_over, most_in, most_over}
use Rattle.measure_model.specs.Measures.{Measures, measures_of}
use Rattle.measure_model.specs.Text.{measures_text}
use Rattle.measuring.specs.Kept.{first_measures}
use Rattle.measuring.specs.Sized.{IsSized}
use Rattle.measuring.specs.Tally.{no_hart_counts, no_item_counts}
use Rattle.measuring.specs.Tallied.{measured_so}
use Rattle.measuring.proofs.Sets.{map-same}

map-replicate : {A : Type 0} (f : ℕ → A) (d : A) (k n : ℕ) → ((j : ℕ) → f j ≡ d) → replicate n d ≡ map f (range_with_len k n)
map-replicate f d k zero same = refl
map-replicate f d k (suc n) same = ap (λ x. x ∷ replicate n d) (sym (same k)) ∙ ap (λ xs. f k ∷ xs) (map-replicate f d (k + 1) n same)

no-harts : (m : MachineValue) (h : ℕ) → hart_counts (made_of [] m) h ≡ no_hart_counts
unfolding made_of hart_counts
no-harts m h = refl

no-items : (m : MachineValue) (x : ℕ) → item_counts (made_of [] m) x ≡ no_item_counts
unfolding made_of item_counts
no-items m x = refl

no-busy : (m : MachineValue) (b : ℕ) → bus_busy (made_of [] m) b ≡ 0
unfolding made_of bus_busy
no-busy m b = refl

first-over : (m : MachineValue) (b : ℕ) → most_over [] m b ≡ lengths_over b m
unfolding most_over greatest
first-over m b = refl

first-in : (m : MachineValue) (k : ℕ) → most_in [] m k ≡ lengths_in k m
unfolding most_in greatest
first-in m k = refl

pub none-measured : (m : MachineValue) → first_measures m ≡ measured_so 0 [] [] m
unfolding made_of
none-measured m =
    rw (
      map-replicate (hart_counts (made_of [] m)) no_hart_counts 0 (tree_counts m).leaves (no-harts m),
      map-replicate (bus_busy (made_of [] m)) 0 0 (tree_counts m).buses (no-busy m),
      map-replicate (item_counts (made_of [] m)) no_item_counts 0 (item_count m.items) (no-items m),
      map-same (λ b. lengths_over b m) (most_over [] m) 0 (tree_counts m).buses (λ b l. first-over m b),
      map-same (λ k. lengths_in k m) (most_in [] m) 0 (tree_counts m).leaves (λ k l. first-in m k),
    ) refl

-- all turns of a seed can be made
pub start-begins : (own shape : ShapeView) (s : MachineState) → own ≡ shape → IsStart shape s → CanBegin 0 (record { shape = own; harts = (tree_counts s.machine).leaves }) s
start-begins own shape s same start = record {
  parts = subst (λ (v : ShapeView). (ts : List Turn) → All (IsTurnOf v) ts → NameParts ts s.machine) (sym same) start.parts;
  harts = refl;
  few = start.few;
  spare = omega arith;
}

-- ---- the end

counted : {A : Type 0} (f : ℕ → A) (n : ℕ) → length (map f (range_with_len 0 n)) ≡ n
counted f n = length-map (range_with_len 0 n) f ∙ length-range_with_len 0 n

sized : (r : Recording) (m : MachineValue) → IsSized (measures_of r m) m
unfolding measures_of
sized r m = record { harts = counted _ _; busy = counted _ _; most = counted _ _; leaf_most = counted _ _; items = counted _ _ }

run-parts : (most : ℕ) (ds : List Draw) (m : MachineValue) → frame_of (recording_from most 0 ds m).machine ≡ frame_of m
run-parts most ds m =
    let r = recording_from most 0 ds m in
    ap frame_of (sym (left-out-changes-nothing most ds m).made) ∙ run-frame (made_turns r.drawn) m

-- as many of each in a machine of one frame
frame-sized : (s : Measures) (m k : MachineValue) → frame_of k ≡ frame_of m → IsSized s m → IsSized s k
frame-sized s m k same sizes =
    let leaves = ap (λ (f : Frame). length (leaf_numbers_of f.bones [])) same in
    let buses = ap (λ (f : Frame). length (buses_of f.bones [])) same in
    record {
      harts = sizes.harts ∙ sym leaves;
      busy = sizes.busy ∙ sym buses;
      most = sizes.most ∙ sym buses;
      leaf_most = sizes.leaf_most ∙ sym leaves;
      items = sizes.items ∙ sym (ap (λ (f : Frame). item_count f.items) same);
    }

pub run-sized : (most : ℕ) (ds : List Draw) (m k : MachineValue) → without_ops k ≡ without_ops (recording_from most 0 ds m).machine → IsSized (measures_of (recording_from most 0 ds m) m) k
run-sized most ds m k same =
    let r = recording_from most 0 ds m in
    frame-sized (measures_of r m) m k (ap frame_of same ∙ run-parts most ds m) (sized r m)

-- nor does the text hang on the operations
pub text-alike : (e : RunEnd) (s : Measures) (m k : MachineValue) → without_ops k ≡ without_ops m → measures_text e s k ≡ measures_text e s m
unfolding measures_text
text-alike e s m k same = ap (measures_text e s) same
