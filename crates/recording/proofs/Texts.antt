-- The draws of a seed name the parts of a machine of their tree, which can be recorded with room for their operations.
use Rattle.std.proofs.Common.{◌≡◌, ◌∙◌, ℕ, Bool, ◌++◌, append-nil, ap, drop, take, true, List, [], ◌∷◌, All, length, map, arith}
use Rattle.std.proofs.lemmas.List.{drop_all, take_all}
use Rattle.std.proofs.lemmas.List.Elements.{All-cons, All-head, All-nil, All-tail}
use Rattle.ddm_types.specs.declared.turns.Turn.{Turn}
use Rattle.tree_model.specs.State.Shape.{tree_counts}
use Rattle.tree_model.specs.State.Values.{MachineValue}
use Rattle.tree_model.specs.Turns.Machine.{names_part}
use Rattle.any_runs.specs.DdmTree.Machine.{MachineState}
use Rattle.any_runs.specs.Run.{NameParts, roomed}
use Rattle.recording_model.specs.TextModel.ReadBack.{IsTurnOf}
use Rattle.recording_model.specs.TextModel.Schedule.{ShapeView}
use Rattle.recording_model.specs.LetBy.{Draw}
use Rattle.recording_model.specs.Recording.{drawn_limit}
use Rattle.recording.specs.Runs.{CanBegin, CanRecord, IsStart, RecorderView}

module _ (shape : ShapeView) (m : MachineValue) (parts : (ts : List Turn) → All (IsTurnOf shape) ts → NameParts ts m) where
  turns-known : (ds : List Draw) → All (λ (d : Draw). IsTurnOf shape d.turn) ds → All (IsTurnOf shape) (map (λ (d : Draw). d.turn) ds)
  turns-known [] known = All-nil (IsTurnOf shape)
  turns-known (d ∷ ds) known = All-cons (IsTurnOf shape) d.turn (map (λ (d : Draw). d.turn) ds) (All-head (λ (d : Draw). IsTurnOf shape d.turn) d ds known) (turns-known ds (All-tail (λ (d : Draw). IsTurnOf shape d.turn) d ds known))

  draws-named : (ds : List Draw) → NameParts (map (λ (d : Draw). d.turn) ds) m → All (λ (d : Draw). names_part d.turn m ≡ true) ds
  draws-named [] named = All-nil (λ (d : Draw). names_part d.turn m ≡ true)
  draws-named (d ∷ ds) named = All-cons (λ (d : Draw). names_part d.turn m ≡ true) d ds (All-head (λ t. names_part t m ≡ true) d.turn (map (λ (d : Draw). d.turn) ds) named) (draws-named ds (All-tail (λ t. names_part t m ≡ true) d.turn (map (λ (d : Draw). d.turn) ds) named))

  known-named : (ds : List Draw) → All (λ (d : Draw). IsTurnOf shape d.turn) ds → All (λ (d : Draw). names_part d.turn m ≡ true) ds
  known-named ds known = draws-named ds (parts (map (λ (d : Draw). d.turn) ds) (turns-known ds known))

pub can-record : (most : ℕ) (r : RecorderView) (s : MachineState) (ds : List Draw) → CanBegin most r s → All (λ (d : Draw). IsTurnOf r.shape d.turn) ds → length ds ≡ drawn_limit → CanRecord most ds s
can-record most r s ds can known all = record { known = known-named r.shape s.machine can.parts ds known; few = omega (arith, can.few, all); spare = can.spare }

-- a machine at its start with room for so many operations
pub can-begin : (most : ℕ) (shape : ShapeView) (r : RecorderView) (s after : MachineState) → IsStart shape s → r ≡ record { shape = shape; harts = (tree_counts s.machine).leaves } → after ≡ roomed true most s → CanBegin most r after
can-begin most shape r s after start is room = rw (is, room) (record { parts = start.parts; harts = cc; few = start.few; spare = omega arith })

-- flags that were put in the place of as many
pub same-length : (new old : List Bool) (len : ℕ) → length new ≡ len → length old ≡ len → length (take len (new ++ drop (length new) old)) ≡ len
same-length new old len same was =
    let none : drop (length new) old ≡ [] = drop_all (length new) old (omega (arith, same, was)) in
    ap (λ xs. length (take len (new ++ xs))) none ∙ ap (λ xs. length (take len xs)) (append-nil new) ∙ ap length (take_all len new (omega (arith, same))) ∙ same
