use Rattle.std.proofs.Common.{◌≡◌, ◌≤◌, ℕ, List, refl, sym, subst, ◌∙◌, arith}
use Rattle.recording_model.specs.declared.RunEnd.{RunEnd}
use Rattle.recording_model.specs.declared.SeedKind.{SeedKind}
use Rattle.recording_model.specs.TreeModel.Start.Sources.{TreeValue}
use Rattle.recording_model.specs.Computing.{recordings_compute}
use Rattle.recording_model.specs.Examples.{Records, four_leaves, loads_of, recorded_of, shape_of, two_leaves}
use Rattle.recording_model.specs.Recording.{Recording, drawn_limit, recording_within}
use Rattle.recording_model.proofs.FirstTurns.{first-turns-suffice}
use Rattle.recording_model.proofs.examples.small_recordings.Goals as goal

-- what is computed of a seed's first turns is so of the seed
by-first : (count : ℕ) (kind : SeedKind) (tree : TreeValue) (seed turns : ℕ) (why : RunEnd) (drawn : ℕ) (lines : List ℕ) → count ≤ drawn_limit → (why ≡ RunEnd.Drawn → ⊥)
    → Records (recording_within count kind (shape_of tree) seed turns (loads_of tree)) why drawn lines → Records (recorded_of kind tree seed turns) why drawn lines
by-first count kind tree seed turns why drawn lines few other within =
    subst (λ (r : Recording). Records r why drawn lines) (sym (first-turns-suffice kind (shape_of tree) seed turns count (loads_of tree) few (λ all. other (sym within.end ∙ all)))) within

pub returns : goal.returns
unfolding recordings_compute
returns c = record {
  even = by-first 64 SeedKind.Even two_leaves 0 20 _ _ _ (omega arith) (λ other. cc) (record { end = refl; drawn = refl; text = refl });
  skewed = by-first 200 SeedKind.Skewed two_leaves 0 20 _ _ _ (omega arith) (λ other. cc) (record { end = refl; drawn = refl; text = refl });
  deep = by-first 64 SeedKind.Skewed four_leaves 4 9 _ _ _ (omega arith) (λ other. cc) (record { end = refl; drawn = refl; text = refl });
  none = by-first 0 SeedKind.Even two_leaves 0 0 _ _ _ (omega arith) (λ other. cc) (record { end = refl; drawn = refl; text = refl });
}
