use Rattle.std.proofs.Common.{◌≡◌, ◌≤◌, ℕ, List, [], ◌∷◌, refl, sym, ap, ◌∙◌, arith}
use Rattle.std.specs.Prelude.{codes}
use Rattle.recording_model.specs.declared.RunEnd.{RunEnd}
use Rattle.recording_model.specs.declared.SeedKind.{SeedKind}
use Rattle.recording_model.specs.Examples.{loads_of, shape_of, two_leaves}
use Rattle.recording_model.specs.Recording.{drawn_limit, recording_within}
use Rattle.recording_model.proofs.FirstTurns.{first-turns-suffice}
use Rattle.survey_model.specs.Computing.{surveys_compute}
use Rattle.outcome_model.specs.Table.{table_of}
use Rattle.survey_model.specs.Survey.{run_end, seed_end, seed_ends, survey_table, survey_text, table_text}
use Rattle.survey_model.proofs.examples.small_surveys.Goals as goal

-- what is computed of a seed's first turns is so of the seed
by-first : (count : ℕ) (kind : SeedKind) (turns seed : ℕ) (why : RunEnd) (o : List ℕ) → count ≤ drawn_limit → (why ≡ RunEnd.Drawn → ⊥)
    → (recording_within count kind (shape_of two_leaves) seed turns (loads_of two_leaves)).end ≡ why
    → run_end (recording_within count kind (shape_of two_leaves) seed turns (loads_of two_leaves)) ≡ o
    → seed_end kind (shape_of two_leaves) turns (loads_of two_leaves) seed ≡ o
by-first count kind turns seed why o few other end is =
    ap run_end (first-turns-suffice kind (shape_of two_leaves) seed turns count (loads_of two_leaves) few (λ all. other (sym end ∙ all))) ∙ is

abbrev one_exits : List ℕ
one_exits = codes " turns hart 0 exit 663 out - hart 1 running out -"

abbrev both_run : List ℕ
both_run = codes " turns hart 0 running out - hart 1 running out -"

abbrev both_exit : List ℕ
both_exit = codes " halted hart 0 exit 663 out - hart 1 exit 663 out -"

first-seed : seed_end SeedKind.Even (shape_of two_leaves) 5 (loads_of two_leaves) 0 ≡ one_exits
unfolding surveys_compute
first-seed = by-first 64 SeedKind.Even 5 0 RunEnd.Turns one_exits (omega arith) (λ other. cc) refl refl

second-seed : seed_end SeedKind.Even (shape_of two_leaves) 5 (loads_of two_leaves) 1 ≡ both_run
unfolding surveys_compute
second-seed = by-first 64 SeedKind.Even 5 1 RunEnd.Turns both_run (omega arith) (λ other. cc) refl refl

third-seed : seed_end SeedKind.Even (shape_of two_leaves) 5 (loads_of two_leaves) 2 ≡ both_run
unfolding surveys_compute
third-seed = by-first 64 SeedKind.Even 5 2 RunEnd.Turns both_run (omega arith) (λ other. cc) refl refl

fourth-seed : seed_end SeedKind.Even (shape_of two_leaves) 5 (loads_of two_leaves) 3 ≡ one_exits
unfolding surveys_compute
fourth-seed = by-first 64 SeedKind.Even 5 3 RunEnd.Turns one_exits (omega arith) (λ other. cc) refl refl

skewed-seed : seed_end SeedKind.Skewed (shape_of two_leaves) 20 (loads_of two_leaves) 0 ≡ both_exit
unfolding surveys_compute
skewed-seed = by-first 200 SeedKind.Skewed 20 0 RunEnd.Halted both_exit (omega arith) (λ other. cc) refl refl

-- ---- the tables of these ends

joined : (x y : List ℕ) (xs ys : List (List ℕ)) → x ≡ y → xs ≡ ys → x ∷ xs ≡ y ∷ ys
joined x y xs ys same rest = ap (λ z. z ∷ xs) same ∙ ap (λ zs. y ∷ zs) rest

abbrev even_ends : List (List ℕ)
even_ends = one_exits ∷ both_run ∷ both_run ∷ one_exits ∷ []

even-ends : seed_ends SeedKind.Even (shape_of two_leaves) 5 (loads_of two_leaves) 0 4 ≡ even_ends
even-ends = joined _ _ _ _ first-seed (joined _ _ _ _ second-seed (joined _ _ _ _ third-seed (joined _ _ _ _ fourth-seed refl)))

skewed-ends : seed_ends SeedKind.Skewed (shape_of two_leaves) 20 (loads_of two_leaves) 0 1 ≡ both_exit ∷ []
skewed-ends = joined _ _ _ _ skewed-seed refl

even-text : table_text 4 (table_of 0 even_ends) ≡ codes "survey 2 runs 4\noutcome 2 0 turns hart 0 exit 663 out - hart 1 running out -\noutcome 2 1 turns hart 0 running out - hart 1 running out -\nend\n"
unfolding surveys_compute
even-text = refl

skewed-text : table_text 1 (table_of 0 (both_exit ∷ [])) ≡ codes "survey 1 runs 1\noutcome 1 0 halted hart 0 exit 663 out - hart 1 exit 663 out -\nend\n"
unfolding surveys_compute
skewed-text = refl

pub returns : goal.returns
unfolding survey_table survey_text
returns c = record {
  even = ap (λ os. table_text 4 (table_of 0 os)) even-ends ∙ even-text;
  skewed = ap (λ os. table_text 1 (table_of 0 os)) skewed-ends ∙ skewed-text;
}
