-- A litmus test: what a file's bytes say, or the first refusal.
use Rattle.std.specs.Prelude.{ℕ, Bool, true, false, ◌&&◌, ◌||◌, nat_eq, nat_lt, bytes_eq, List, [], ◌∷◌, ◌++◌, length}
use Rattle.std.specs.Prelude.{fold, Ok, Err, if◌then◌else◌}
use Rattle.std.specs.List.{list_any, flat_map}
use Rattle.std.specs.Ordering.{nat_cmp, is_lt}
use Rattle.std.specs.Cmp.Lexicographic.{slice_cmp}
use Rattle.litmus_model.specs.declared.parts.Value.{Value}
use Rattle.litmus_model.specs.declared.parts.Value.TheVariants.{Number, Address}
use Rattle.litmus_model.specs.declared.parts.Target.{Target}
use Rattle.litmus_model.specs.declared.parts.Target.TheVariants.{Register, Location}
use Rattle.litmus_model.specs.declared.parts.Given.{Given}
use Rattle.litmus_model.specs.declared.parts.PlacedStep.{PlacedStep}
use Rattle.litmus_model.specs.declared.parts.Chunk.{Chunk}
use Rattle.litmus_model.specs.declared.parts.Chunk.TheVariants as chunk
use Rattle.litmus_model.specs.declared.test.Quantifier.{Quantifier}
use Rattle.litmus_model.specs.declared.refusal.TestRefusal.TheVariants.{TooLong, TooManyObserved, TooManyLocations}
use Rattle.litmus_model.specs.Refusing.{Judged, ◌>>=◌}
use Rattle.litmus_model.specs.Comments.{without_comments}
use Rattle.litmus_model.specs.Init.{same_target, init_of}
use Rattle.litmus_model.specs.Program.{Program, program_of}
use Rattle.litmus_model.specs.Condition.{Final, final_of}
use Rattle.litmus_model.specs.Sections.{Sections, sections_of}

pub record Test : Type 0 where
  pub name : List ℕ
  pub threads : ℕ
  -- of all threads, row by row
  pub program : List PlacedStep
  pub init : List Given
  pub quantifier : Quantifier
  pub chunks : List Chunk
  -- registers by thread and number, then locations by name
  pub observed : List Target
  -- the names of the locations, in the order of the items that they get
  pub locations : List (List ℕ)

-- ---- what is observed

abbrev pub is_before : Target → Target → Bool
is_before (Register t r) (Register u s) = nat_lt t u || (nat_eq t u && nat_lt r s)
is_before (Register t r) (Location w) = true
is_before (Location v) (Register u s) = false
is_before (Location v) (Location w) = is_lt (slice_cmp nat_cmp v w)

-- targets in order, each once, with one more
unfoldable pub with_target : List Target → Target → List Target
with_target [] x = x ∷ []
with_target (y ∷ ys) x =
    if is_before x y then x ∷ y ∷ ys else (if same_target x y then y ∷ ys else y ∷ with_target ys x)

abbrev pub chunk_targets : Chunk → List Target
chunk_targets (chunk.Is target value) = target ∷ []
chunk_targets chunk.Open = []
chunk_targets chunk.Close = []
chunk_targets chunk.Not = []
chunk_targets chunk.And = []
chunk_targets chunk.Or = []
chunk_targets chunk.True = []
chunk_targets chunk.False = []

unfoldable pub observed_targets : Final → List Target
observed_targets f = fold with_target [] (f.named ++ flat_map chunk_targets f.chunks)

-- ---- locations

abbrev pub target_names : Target → List (List ℕ)
target_names (Register t r) = []
target_names (Location w) = w ∷ []

abbrev pub value_names : Value → List (List ℕ)
value_names (Number n) = []
value_names (Address w) = w ∷ []

abbrev pub pair_names : Target → Value → List (List ℕ)
pair_names target value = target_names target ++ value_names value

abbrev pub chunk_names : Chunk → List (List ℕ)
chunk_names (chunk.Is target value) = pair_names target value
chunk_names chunk.Open = []
chunk_names chunk.Close = []
chunk_names chunk.Not = []
chunk_names chunk.And = []
chunk_names chunk.Or = []
chunk_names chunk.True = []
chunk_names chunk.False = []

-- all names that the text has, in its order
unfoldable pub names_in : List Given → Final → List (List ℕ)
names_in init f =
    flat_map (λ (g : Given). pair_names g.target g.value) init ++ flat_map target_names f.named ++ flat_map chunk_names f.chunks

-- each once
unfoldable pub with_name : List (List ℕ) → List ℕ → List (List ℕ)
with_name names w = if list_any (bytes_eq w) names then names else names ++ w ∷ []

abbrev pub distinct : List (List ℕ) → List (List ℕ)
distinct names = fold with_name [] names

-- ---- the whole

unfoldable pub judged_test : List ℕ → Program → List Given → Final → List Target → List (List ℕ) → Judged Test
judged_test name p init f observed locations =
    if nat_lt 64 (length observed) then Err (TooManyObserved (length observed))
    else (if nat_lt 256 (length locations) then Err (TooManyLocations (length locations))
    else Ok (record {
      name = name;
      threads = p.threads;
      program = p.steps;
      init = init;
      quantifier = f.quantifier;
      chunks = f.chunks;
      observed = observed;
      locations = locations;
    }))

-- the program is read, then the initial state, then the final section
unfoldable pub test_in : Sections → Judged Test
test_in s =
    program_of s.condition_line s.program >>= (λ (p : Program).
    init_of p.threads s.closing s.init >>= (λ init.
    final_of p.threads s.end s.final >>= (λ (f : Final).
    judged_test s.name p init f (observed_targets f) (distinct (names_in init f)))))

-- what the bytes of a file say
unfoldable pub test_of : List ℕ → Judged Test
test_of bytes =
    if nat_lt 65536 (length bytes) then Err TooLong
    else (without_comments bytes >>= sections_of >>= test_in)
