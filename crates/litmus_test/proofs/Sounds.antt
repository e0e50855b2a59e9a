-- A test of parts that are read: it is sound, and it is the one that the text says.
use Rattle.std.proofs.Common.{◌≡◌, ℕ, ◌+◌, ◌*◌, ◌≤◌, List, [], ◌++◌, length, Ok, refl, subst, arith}
use Rattle.std.specs.Prelude.{Bool, false, fold, nat_lt, if◌then◌else◌}
use Rattle.std.specs.List.{flat_map}
use Rattle.std.proofs.lemmas.Bool.Decides.{nat_tests}
use Rattle.litmus_model.specs.declared.parts.Given.{Given}
use Rattle.litmus_model.specs.declared.parts.Target.{Target}
use Rattle.litmus_model.specs.Condition.{Final}
use Rattle.litmus_model.specs.Program.{Program, steps_of}
use Rattle.litmus_model.specs.Sound.{IsSound, instruction_count}
use Rattle.litmus_model.specs.Test.{Test, chunk_names, chunk_targets, distinct, judged_test, names_in, observed_targets, pair_names, target_names, with_target}
use Rattle.litmus_read.specs.Kept.{IsKept}
use Rattle.litmus_test.specs.Whole.{test_with}

no_more : (n m : ℕ) → m ≤ n → nat_lt n m ≡ false
no_more n m h = grind (arith, nat_tests)

pub is_sound : (test : Test) → IsKept 256 0 test.program → length test.locations ≤ 256 → IsSound test
is_sound test kept few = record {
  steps = kept.sound;
  near = λ k. subst (λ (b : Bool). instruction_count (steps_of k test.program) ≤ 2 * 256 + (if b then 2 else 0)) (no_more k 0 (omega arith)) (kept.near k);
  few = few;
}

pub whole_test : (name : List ℕ) (p : Program) (init : List Given) (f : Final) (observed : List Target) (locations : List (List ℕ))
    → observed ≡ fold with_target [] (f.named ++ flat_map chunk_targets f.chunks)
    → locations ≡ distinct (flat_map (λ (g : Given). pair_names g.target g.value) init ++ flat_map target_names f.named ++ flat_map chunk_names f.chunks)
    → length observed ≤ 64 → length locations ≤ 256
    → test_with name p init f ≡ Ok (record {
      name = name;
      threads = p.threads;
      program = p.steps;
      init = init;
      quantifier = f.quantifier;
      chunks = f.chunks;
      observed = observed;
      locations = locations;
    })
unfolding judged_test names_in observed_targets
whole_test name p init f observed locations seen named few_seen few_named =
    rw (← seen, ← named, no_more 64 (length observed) few_seen, no_more 256 (length locations) few_named) refl
