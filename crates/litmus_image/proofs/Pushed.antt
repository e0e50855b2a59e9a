-- What comes before a thread's own instructions, one register more at a time.
use Rattle.std.proofs.Common.{◌≡◌, ℕ, ◌+◌, ◌≤◌, List, [], ◌∷◌, ◌++◌, refl, sym, append_assoc, arith}
use Rattle.std.specs.Prelude.{Bool, false, true, pos, ◌||◌, if◌then◌else◌}
use Rattle.std.specs.List.{flat_map, range_with_len}
use Rattle.std.proofs.lemmas.List.{append-nil}
use Rattle.rv_decode.specs.declared.instructions.LoadOp.TheVariants.{Lw}
use Rattle.rv_decode.specs.declared.instructions.Instr.{Instr}
use Rattle.rv_decode.specs.declared.instructions.Instr.TheVariants as instr
use Rattle.litmus_model.specs.declared.parts.Value.TheVariants.{Number, Address}
use Rattle.litmus_model.specs.declared.parts.Target.TheVariants.{Register}
use Rattle.litmus_model.specs.declared.test.Runs.TheVariants.{OfSeeds}
use Rattle.litmus_model.specs.Steps.{load_number}
use Rattle.litmus_model.specs.Init.{is_given}
use Rattle.litmus_model.specs.Image.{address_of, first_value, is_dirty, prologue, setting, setting_one, waiting, warming, warming_load, word_of}
use Rattle.litmus_model.specs.Test.{Test}
use Rattle.litmus_image.proofs.Ranges.{pushed_more}

-- ---- warming

pub warming_none : (old : List Instr) (item_bytes n : ℕ) (test : Test) → old ≡ old ++ warming_load item_bytes test (Number n)
unfolding warming_load
warming_none old item_bytes n test = sym (append-nil old)

pub warming_one : (old : List Instr) (item_bytes : ℕ) (test : Test) (name : List ℕ)
    → (old ++ load_number 10 (word_of test item_bytes (Address name))) ++ instr.Load Lw 0 10 (pos 0) ∷ [] ≡ old ++ warming_load item_bytes test (Address name)
unfolding warming_load
warming_one old item_bytes test name = append_assoc old (load_number 10 (address_of test item_bytes name)) (instr.Load Lw 0 10 (pos 0) ∷ [])

-- for so many registers
unfoldable pub warmed : Test → ℕ → ℕ → ℕ → List Instr
warmed test item_bytes k n = flat_map (λ r. warming_load item_bytes test (first_value test (Register k r))) (range_with_len 0 n)

pub warmed_none : (old : List Instr) (test : Test) (item_bytes k : ℕ) → old ≡ old ++ warmed test item_bytes k 0
unfolding warmed
warmed_none old test item_bytes k = sym (append-nil old)

pub warmed_more : (old : List Instr) (test : Test) (item_bytes k n : ℕ)
    → (old ++ warmed test item_bytes k n) ++ warming_load item_bytes test (first_value test (Register k n)) ≡ old ++ warmed test item_bytes k (n + 1)
unfolding warmed
warmed_more old test item_bytes k n = pushed_more old (λ r. warming_load item_bytes test (first_value test (Register k r))) n

pub warmed_all : (test : Test) (item_bytes k n : ℕ) → n ≤ 32 → 32 ≤ n → warmed test item_bytes k n ≡ warming test item_bytes k
unfolding warmed warming
warmed_all test item_bytes k n most least = let all : n ≡ 32 = omega (arith, most, least) in rw all refl

-- ---- setting

pub nothing_set : (old : List Instr) (test : Test) (item_bytes k r : ℕ) → is_dirty r ≡ false → is_given test.init (Register k r) ≡ false → old ≡ old ++ setting_one test item_bytes k r
unfolding setting_one
nothing_set old test item_bytes k r clean free = rw (clean, free) (sym (append-nil old))

one_chosen : (b c : Bool) (is : List Instr) → (b || c) ≡ true → (if b then is else (if c then is else [])) ≡ is
one_chosen true c is some = refl
one_chosen false true is some = refl
one_chosen false false is some = absurd (cc)

pub one_set : (test : Test) (item_bytes k r : ℕ) → (is_dirty r || is_given test.init (Register k r)) ≡ true
    → setting_one test item_bytes k r ≡ load_number r (word_of test item_bytes (first_value test (Register k r)))
unfolding setting_one
one_set test item_bytes k r some = one_chosen (is_dirty r) (is_given test.init (Register k r)) (load_number r (word_of test item_bytes (first_value test (Register k r)))) some

-- of so many registers
unfoldable pub set_first : Test → ℕ → ℕ → ℕ → List Instr
set_first test item_bytes k n = flat_map (setting_one test item_bytes k) (range_with_len 0 n)

pub set_none : (old : List Instr) (test : Test) (item_bytes k : ℕ) → old ≡ old ++ set_first test item_bytes k 0
unfolding set_first
set_none old test item_bytes k = sym (append-nil old)

pub set_more : (old : List Instr) (test : Test) (item_bytes k n : ℕ)
    → (old ++ set_first test item_bytes k n) ++ setting_one test item_bytes k n ≡ old ++ set_first test item_bytes k (n + 1)
unfolding set_first
set_more old test item_bytes k n = pushed_more old (setting_one test item_bytes k) n

pub set_all : (test : Test) (item_bytes k n : ℕ) → n ≤ 32 → 32 ≤ n → set_first test item_bytes k n ≡ setting test item_bytes k
unfolding set_first setting
set_all test item_bytes k n most least = let all : n ≡ 32 = omega (arith, most, least) in rw all refl

pub seeded_prologue : (old : List Instr) (test : Test) (item_bytes k : ℕ)
    → ((old ++ warming test item_bytes k) ++ waiting) ++ setting test item_bytes k ≡ old ++ prologue OfSeeds test item_bytes k
unfolding prologue
seeded_prologue old test item_bytes k = regroup old (warming test item_bytes k) waiting (setting test item_bytes k) where
  regroup : (o a b c : List Instr) → ((o ++ a) ++ b) ++ c ≡ o ++ (a ++ b ++ c)
  regroup o a b c = simp append_assoc
