-- The two parts of a word that `lui` and `addi` put into a register.
use Rattle.std.proofs.Common.{◌≡◌, ℕ, zero, suc, ◌+◌, ◌-◌, ◌*◌, ◌%◌, ◌^◌, ◌<◌, ◌≤◌, List, [], ◌∷◌, map, refl, arith}
use Rattle.std.specs.Prelude.{Bool, true, false, nat_lt, pos, neg_ℤ, if◌then◌else◌}
use Rattle.std.specs.List.{slice_index_or}
use Rattle.std.proofs.lemmas.Bool.Decides.{nat_tests}
use Rattle.rv_decode.specs.Valid.{FitsBits, IsRegister, IsUpper}
use Rattle.rv_decode.specs.declared.instructions.Instr.{Instr}
use Rattle.litmus_model.specs.declared.parts.Step.TheVariants.{Plain}
use Rattle.litmus_model.specs.Steps.{high_part, load_number, low_part}
use Rattle.litmus_steps.specs.Made.{IsMade}

pub is_upper : (n : ℕ) → n < 1048576 → IsUpper (4096 * n)
is_upper n small = (omega (arith, small), omega arith)

upper : (w : ℕ) → w < 2 ^ 32 → IsUpper (w - w % 4096)
upper w small = (omega (arith, small), omega arith)

high_upper : (v : ℕ) → IsUpper (high_part v)
unfolding high_part
high_upper v = upper ((v + 2048) % 2 ^ 32) (omega arith)

neg_fits : (m : ℕ) → m ≤ 2048 → FitsBits 12 (neg_ℤ (pos m))
neg_fits zero h = omega arith
neg_fits (suc m) h = omega (arith, h)

low_case : (x : ℕ) (b : Bool) → nat_lt x 2048 ≡ b → FitsBits 12 (if b then pos x else neg_ℤ (pos (4096 - x)))
low_case x true e = grind (arith, nat_tests)
low_case x false e = let large : 2048 ≤ x = grind (arith, nat_tests) in neg_fits (4096 - x) (omega (arith, large))

low_fits : (v : ℕ) → FitsBits 12 (low_part v)
unfolding low_part
low_fits v = low_case (v % 4096) (nat_lt (v % 4096) 2048) refl

pub load_made : (rd v : ℕ) → IsRegister rd → IsMade (map Plain (load_number rd v))
unfolding load_number
load_made rd v small = ((small, high_upper v), (small, small, low_fits v))

pub load_steps : (rd v : ℕ) (is : List Instr) (d e : Instr) → is ≡ load_number rd v
    → Plain (slice_index_or is 0 d) ∷ Plain (slice_index_or is 1 e) ∷ [] ≡ map Plain (load_number rd v)
unfolding load_number
load_steps rd v is d e same = rw same refl
