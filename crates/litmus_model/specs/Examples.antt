-- Worked examples: what the texts of small tests say, refusals with their lines, and an image word by word.
use Rattle.std.specs.Prelude.{◌≡◌, ℕ, true, false, pos, codes, List, [], ◌∷◌, ◌++◌, replicate, Some, None, Ok, Err}
use Rattle.rv_decode.specs.declared.instructions.ImmOp.TheVariants.{Addi}
use Rattle.rv_decode.specs.declared.instructions.LoadOp.TheVariants.{Lw}
use Rattle.rv_decode.specs.declared.instructions.StoreOp.TheVariants.{Sw}
use Rattle.rv_decode.specs.declared.instructions.BranchOp.TheVariants.{Blt}
use Rattle.rv_decode.specs.declared.instructions.AmoOp.TheVariants.{Swap}
use Rattle.rv_decode.specs.declared.instructions.Instr.TheVariants as instr
use Rattle.elf_load.specs.Written.{words, file_header}
use Rattle.litmus_model.specs.declared.parts.Value.{Value}
use Rattle.litmus_model.specs.declared.parts.Value.TheVariants.{Number, Address}
use Rattle.litmus_model.specs.declared.parts.Target.{Target}
use Rattle.litmus_model.specs.declared.parts.Target.TheVariants.{Register, Location}
use Rattle.litmus_model.specs.declared.parts.Given.{Given}
use Rattle.litmus_model.specs.declared.parts.Step.{Step}
use Rattle.litmus_model.specs.declared.parts.Step.TheVariants.{Label, Plain, Branch, Jump}
use Rattle.litmus_model.specs.declared.parts.PlacedStep.{PlacedStep}
use Rattle.litmus_model.specs.declared.parts.Chunk.TheVariants as chunk
use Rattle.litmus_model.specs.declared.test.Quantifier.TheVariants.{Exists, NotExists, Forall}
use Rattle.litmus_model.specs.declared.test.Runs.TheVariants.{OfSeeds}
use Rattle.litmus_model.specs.declared.refusal.Fault.{Fault}
use Rattle.litmus_model.specs.declared.refusal.TestRefusal.TheVariants.{InLine}
use Rattle.litmus_model.specs.declared.refusal.ImageRefusal.TheVariants.{TooManyThreads, NoLeaf}
use Rattle.litmus_model.specs.Test.{Test, test_of}
use Rattle.litmus_model.specs.Image.{test_image}

-- ---- texts and what they say

-- the text says this test
abbrev pub Says : List ℕ → Test → Type 0
Says text test = test_of text ≡ Ok test

-- the text is refused for this fault in this line
abbrev pub IsRefused : List ℕ → ℕ → Fault → Type 0
IsRefused text line fault = test_of text ≡ Err (InLine line fault)

abbrev placed_step : ℕ → ℕ → Step → PlacedStep
placed_step thread line step = record { thread = thread; line = line; step = step }

abbrev given : Target → Value → Given
given target value = record { target = target; value = value }

abbrev pub message_passing_text : List ℕ
message_passing_text =
    codes "RISCV MP\n{0:x6=x; 1:x6=x;}\n P0 | P1 ;\n li x5,1 | lw x5,0(x6) ;\n sw x5,0(x6) | ;\n"
    ++ codes "exists (1:x5=1)\n"

abbrev pub message_passing : Test
message_passing = record {
  name = codes "MP";
  threads = 2;
  program = placed_step 0 4 (Plain (instr.Immediate Addi 5 0 (pos 1))) ∷
      placed_step 1 4 (Plain (instr.Load Lw 5 6 (pos 0))) ∷
      placed_step 0 5 (Plain (instr.Store Sw 6 5 (pos 0))) ∷ [];
  init = given (Register 0 6) (Address (codes "x")) ∷
      given (Register 1 6) (Address (codes "x")) ∷ [];
  quantifier = Exists;
  chunks = chunk.Open ∷
      chunk.Is (Register 1 5) (Number 1) ∷
      chunk.Close ∷ [];
  observed = Register 1 5 ∷ [];
  locations = codes "x" ∷ [];
}

abbrev pub waiting_text : List ℕ
waiting_text =
    codes "RISCV Wait\n(* until (* another *) stores *)\n{x=-1; int y; P0:s0=x;}\nP0;\n"
    ++ codes "a:lr.w.aq t0,(s0);\nbgtz t0,a;\nli t1,4096;\nfence r,rw;\nj b;\nb:;\nforall x=-1\n"

abbrev pub waiting : Test
waiting = record {
  name = codes "Wait";
  threads = 1;
  program = placed_step 0 5 (Label (codes "a")) ∷
      placed_step 0 5 (Plain (instr.Lr 5 8 true false)) ∷
      placed_step 0 6 (Branch Blt 0 5 (codes "a")) ∷
      placed_step 0 7 (Plain (instr.Lui 6 4096)) ∷
      placed_step 0 7 (Plain (instr.Immediate Addi 6 6 (pos 0))) ∷
      placed_step 0 8 (Plain (instr.Fence 0 0 35)) ∷
      placed_step 0 9 (Jump (codes "b")) ∷
      placed_step 0 10 (Label (codes "b")) ∷ [];
  init = given (Location (codes "x")) (Number 4294967295) ∷
      given (Location (codes "y")) (Number 0) ∷
      given (Register 0 8) (Address (codes "x")) ∷ [];
  quantifier = Forall;
  chunks = chunk.Is (Location (codes "x")) (Number 4294967295) ∷ [];
  observed = Location (codes "x") ∷ [];
  locations = codes "x" ∷
      codes "y" ∷ [];
}

abbrev pub conditions_text : List ℕ
conditions_text =
    codes
    "RISCV Many\n{}\nP0|P1;\nnop|amoswap.w a0,zero,(a1);\nlocations [y;0:a0;]\n~exists (not true \\/ [y]=z /\\ 1:x1=0x10)\n"

abbrev pub conditions : Test
conditions = record {
  name = codes "Many";
  threads = 2;
  program = placed_step 0 4 (Plain (instr.Immediate Addi 0 0 (pos 0))) ∷
      placed_step 1 4 (Plain (instr.Amo Swap 10 11 0 false false)) ∷ [];
  init = [];
  quantifier = NotExists;
  chunks = chunk.Open ∷
      chunk.Not ∷
      chunk.True ∷
      chunk.Or ∷
      chunk.Is (Location (codes "y")) (Address (codes "z")) ∷
      chunk.And ∷
      chunk.Is (Register 1 1) (Number 16) ∷
      chunk.Close ∷ [];
  observed = Register 0 10 ∷
      Register 1 1 ∷
      Location (codes "y") ∷ [];
  locations = codes "y" ∷
      codes "z" ∷ [];
}

-- ---- texts that are refused

abbrev pub open_comment : List ℕ
open_comment = codes "RISCV A\n(* (* *)\n"

abbrev pub other_architecture : List ℕ
other_architecture = codes "\nPPC A\n"

abbrev pub wide_load : List ℕ
wide_load = codes "RISCV A\n{}\nP0;\nld x5,0(x6);\nexists true"

abbrev pub no_label : List ℕ
no_label = codes "RISCV A\n{}\nP0;\na:;\nbeqz x5,b;\nexists true"

abbrev pub given_twice : List ℕ
given_twice = codes "RISCV A\n{0:x5=1;\n0:t0=2;}\nP0;\nexists true"

abbrev pub open_bracket : List ℕ
open_bracket = codes "RISCV A\n{}\nP0;\nexists (true\n"

-- ---- an image: on three leaves, of which the first thread has the last one

-- as an assembler makes them
abbrev pub example_words : List ℕ
example_words =
    0x00251513 ∷ 0x000105b7 ∷ 0x00b50533 ∷ 0x01050067 ∷ 0x0500006f ∷ 0x00100073 ∷
    0x0040006f ∷ 0x00200537 ∷ 0x00050513 ∷ 0x00052003 ∷ 0x0fa00513 ∷ 0xfff50513 ∷
    0xfe051ee3 ∷ 0x00000137 ∷ 0x00010113 ∷ 0x00200337 ∷ 0x00030313 ∷ 0x00000537 ∷
    0x00050513 ∷ 0x000005b7 ∷ 0x00058593 ∷ 0x00100293 ∷ 0x00532023 ∷ 0x00100073 ∷
    0x00200537 ∷ 0x00050513 ∷ 0x00052003 ∷ 0x0fa00513 ∷ 0xfff50513 ∷ 0xfe051ee3 ∷
    0x00000137 ∷ 0x00010113 ∷ 0x00200337 ∷ 0x00030313 ∷ 0x00000537 ∷ 0x00050513 ∷
    0x000005b7 ∷ 0x00058593 ∷ 0x00032283 ∷ 0x00100073 ∷ []

abbrev pub example_file : List ℕ
example_file =
    file_header 0x10000 2 ++
    words (1 ∷ 116 ∷ 0x10000 ∷ 0x10000 ∷ 160 ∷ 160 ∷ 5 ∷ 1 ∷ []) ++
    words (1 ∷ 276 ∷ 0x200000 ∷ 0x200000 ∷ 16 ∷ 16 ∷ 6 ∷ 1 ∷ []) ++
    words example_words ++ replicate 16 0

pub record ExampleImage : Type 0 where
  pub file : test_image OfSeeds message_passing 3 16 (Some (2 ∷ 0 ∷ [])) ≡ Ok example_file
  pub too_many : test_image OfSeeds message_passing 1 16 None ≡ Err (TooManyThreads 2)
  pub outside : test_image OfSeeds message_passing 3 16 (Some (0 ∷ 3 ∷ [])) ≡ Err (NoLeaf 3)
