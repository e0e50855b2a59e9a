-- Worked examples: the texts of two witnesses, and what is made of them.
use Rattle.std.specs.Prelude.{◌≡◌, ℕ, ◌*◌, ◌/◌, ◌%◌, List, [], ◌∷◌, ◌++◌, codes, flat_map, length, Some, None, Ok, Err}
use Rattle.witness_check.specs.DdmTypes.declared.operations.Effect.TheVariants.{Plain, Put, ScFail}
use Rattle.witness_check.specs.DdmTypes.declared.operations.Op.{Op}
use Rattle.witness_check.specs.DdmTypes.Keys.{key_zero}
use Rattle.witness_check.specs.TreeModel.Start.Sources.{ImageValue}
use Rattle.witness_check.specs.declared.refusal.CheckRefusal.TheVariants.{StackOverlap, BadLine, NotLegal}
use Rattle.witness_check.specs.Lines.{op_in}
use Rattle.witness_check.specs.Start.{Setting, check_of}

abbrev pub word_bytes : ℕ → List ℕ
word_bytes w = w % 256 ∷ w / 256 % 256 ∷ w / 65536 % 256 ∷ w / 16777216 ∷ []

-- code at 0x10000, where the harts begin, and words that may be written at 0x20000, in a segment of so many bytes
abbrev pub image_of : List ℕ → List ℕ → ℕ → ImageValue
image_of code words memsz = record {
  entry = 0x10000;
  segments =
      record { header = 0; vaddr = 0x10000; flags = 5; bytes = flat_map word_bytes code; memsz = 4 * length code }
      ∷ record { header = 1; vaddr = 0x20000; flags = 6; bytes = flat_map word_bytes words; memsz = memsz } ∷ [];
}

-- so many harts with stacks of so many bytes from an address on, and items of 16 bytes
abbrev pub setting_of : ImageValue → ℕ → ℕ → ℕ → Setting
setting_of image harts stack_base stack_bytes = record {
  image = image;
  start = record { entry = 0x10000; harts = harts; stack_base = stack_base; stack_bytes = stack_bytes };
  item_bytes = 16;
}

-- ---- lines

abbrev pub op_of : ℕ → ℕ → Op
op_of i pc = record { key = record key_zero { i = i }; hart = 0; pc = pc; effect = Plain }

pub record LinesOfOperations : Type 0 where
  pub plain : op_in (codes "op 0 0.0.1 00010004 plain") ≡ Some (op_of 1 0x10004)
  pub put :
      op_in (codes "op 7 4294967295.1.0.0.0 0001abcd put 4f")
      ≡ Some (record {
        key = record key_zero { s0 = 4294967295; c0 = 1 };
        hart = 7;
        pc = 0x1abcd;
        effect = Put 0x4f;
      })
  pub failed : op_in (codes "op 0 1.2.3.4.5.6.7.8.9 00010000 scfail 00020000")
      ≡ Some (record {
        key = record { s0 = 1; c0 = 2; s1 = 3; c1 = 4; s2 = 5; c2 = 6; s3 = 7; c3 = 8; i = 9 };
        hart = 0;
        pc = 0x10000;
        effect = ScFail 0x20000;
      })
  -- a number that is too large, another spelling, and too few or too many numbers of a key
  pub large : op_in (codes "op 4294967296 0.0.1 00010004 plain") ≡ None
  pub spelling : op_in (codes "op 0 0.00.1 00010004 plain") ≡ None
  pub few : op_in (codes "op 0 0.1 00010004 plain") ≡ None
  pub even : op_in (codes "op 0 0.0.0.1 00010004 plain") ≡ None
  pub many : op_in (codes "op 0 0.0.0.0.0.0.0.0.0.0.0 00010004 plain") ≡ None
  -- digits that are few, or in upper case; a space more; nothing
  pub short : op_in (codes "op 0 0.0.1 0010004 plain") ≡ None
  pub upper : op_in (codes "op 0 0.0.1 0001000C plain") ≡ None
  pub space : op_in (codes "op 0 0.0.1 00010004 plain ") ≡ None
  pub nothing : op_in [] ≡ None

-- ---- one hart stores 7, loads it back and exits

abbrev pub six : Setting
six =
    setting_of
    (image_of (0x000202b7 ∷ 0x00700313 ∷ 0x0062a023 ∷ 0x0002a383 ∷ 0x05d00893 ∷ 0x00038513 ∷ 0x00000073 ∷ []) []
    16) 1 196608 16

abbrev pub first_two : List ℕ
first_two = codes "op 0 0.0.0 00010000 plain\nop 0 0.0.1 00010004 plain\n"

abbrev pub stored : List ℕ
stored = codes "op 0 0.0.2 00010008 store 00020000 00000000 00000007\n"

abbrev pub loaded : List ℕ
loaded = codes "op 0 0.0.3 0001000c load 00020000 00000007\n"

abbrev pub last_two : List ℕ
last_two = codes "op 0 0.0.4 00010010 plain\nop 0 0.0.5 00010014 plain"

pub record SixOperations : Type 0 where
  pub accepted : check_of six (first_two ++ stored ++ loaded ++ last_two ++ codes "\n") ≡ Ok 6
  -- the third and the fourth line exchanged
  pub exchanged : check_of six (first_two ++ loaded ++ stored ++ last_two ++ codes "\n") ≡ Err (NotLegal 3)
  -- without the last line feed
  pub cut : check_of six (first_two ++ stored ++ loaded ++ last_two) ≡ Err (BadLine 6)
  pub nothing : check_of six [] ≡ Ok 0
  -- a load of another word
  pub another_word :
      check_of six (first_two ++ stored ++ codes "op 0 0.0.3 0001000c load 00020000 00000008\n")
      ≡ Err (NotLegal 4)
  -- the keys aren't judged
  pub other_keys : check_of six (codes "op 0 9.9.9.9.9 00010000 plain\nop 0 0.0.0 00010004 plain\n") ≡ Ok 2
  -- a hart that isn't there
  pub no_hart : check_of six (codes "op 1 0.0.0 00010000 plain\n") ≡ Err (NotLegal 1)
  -- behind its last step the hart exits, which is no operation
  pub behind :
      check_of six (first_two ++ stored ++ loaded ++ last_two ++ codes "\nop 0 0.0.6 00010018 plain\n")
      ≡ Err (NotLegal 7)
  -- a stack that meets the code
  pub overlap : check_of (record six { start = record six.start { stack_base = 65536 } }) [] ≡ Err (StackOverlap 0 0)

-- ---- one hart stores what another had loaded before, and loads later in turns

abbrev pub eight : Setting
eight =
    setting_of
    (image_of
    (0x000202b7 ∷ 0x0002a383 ∷ 0x00050863 ∷ 0x0002a403 ∷ 0x0102a483 ∷ 0x0002a603 ∷ 0x00b2a023 ∷ 0x00b2a823
    ∷ []) (5 ∷ []) 32) 4 196608 0

abbrev pub reader_lines : List ℕ
reader_lines =
    codes "op 3 0.1.0.1.0 00010000 plain\nop 3 0.1.2.1.1 00010004 load 00020000 00000005\n"
    ++ codes "op 3 0.1.2.1.2 00010008 plain\n"

abbrev pub late_load : List ℕ
late_load = codes "op 3 1.1.4.1.3 0001000c load 00020000 00000005\n"

abbrev pub writer_start : List ℕ
writer_start = codes "op 0 0.0.0.0.0 00010000 plain\n"

abbrev pub writer_lines : List ℕ
writer_lines =
    codes "op 0 2.0.2.0.1 00010004 load 00020000 00000005\nop 0 2.0.2.0.2 00010008 plain\n"
    ++ codes "op 0 4.0.4.0.3 00010018 store 00020000 00000005 00000004\n"

pub record EightOperations : Type 0 where
  -- in the order of their keys
  pub in_order : check_of eight (writer_start ++ reader_lines ++ late_load ++ writer_lines) ≡ Ok 8
  -- in the order of the turns
  pub by_turns : check_of eight (reader_lines ++ writer_start ++ writer_lines ++ late_load) ≡ Err (NotLegal 8)
