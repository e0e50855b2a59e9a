-- Files that are cut short.
use Rattle.std.specs.Prelude.{◌≡◌, ℕ, List, ◌++◌, map, length, take, replicate, Result, Err}
use Rattle.std.specs.List.{range_with_len}
use Rattle.tree_model.specs.Start.Sources.{ImageValue}
use Rattle.elf_load.specs.declared.refusal.ImageRefusal.{ImageRefusal}
use Rattle.elf_load.specs.declared.refusal.ImageRefusal.TheVariants.{NotElf, HeaderOutside, SegmentOutside}
use Rattle.elf_load.specs.SmallFile.{small_file, read_small}

-- so many times the same refusal
abbrev refused : ℕ → ImageRefusal → List (Result ImageValue ImageRefusal)
refused count r = replicate count (Err r)

pub record CutImages : Type 0 where
  pub file_length : length small_file ≡ 144
  -- its first bytes alone, for each number of them below 144
  pub refusals :
      map (λ (n : ℕ). read_small (take n small_file)) (range_with_len 0 144)
      ≡ refused 52 NotElf ++ refused 32 (HeaderOutside 0) ++ refused 32 (HeaderOutside 1)
      ++ refused 28 (SegmentOutside 0)
