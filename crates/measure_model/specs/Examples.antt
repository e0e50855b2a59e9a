-- Worked examples: what is printed of seeds of small trees whose harts load a word of the first item and exit with it. The expected
-- values are those of an independent program.
use Rattle.std.specs.Prelude.{◌≡◌, ℕ, List, ◌++◌, codes}
use Rattle.recording_model.specs.Examples.{four_leaves, loads_of, shape_of, two_leaves}
use Rattle.recording_model.specs.TreeModel.Start.Sources.{TreeValue}
use Rattle.recording_model.specs.declared.SeedKind.{SeedKind}
use Rattle.measure_model.specs.Text.{measure_text}

abbrev pub measured : SeedKind → TreeValue → ℕ → ℕ → List ℕ
measured kind tree seed turns = measure_text kind (shape_of tree) seed turns (loads_of tree)

pub record SmallMeasures : Type 0 where
  pub even :
      measured SeedKind.Even two_leaves 0 20
      ≡ codes "measure 1\nend halted\nturns 11 drawn 49 retired 6 issued 1 granted 2 halted 2 busy 0\n"
      ++ codes "hart 0 exit 663 pc 0001000c done 3 loads 1 stores 0 amos 0 failed 0 reads 0 erases 0 busy "
      ++ codes "0\n"
      ++ codes "hart 1 exit 663 pc 0001000c done 3 loads 1 stores 0 amos 0 failed 0 reads 1 erases 0 busy "
      ++ codes "0\nbus 0 read 1 data 1 erase 0 exclusive 0 out 0 inject 0 busy 0\n"
      ++ codes "most bus 0 down 0 requests 0 replies 0 parking 0\nmost leaf 0 replies 1 buffer 0\n"
      ++ codes "most leaf 1 replies 0 buffer 0\nitem 0 00010000 reads 1 erases 0 injects 0\nend\n"
  -- lists of several buses
  pub deep :
      measured SeedKind.Skewed four_leaves 4 9
      ≡ codes "measure 1\nend turns\nturns 9 drawn 35 retired 5 issued 2 granted 1 halted 1 busy 0\n"
      ++ codes "hart 0 exit 663 pc 0001000c done 3 loads 1 stores 0 amos 0 failed 0 reads 0 erases 0 busy "
      ++ codes "0\n"
      ++ codes "hart 1 running pc 00010004 done 1 loads 0 stores 0 amos 0 failed 0 reads 1 erases 0 busy 0\n"
      ++ codes "hart 2 running pc 00010004 done 1 loads 0 stores 0 amos 0 failed 0 reads 1 erases 0 busy 0\n"
      ++ codes "hart 3 running pc 00010000 done 0 loads 0 stores 0 amos 0 failed 0 reads 0 erases 0 busy 0\n"
      ++ codes "bus 0 read 0 data 0 erase 0 exclusive 0 out 0 inject 0 busy 0\n"
      ++ codes "bus 1 read 0 data 0 erase 0 exclusive 0 out 0 inject 0 busy 0\n"
      ++ codes "bus 2 read 1 data 0 erase 0 exclusive 0 out 0 inject 0 busy 0\n"
      ++ codes "most bus 0 down 0 requests 0 replies 0 parking 0\n"
      ++ codes "most bus 1 down 0 requests 0 replies 0 parking 0\n"
      ++ codes "most bus 2 down 0 requests 1 replies 0 parking 0\nmost leaf 0 replies 0 buffer 0\n"
      ++ codes "most leaf 1 replies 0 buffer 0\nmost leaf 2 replies 0 buffer 0\n"
      ++ codes "most leaf 3 replies 0 buffer 0\nitem 0 00010000 reads 2 erases 0 injects 0\nend\n"
  pub none :
      measured SeedKind.Even two_leaves 0 0
      ≡ codes "measure 1\nend turns\nturns 0 drawn 0 retired 0 issued 0 granted 0 halted 0 busy 0\n"
      ++ codes "hart 0 running pc 00010000 done 0 loads 0 stores 0 amos 0 failed 0 reads 0 erases 0 busy 0\n"
      ++ codes "hart 1 running pc 00010000 done 0 loads 0 stores 0 amos 0 failed 0 reads 0 erases 0 busy 0\n"
      ++ codes "bus 0 read 0 data 0 erase 0 exclusive 0 out 0 inject 0 busy 0\n"
      ++ codes "most bus 0 down 0 requests 0 replies 0 parking 0\nmost leaf 0 replies 0 buffer 0\n"
      ++ codes "most leaf 1 replies 0 buffer 0\nend\n"
