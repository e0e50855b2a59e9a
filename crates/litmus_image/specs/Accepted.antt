-- Every image of a test is accepted.
use Rattle.std.specs.Prelude.{◌≡◌, ℕ, ◌≤◌, true, List, Option, Ok, is_ok}
use Rattle.elf_load.specs.DdmTypes.ItemTable.{IsItemSize}
use Rattle.elf_load.specs.ElfFile.{image_of}
use Rattle.litmus_model.specs.declared.test.Runs.{Runs}
use Rattle.litmus_model.specs.Image.{test_image}
use Rattle.litmus_model.specs.Sound.{IsSound}
use Rattle.litmus_model.specs.Test.{Test}

abbrev pub AssembledImagesLoad : Type 0
AssembledImagesLoad =
    (runs : Runs) (test : Test) (leaves item_bytes : ℕ) (places : Option (List ℕ)) (image : List ℕ)
    → IsSound test → leaves ≤ 64 → IsItemSize item_bytes
    → test_image runs test leaves item_bytes places ≡ Ok image → is_ok (image_of item_bytes image) ≡ true
