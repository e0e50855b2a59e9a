-- What an image file gives that is accepted.
-- Letters: i is an image.
-- To be believed: it is what is claimed of every image file.
use Rattle.std.specs.Prelude.{◌≡◌, ℕ, ◌<◌, List, Ok}
use Rattle.std.specs.List.{AllByRecursion}
use Rattle.file_laws.specs.TreeModel.Start.Sources.{ImageValue}
use Rattle.elf_load.specs.ElfFile.{image_of}
use Rattle.value_laws.specs.Images.{IsOfBytes}

abbrev pub AreBytes : List ℕ → Type 0
AreBytes file = AllByRecursion (λ byte. byte < 256) file

abbrev pub AcceptedImagesAreOfBytes : Type 0
AcceptedImagesAreOfBytes = (item_bytes : ℕ) (file : List ℕ) (i : ImageValue) → AreBytes file → image_of item_bytes file ≡ Ok i → IsOfBytes i
