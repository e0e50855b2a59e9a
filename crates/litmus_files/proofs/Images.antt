-- The image of a test that is read loads.
use Rattle.std.proofs.Common.{◌≡◌, ℕ, ◌≤◌, List, Ok, arith, inl, inr}
use Rattle.std.specs.Prelude.{true, Option, is_ok}
use Rattle.elf_load.specs.DdmTypes.ItemTable.{IsItemSize}
use Rattle.elf_load.specs.ElfFile.{image_of}
use Rattle.litmus_model.specs.declared.test.Runs.{Runs}
use Rattle.litmus_model.specs.Image.{test_image}
use Rattle.litmus_model.specs.Sound.{IsSound}
use Rattle.litmus_model.specs.Test.{Test}
use Rattle.litmus_image.proofs.Accepted.{assembled_images_load}

pub image_loads : (runs : Runs) (test : Test) (leaves item_bytes : ℕ) (places : Option (List ℕ)) (image : List ℕ)
    → test_image runs test leaves item_bytes places ≡ Ok image → IsSound test → leaves ≤ 64 → IsItemSize item_bytes → is_ok (image_of item_bytes image) ≡ true
image_loads runs test leaves item_bytes places image made sound few is = assembled_images_load runs test leaves item_bytes places image sound few is made

pub large_item : (item_bytes : ℕ) → IsItemSize item_bytes → 4 ≤ item_bytes
large_item item_bytes is = elim is as (λ h. 4 ≤ item_bytes) [ inl e ↦ omega (arith, e) | inr e ↦ omega (arith, e) ]

pub small_item : (item_bytes : ℕ) → IsItemSize item_bytes → item_bytes ≤ 64
small_item item_bytes is = elim is as (λ h. item_bytes ≤ 64) [ inl e ↦ omega (arith, e) | inr e ↦ omega (arith, e) ]

-- An image loads, and its items have a size that is allowed.
pub ruleset image_sizes = (image_loads, large_item, small_item)
