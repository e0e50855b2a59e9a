-- The image of the test that a file is.
use Rattle.std.specs.Prelude.{◌≡◌, ℕ, List, Option, Result, Ok, Err}
use Rattle.litmus_model.specs.declared.test.Runs.{Runs}
use Rattle.litmus_model.specs.declared.refusal.TestRefusal.{TestRefusal}
use Rattle.litmus_model.specs.declared.refusal.ImageRefusal.{ImageRefusal}
use Rattle.litmus_model.specs.Image.{test_image}
use Rattle.litmus_model.specs.Test.{Test, test_of}
use Rattle.litmus_text.specs.declared.judged.Unread.{Unread}
use Rattle.litmus_text.specs.declared.judged.Unread.TheVariants as unread
use Rattle.litmus_image.specs.declared.places.Unmade.{Unmade}
use Rattle.litmus_image.specs.declared.places.Unmade.TheVariants as unmade
use Rattle.litmus_files.specs.declared.assembling.AssembledTest.{AssembledTest}
use Rattle.litmus_files.specs.declared.assembling.FileRefusal.{FileRefusal}
use Rattle.litmus_files.specs.declared.assembling.FileRefusal.TheVariants as refusal
use Rattle.litmus_files.specs.declared.assembling.Unassembled.{Unassembled}
use Rattle.litmus_files.specs.declared.assembling.Unassembled.TheVariants.{Refused, NoMemory}

-- of a test that is read
abbrev pub image_judged : Result (List ℕ) ImageRefusal → Result (List ℕ) FileRefusal
image_judged (Ok image) = Ok image
image_judged (Err r) = Err (refusal.Image r)

abbrev pub image_read : Runs → ℕ → ℕ → Option (List ℕ) → Result Test TestRefusal → Result (List ℕ) FileRefusal
image_read runs leaves item_bytes places (Err r) = Err (refusal.Test r)
image_read runs leaves item_bytes places (Ok test) = image_judged (test_image runs test leaves item_bytes places)

-- the image of a file's test for a tree, or the first refusal
unfoldable pub file_image : Runs → List ℕ → ℕ → ℕ → Option (List ℕ) → Result (List ℕ) FileRefusal
file_image runs file leaves item_bytes places = image_read runs leaves item_bytes places (test_of file)

-- what the code's answers say: the same image or the same refusal, or there was no memory
abbrev pub Assembles : Result (List ℕ) FileRefusal → Result AssembledTest Unassembled → Type 0
Assembles judged (Ok a) = judged ≡ Ok a.image.items
Assembles judged (Err (Refused r)) = judged ≡ Err r
Assembles judged (Err NoMemory) = Unit {0}

abbrev pub of_unread : Unread → Unassembled
of_unread (unread.Refused r) = Refused (refusal.Test r)
of_unread unread.NoMemory = NoMemory

abbrev pub of_unmade : Unmade → Unassembled
of_unmade (unmade.Refused r) = Refused (refusal.Image r)
of_unmade unmade.NoMemory = NoMemory
