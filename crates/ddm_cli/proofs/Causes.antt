-- The causes of one file, as those of a command.
use Rattle.std.proofs.Common.{◌≡◌, ℕ, List, Option, Some, None, Ok, refl}
use Rattle.std.specs.Prelude.{IfSome}
use Rattle.ddm_cli.specs.DdmTypes.ItemTable.{item_count}
use Rattle.ddm_cli.specs.TreeModel.Start.Sources.{TreeValue, ImageValue}
use Rattle.ddm_cli.specs.TreeModel.Start.Machine.{start_refusal}
use Rattle.ddm_cli.specs.TreeModel.Start.Memory.{start_items}
use Rattle.ddm_cli.specs.ElfLoad.ElfFile.{image_of}
use Rattle.ddm_cli.specs.Causes.{AcceptedAs}
use Rattle.ddm_cli.specs.Lists.{list_refused}
use Rattle.ddm_cli.specs.Parts.{Parts, parts_for, tree_at}
use Rattle.ddm_cli.specs.Top.{AcceptsParts}
use Rattle.ddm_words.specs.declared.command.Prints.{Prints}
use Rattle.ddm_cli.proofs.Judged.{both_taken}

-- the parts of files that were taken, where no list is refused
module _ (prints : Prints) (t : TreeValue) (i : ImageValue) (accepted : start_refusal t i ≡ None) (large : list_refused prints t.sizes (item_count (start_items t i)) ≡ None) where
  pub parts_are : (tree image : List ℕ) → tree_at tree ≡ Some t → image_of t.item_bytes image ≡ Ok i → (let p : Parts = record { tree = t; image = i } in parts_for prints tree image ≡ Some p)
  unfolding parts_for
  parts_are tree image is loaded = rw (both_taken tree image t i is loaded accepted, large) refl

  pub takes_parts : (tree image : Option (List ℕ)) → AcceptedAs tree_at tree t → IfSome image (λ f. image_of t.item_bytes f ≡ Ok i) → AcceptsParts prints tree image
  takes_parts None image taken loaded = (tt, tt)
  takes_parts (Some f) None taken loaded = (rw taken refl, tt)
  takes_parts (Some f) (Some g) taken loaded = (rw taken refl, rw (parts_are f g taken loaded) refl)
