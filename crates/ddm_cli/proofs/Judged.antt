-- What was judged of a tree and an image, as the parts of a machine.
use Rattle.std.proofs.Common.{◌≡◌, ℕ, ◌<◌, List, length, Some, None, Ok, Err, refl}
use Rattle.std.specs.Prelude.{IsSome}
use Rattle.std.proofs.lemmas.Bool.{lt-ltb}
use Rattle.ddm_cli.specs.TreeModel.Start.Sources.{TreeValue, ImageValue}
use Rattle.ddm_cli.specs.TreeModel.Start.Machine.{start_refusal}
use Rattle.ddm_cli.specs.ElfLoad.ElfFile.{file_refusal, image_of}
use Rattle.ddm_cli.specs.ElfLoad.declared.refusal.ImageRefusal.TheVariants as image
use Rattle.ddm_cli.specs.TreeConfig.TreeFile.{tree_of}
use Rattle.ddm_cli.specs.TreeConfig.declared.refusal.TreeRefusal.TheVariants as tree
use Rattle.ddm_cli.specs.Parts.{parts_in, parts_of, tree_at}

pub tree_of-long : (file : List ℕ) → 65536 < length file → tree_of file ≡ Err tree.TooLong
unfolding tree_of
tree_of-long file long = rw (lt-ltb 65536 (length file) long) refl

pub image_of-long : (item_bytes : ℕ) (file : List ℕ) → 4194304 < length file → image_of item_bytes file ≡ Err image.TooLong
unfolding image_of file_refusal
image_of-long item_bytes file long = rw (lt-ltb 4194304 (length file) long) refl

pub tree_taken : (file : List ℕ) (t : TreeValue) → tree_of file ≡ Ok t → tree_at file ≡ Some t
unfolding tree_at
tree_taken file t is = rw is refl

pub parts_taken : (file : List ℕ) (t : TreeValue) (i : ImageValue) → image_of t.item_bytes file ≡ Ok i → start_refusal t i ≡ None → parts_in t file ≡ Some (record { tree = t; image = i })
unfolding parts_in
parts_taken file t i is start = rw (is, start) refl

pub both_taken : (tree image : List ℕ) (t : TreeValue) (i : ImageValue) → tree_at tree ≡ Some t → image_of t.item_bytes image ≡ Ok i → start_refusal t i ≡ None → parts_of tree image ≡ Some (record { tree = t; image = i })
unfolding parts_of
both_taken tree image t i is loaded start = rw is (parts_taken image t i loaded start)

pub some_parts : (file : List ℕ) (t : TreeValue) (i : ImageValue) → image_of t.item_bytes file ≡ Ok i → start_refusal t i ≡ None → IsSome (parts_in t file)
some_parts file t i is start = rw (parts_taken file t i is start) refl
