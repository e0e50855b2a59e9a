-- The image of a litmus test for a tree, and why there is none.
-- Letters: a is what is to be assembled, t is a tree.
use Rattle.std.specs.Prelude.{◌≡◌, ℕ, List, Option, Result, Err, IfSome, option_and_then}
use Rattle.std.specs.Result.{result_ok}
use Rattle.ddm_cli.specs.DdmOutside.Causes.{Rose}
use Rattle.ddm_cli.specs.TreeModel.Start.Sources.{TreeValue, leaf_count}
use Rattle.ddm_cli.specs.TreeConfig.TreeFile.{tree_of}
use Rattle.ddm_cli.specs.ReportCrate.declared.roles.FileRole.TheVariants.{TreeFile}
use Rattle.ddm_words.specs.LitmusModel.Test.{test_of}
use Rattle.ddm_words.specs.LitmusFiles.Assembled.{file_image}
use Rattle.ddm_words.specs.LitmusFiles.declared.assembling.FileRefusal.{FileRefusal}
use Rattle.ddm_words.specs.LitmusFiles.declared.assembling.FileRefusal.TheVariants.{Test}
use Rattle.ddm_cli.specs.Causes.{Accepts}
use Rattle.ddm_words.specs.Commands.{Assembly}
use Rattle.ddm_cli.specs.Parts.{tree_at}
use Rattle.ddm_cli.specs.declared.status.Status.{Status}
use Rattle.ddm_cli.specs.declared.status.Status.TheVariants.{Litmus, NoMemory, ReadFault, Tree, UnreadTest}

-- ---- the image

-- of the test that a file is, for a tree; or the first refusal
unfoldable pub assembled_at : Assembly → List ℕ → TreeValue → Result (List ℕ) FileRefusal
assembled_at a file t = file_image a.runs file (leaf_count t) t.item_bytes a.places

-- of the files of a tree and of a test
abbrev pub assembled_of : Assembly → List ℕ → List ℕ → Option (List ℕ)
assembled_of a tree file = option_and_then (λ t. result_ok (assembled_at a file t)) (tree_at tree)

-- ---- why there is none

-- why a test isn't read
abbrev pub TestCause : Option (List ℕ) → ℕ → ℕ → Status → Type 0
TestCause told before now (Litmus (Test r)) = IfSome told (λ file. test_of file ≡ Err r)
TestCause told before now UnreadTest = Rose before now
TestCause told before now NoMemory = Unit {0}
TestCause told before now _ = ⊥

-- why it has no image for a tree
abbrev pub AssemblyCause : Assembly → TreeValue → Option (List ℕ) → Status → Type 0
AssemblyCause a t told (Litmus r) = IfSome told (λ file. assembled_at a file t ≡ Err r)
AssemblyCause a t told NoMemory = Unit {0}
AssemblyCause a t told _ = ⊥

module _ {F : Type 0} (told : F → List ℕ → Option (List ℕ)) (faults : F → List ℕ → ℕ) (files files' : F) where
  abbrev FileFailed : List ℕ → Type 0
  FileFailed name = Rose (faults files name) (faults files' name)

  -- why a command has no image of a test: the tree is read first, then the test; the other statuses are no such answers
  abbrev pub NoAssembly : Status → Assembly → Type 0
  NoAssembly (Tree r) a = IfSome (told files a.tree) (λ file. tree_of file ≡ Err r)
  NoAssembly (ReadFault TreeFile) a = FileFailed a.tree
  NoAssembly UnreadTest a = FileFailed a.test × Accepts tree_at (told files a.tree)
  NoAssembly (Litmus r) a =
      Accepts tree_at (told files a.tree)
      × IfSome (told files a.tree) (λ tree. IfSome (told files a.test) (λ file. IfSome (tree_at tree) (λ t. assembled_at a file t ≡ Err r)))
  NoAssembly NoMemory a = Unit {0}
  NoAssembly _ a = ⊥
