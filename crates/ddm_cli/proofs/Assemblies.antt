-- The image of a litmus test: what is printed is it, and why there is none.
use Rattle.std.proofs.Common.{◌≡◌, ℕ, ◌<◌, ◌≤◌, List, length, Option, Some, None, Result, Ok, Err, refl, sym, ap, ◌∙◌}
use Rattle.std.specs.Prelude.{IfSome, option_and_then}
use Rattle.std.specs.Result.{result_ok}
use Rattle.std.proofs.lemmas.Bool.{lt-ltb}
use Rattle.ddm_cli.specs.DdmOutside.Causes.{Rose}
use Rattle.ddm_cli.specs.ReportCrate.declared.roles.FileRole.TheVariants.{ImageFile, TreeFile, ScheduleFile, WitnessFile, CheckpointFile}
use Rattle.ddm_cli.proofs.ReportCrate.Written.{rose_before}
use Rattle.ddm_cli.specs.TreeModel.Start.Sources.{TreeValue, leaf_count}
use Rattle.ddm_cli.specs.TreeConfig.TreeFile.{tree_of}
use Rattle.ddm_cli.specs.TreeConfig.declared.refusal.TreeRefusal.{TreeRefusal}
use Rattle.ddm_words.specs.LitmusModel.declared.refusal.TestRefusal.{TestRefusal}
use Rattle.ddm_words.specs.LitmusModel.declared.refusal.TestRefusal.TheVariants.{TooLong}
use Rattle.ddm_words.specs.LitmusModel.Test.{test_of}
use Rattle.ddm_words.specs.LitmusFiles.Assembled.{file_image, image_read}
use Rattle.ddm_words.specs.LitmusFiles.declared.assembling.FileRefusal.{FileRefusal}
use Rattle.ddm_words.specs.LitmusFiles.declared.assembling.FileRefusal.TheVariants.{Test, Image}
use Rattle.ddm_cli.specs.Assembling.{AssemblyCause, NoAssembly, TestCause, assembled_at, assembled_of}
use Rattle.ddm_cli.specs.Causes.{AcceptedAs, Accepts, TreeCause}
use Rattle.ddm_words.specs.Commands.{Assembly, to_assemble}
use Rattle.ddm_cli.specs.Parts.{tree_at}
use Rattle.ddm_cli.specs.Top.{Both, NothingFailed, command_text}
use Rattle.ddm_cli.specs.declared.status.Status.{Status}
use Rattle.ddm_cli.specs.declared.status.Status.TheVariants.{Done, Usage, ImageLoad, ImageBuild, Tree, Schedule, Witness, Checkpoint, SmallLists, Table, ReadFault, UnreadTable, WriteFault, NoMemory, Litmus, UnreadTest}

-- ---- a test that isn't read

pub test_of-long : (file : List ℕ) → 65536 < length file → test_of file ≡ Err TooLong
unfolding test_of
test_of-long file long = rw (lt-ltb 65536 (length file) long) refl

unread-at : (a : Assembly) (t : TreeValue) (file : List ℕ) (r : TestRefusal) → test_of file ≡ Err r → assembled_at a file t ≡ Err (Test r)
unfolding assembled_at file_image
unread-at a t file r is = rw is refl

-- ---- what is told of a tree and of a test

-- the tree is accepted as this
both-told : (tree test : Option (List ℕ)) (t : TreeValue) (P : TreeValue → List ℕ → Type 0) → AcceptedAs tree_at tree t → IfSome test (P t) → IfSome tree (λ f. IfSome test (λ g. IfSome (tree_at f) (λ u. P u g)))
both-told None test t P taken holds = tt
both-told (Some f) None t P taken holds = tt
both-told (Some f) (Some g) t P taken holds = rw taken holds

pub accepts-tree : (tree : Option (List ℕ)) (t : TreeValue) → AcceptedAs tree_at tree t → Accepts tree_at tree
accepts-tree None t taken = tt
accepts-tree (Some f) t taken = rw taken refl

pub image-taken : (a : Assembly) (t : TreeValue) (image : List ℕ) (tree test : Option (List ℕ)) → AcceptedAs tree_at tree t → IfSome test (λ file. assembled_at a file t ≡ Ok image)
    → Accepts tree_at tree × Both tree test (λ f g. assembled_of a f g ≡ Some image)
image-taken a t image tree test taken made = (accepts-tree tree t taken, by tree test taken made) where
  by : (tree test : Option (List ℕ)) → AcceptedAs tree_at tree t → IfSome test (λ file. assembled_at a file t ≡ Ok image) → Both tree test (λ f g. assembled_of a f g ≡ Some image)
  by None test taken made = tt
  by (Some f) None taken made = tt
  by (Some f) (Some g) taken made = rw (taken, made) refl

-- what holds of the bytes that were read holds of the file
pub of-file : (told : Option (List ℕ)) (text : List ℕ) (P : List ℕ → Type 0) → IfSome told (λ file. text ≡ file) → P text → IfSome told P
of-file None text P same holds = tt
of-file (Some file) text P same holds = subst-file same holds where
  subst-file : text ≡ file → P text → P file
  subst-file e h = rw (sym e) h

-- ---- why there is no image, as a cause of the command

module _ {F : Type 0} (told : F → List ℕ → Option (List ℕ)) (faults : F → List ℕ → ℕ) (files files' : F) (a : Assembly) where
  pub tree-refused : (s : Status) → TreeCause (told files a.tree) (faults files a.tree) (faults files' a.tree) s → NoAssembly told faults files files' s a
  tree-refused (Tree r) cause = cause
  tree-refused (ReadFault TreeFile) cause = cause
  tree-refused (ReadFault ImageFile) cause = absurd cause
  tree-refused (ReadFault ScheduleFile) cause = absurd cause
  tree-refused (ReadFault WitnessFile) cause = absurd cause
  tree-refused (ReadFault CheckpointFile) cause = absurd cause
  tree-refused NoMemory cause = tt
  tree-refused Done cause = absurd cause
  tree-refused WriteFault cause = absurd cause
  tree-refused (Usage k) cause = absurd cause
  tree-refused (ImageLoad r) cause = absurd cause
  tree-refused (ImageBuild r) cause = absurd cause
  tree-refused (Schedule line r) cause = absurd cause
  tree-refused (Witness r) cause = absurd cause
  tree-refused (Checkpoint r) cause = absurd cause
  tree-refused (SmallLists key) cause = absurd cause
  tree-refused (Table n r) cause = absurd cause
  tree-refused (UnreadTable n) cause = absurd cause
  tree-refused (Litmus r) cause = absurd cause
  tree-refused UnreadTest cause = absurd cause

  module _ (t : TreeValue) (taken : AcceptedAs tree_at (told files a.tree) t) where
    refused-by : (r : FileRefusal) → IfSome (told files a.test) (λ file. assembled_at a file t ≡ Err r) → NoAssembly told faults files files' (Litmus r) a
    refused-by r refused = (accepts-tree (told files a.tree) t taken, both-told (told files a.tree) (told files a.test) t (λ u file. assembled_at a file u ≡ Err r) taken refused)

    -- the count of failed reads of the test rose since the tree was read, or before
    pub test-refused : (before : ℕ) → faults files a.test ≤ before → (s : Status) → TestCause (told files a.test) before (faults files' a.test) s → NoAssembly told faults files files' s a
    test-refused before earlier (Litmus (Test r)) cause = refused-by (Test r) (IfSome-then (told files a.test) cause) where
      IfSome-then : (o : Option (List ℕ)) → IfSome o (λ file. test_of file ≡ Err r) → IfSome o (λ file. assembled_at a file t ≡ Err (Test r))
      IfSome-then None c = tt
      IfSome-then (Some file) c = unread-at a t file r c
    test-refused before earlier (Litmus (Image r)) cause = absurd cause
    test-refused before earlier UnreadTest cause = (rose_before (faults files a.test) before (faults files' a.test) earlier cause, accepts-tree (told files a.tree) t taken)
    test-refused before earlier NoMemory cause = tt
    test-refused before earlier (Tree r) cause = absurd cause
    test-refused before earlier (ReadFault role) cause = absurd cause
    test-refused before earlier Done cause = absurd cause
    test-refused before earlier WriteFault cause = absurd cause
    test-refused before earlier (Usage k) cause = absurd cause
    test-refused before earlier (ImageLoad r) cause = absurd cause
    test-refused before earlier (ImageBuild r) cause = absurd cause
    test-refused before earlier (Schedule line r) cause = absurd cause
    test-refused before earlier (Witness r) cause = absurd cause
    test-refused before earlier (Checkpoint r) cause = absurd cause
    test-refused before earlier (SmallLists key) cause = absurd cause
    test-refused before earlier (Table n r) cause = absurd cause
    test-refused before earlier (UnreadTable n) cause = absurd cause

    pub assembly-refused : (s : Status) → AssemblyCause a t (told files a.test) s → NoAssembly told faults files files' s a
    assembly-refused (Litmus r) cause = refused-by r cause
    assembly-refused NoMemory cause = tt
    assembly-refused UnreadTest cause = absurd cause
    assembly-refused (Tree r) cause = absurd cause
    assembly-refused (ReadFault role) cause = absurd cause
    assembly-refused Done cause = absurd cause
    assembly-refused WriteFault cause = absurd cause
    assembly-refused (Usage k) cause = absurd cause
    assembly-refused (ImageLoad r) cause = absurd cause
    assembly-refused (ImageBuild r) cause = absurd cause
    assembly-refused (Schedule line r) cause = absurd cause
    assembly-refused (Witness r) cause = absurd cause
    assembly-refused (Checkpoint r) cause = absurd cause
    assembly-refused (SmallLists key) cause = absurd cause
    assembly-refused (Table n r) cause = absurd cause
    assembly-refused (UnreadTable n) cause = absurd cause

-- the cause that the bytes that were read give is that of the file
pub cause-of-file : (a : Assembly) (t : TreeValue) (told : Option (List ℕ)) (text : List ℕ) (s : Status) → IfSome told (λ file. text ≡ file) → AssemblyCause a t (Some text) s → AssemblyCause a t told s
cause-of-file a t told text (Litmus r) same cause = of-file told text (λ file. assembled_at a file t ≡ Err r) same cause
cause-of-file a t told text NoMemory same cause = tt
cause-of-file a t told text UnreadTest same cause = absurd cause
cause-of-file a t told text (Tree r) same cause = absurd cause
cause-of-file a t told text (ReadFault role) same cause = absurd cause
cause-of-file a t told text Done same cause = absurd cause
cause-of-file a t told text WriteFault same cause = absurd cause
cause-of-file a t told text (Usage k) same cause = absurd cause
cause-of-file a t told text (ImageLoad r) same cause = absurd cause
cause-of-file a t told text (ImageBuild r) same cause = absurd cause
cause-of-file a t told text (Schedule line r) same cause = absurd cause
cause-of-file a t told text (Witness r) same cause = absurd cause
cause-of-file a t told text (Checkpoint r) same cause = absurd cause
cause-of-file a t told text (SmallLists key) same cause = absurd cause
cause-of-file a t told text (Table n r) same cause = absurd cause
cause-of-file a t told text (UnreadTable n) same cause = absurd cause

-- ---- where there is an image, nothing was refused

and-then-some : {A B : Type 0} (o : Option A) (f : A → Option B) (b : B) → option_and_then f o ≡ Some b → (x : A) × (o ≡ Some x) × (f x ≡ Some b)
and-then-some None f b e = absurd (cc e)
and-then-some (Some x) f b e = (x, refl, e)

no-refusal : (a : Assembly) (t test : Option (List ℕ)) (tree file image : List ℕ) (r : FileRefusal) → t ≡ Some tree → test ≡ Some file → assembled_of a tree file ≡ Some image
    → IfSome t (λ f. IfSome test (λ g. IfSome (tree_at f) (λ u. assembled_at a g u ≡ Err r))) → ⊥
no-refusal a t test tree file image r is-tree is-test has refused =
    let here : IfSome (tree_at tree) (λ u. assembled_at a file u ≡ Err r) = rw (is-tree, is-test) at refused in
    by (tree_at tree) here has
  where
    by : (o : Option TreeValue) → IfSome o (λ u. assembled_at a file u ≡ Err r) → option_and_then (λ u. result_ok (assembled_at a file u)) o ≡ Some image → ⊥
    by None here has = cc has
    by (Some u) here has = let nothing : result_ok (assembled_at a file u) ≡ None = rw here refl in cc (sym nothing ∙ has)

no-tree : (a : Assembly) (tree file image : List ℕ) (r : TreeRefusal) → tree_of tree ≡ Err r → assembled_of a tree file ≡ Some image → ⊥
unfolding tree_at
no-tree a tree file image r is has = by (tree_of tree) is has where
  by : (o : Result TreeValue TreeRefusal) → o ≡ Err r → option_and_then (λ u. result_ok (assembled_at a file u)) (result_ok o) ≡ Some image → ⊥
  by (Ok u) is has = cc is
  by (Err q) is has = cc has

module _ {F : Type 0} (told : F → List ℕ → Option (List ℕ)) (faults : F → List ℕ → ℕ) (files files' : F) where
  pub assembly_refused : (a : Assembly) (image : List ℕ) → command_text (told files) (to_assemble a) ≡ Some image → NothingFailed told faults files files' (to_assemble a) → (s : Status) → NoAssembly told faults files files' s a → s ≡ NoMemory
  assembly_refused a image has calm = by_status where
    tree : (f : List ℕ) × (told files a.tree ≡ Some f) × (option_and_then (assembled_of a f) (told files a.test) ≡ Some image)
    tree = and-then-some (told files a.tree) _ image has

    test : (g : List ℕ) × (told files a.test ≡ Some g) × (assembled_of a tree.0 g ≡ Some image)
    test = and-then-some (told files a.test) _ image tree.2

    tree-here : (t : Option (List ℕ)) (r : TreeRefusal) → t ≡ Some tree.0 → IfSome t (λ f. tree_of f ≡ Err r) → tree_of tree.0 ≡ Err r
    tree-here t r is refused = rw is at refused

    by_status : (s : Status) → NoAssembly told faults files files' s a → s ≡ NoMemory
    by_status NoMemory refused = refl
    by_status (Tree r) refused = absurd (no-tree a tree.0 test.0 image r (tree-here (told files a.tree) r tree.1 refused) test.2)
    by_status (ReadFault TreeFile) refused = absurd (calm.0 refused)
    by_status UnreadTest refused = absurd (calm.1 refused.0)
    by_status (Litmus r) refused = absurd (no-refusal a (told files a.tree) (told files a.test) tree.0 test.0 image r tree.1 test.1 test.2 refused.1)
    by_status (ReadFault ImageFile) refused = absurd refused
    by_status (ReadFault ScheduleFile) refused = absurd refused
    by_status (ReadFault WitnessFile) refused = absurd refused
    by_status (ReadFault CheckpointFile) refused = absurd refused
    by_status Done refused = absurd refused
    by_status WriteFault refused = absurd refused
    by_status (Usage k) refused = absurd refused
    by_status (ImageLoad r) refused = absurd refused
    by_status (ImageBuild r) refused = absurd refused
    by_status (Schedule line r) refused = absurd refused
    by_status (Witness r) refused = absurd refused
    by_status (Checkpoint r) refused = absurd refused
    by_status (SmallLists key) refused = absurd refused
    by_status (Table n r) refused = absurd refused
    by_status (UnreadTable n) refused = absurd refused
