-- The fault lines of refusals: each by its name and its numbers, or by a key.
use Rattle.std.specs.Prelude.{ℕ, List, [], ◌∷◌, ◌++◌, codes}
use Rattle.ddm_cli.specs.TextModel.Faults.{checkpoint_fault, image_fault, shown_key, tree_fault, tree_key_fault}
use Rattle.ddm_cli.specs.TextModel.Faults.{unknown_key_fault, witness_fault, witness_line_fault}
use Rattle.ddm_cli.specs.ElfLoad.declared.refusal.ImageRefusal.{ImageRefusal}
use Rattle.ddm_cli.specs.ElfLoad.declared.refusal.ImageRefusal.TheVariants as image
use Rattle.ddm_cli.specs.TreeConfig.TreeFile.{key_name}
use Rattle.ddm_cli.specs.TreeConfig.declared.refusal.TreeKey.{TreeKey}
use Rattle.ddm_cli.specs.TreeConfig.declared.refusal.TreeRefusal.{TreeRefusal}
use Rattle.ddm_cli.specs.TreeConfig.declared.refusal.TreeRefusal.TheVariants as tree
use Rattle.run_engine.specs.declared.refusal.BuildRefusal.{BuildRefusal}
use Rattle.run_engine.specs.declared.refusal.BuildRefusal.TheVariants as build
use Rattle.checkpoint.specs.declared.ResumeRefusal.{ResumeRefusal}
use Rattle.checkpoint.specs.declared.ResumeRefusal.TheVariants as resume
use Rattle.witness_check.specs.declared.refusal.CheckRefusal.{CheckRefusal}
use Rattle.witness_check.specs.declared.refusal.CheckRefusal.TheVariants as check

abbrev pub image_name : ImageRefusal → List ℕ
image_name image.TooLong = codes "TooLong"
image_name image.NotElf = codes "NotElf"
image_name image.WrongClass = codes "WrongClass"
image_name image.NotExecutable = codes "NotExecutable"
image_name image.WrongMachine = codes "WrongMachine"
image_name image.Compressed = codes "Compressed"
image_name image.HardFloat = codes "HardFloat"
image_name image.Embedded = codes "Embedded"
image_name (image.TooManyHeaders n) = codes "TooManyHeaders"
image_name (image.HeaderOutside k) = codes "HeaderOutside"
image_name (image.Dynamic k) = codes "Dynamic"
image_name (image.SegmentOutside k) = codes "SegmentOutside"
image_name (image.AddressWraps k) = codes "AddressWraps"
image_name (image.SegmentsOverlap a k) = codes "SegmentsOverlap"
image_name image.NoSegments = codes "NoSegments"
image_name (image.TooMuchCode n) = codes "TooMuchCode"
image_name (image.TooManyItems n) = codes "TooManyItems"
image_name (image.BadEntry a) = codes "BadEntry"
image_name image.NoMemory = codes "NoMemory"

abbrev pub image_numbers : ImageRefusal → List ℕ
image_numbers (image.TooManyHeaders n) = n ∷ []
image_numbers (image.HeaderOutside k) = k ∷ []
image_numbers (image.Dynamic k) = k ∷ []
image_numbers (image.SegmentOutside k) = k ∷ []
image_numbers (image.AddressWraps k) = k ∷ []
image_numbers (image.SegmentsOverlap a k) = a ∷ k ∷ []
image_numbers (image.TooMuchCode n) = n ∷ []
image_numbers (image.TooManyItems n) = n ∷ []
image_numbers (image.BadEntry a) = a ∷ []
image_numbers _ = []

abbrev pub image_line : ImageRefusal → List ℕ
image_line r = image_fault (image_name r) (image_numbers r)

abbrev pub build_line : BuildRefusal → List ℕ
build_line (build.TooManyItems n) = image_fault (codes "TooManyItems") (n ∷ [])
build_line (build.StackOverlap hart header) = image_fault (codes "StackOverlap") (hart ∷ header ∷ [])
build_line (build.NoPlace i) = image_fault (codes "NoPlace") (i ∷ [])
build_line build.NoMemory = image_fault (codes "NoMemory") []

abbrev pub tree_line : TreeRefusal → List ℕ
tree_line tree.TooLong = tree_fault (codes "TooLong") []
tree_line tree.NotToml = tree_fault (codes "NotToml") []
tree_line (tree.UnknownKey key) = unknown_key_fault key
tree_line (tree.MissingKey k) = tree_key_fault (codes "MissingKey") (key_name k)
tree_line (tree.WrongType k) = tree_key_fault (codes "WrongType") (key_name k)
tree_line (tree.BadShape p) = tree_fault (codes "BadShape") (p ∷ [])
tree_line tree.Uneven = tree_fault (codes "Uneven") []
tree_line tree.TooDeep = tree_fault (codes "TooDeep") []
tree_line tree.TooWide = tree_fault (codes "TooWide") []
tree_line tree.TooManyLeaves = tree_fault (codes "TooManyLeaves") []
tree_line (tree.OutOfRange k) = tree_key_fault (codes "OutOfRange") (key_name k)
tree_line tree.NoMemory = tree_fault (codes "NoMemory") []

-- of a witness; that it has no start is said of the image
abbrev pub witness_line : CheckRefusal → List ℕ
witness_line check.TooLong = witness_fault (codes "TooLong")
witness_line (check.BadLine n) = witness_line_fault n (codes "BadLine")
witness_line (check.TooManyLines n) = witness_line_fault n (codes "TooManyLines")
witness_line (check.NotLegal n) = witness_line_fault n (codes "NotLegal")
witness_line (check.TooManyItems n) = build_line (build.TooManyItems n)
witness_line (check.StackOverlap hart header) = build_line (build.StackOverlap hart header)
witness_line check.NoMemory = witness_fault (codes "NoMemory")

-- of a checkpoint
abbrev pub checkpoint_line : ResumeRefusal → List ℕ
checkpoint_line resume.TooLong = checkpoint_fault (codes "TooLong") []
checkpoint_line resume.NotCheckpoint = checkpoint_fault (codes "NotCheckpoint") []
checkpoint_line (resume.WrongVersion n) = checkpoint_fault (codes "WrongVersion") (n ∷ [])
checkpoint_line (resume.Cut k) = checkpoint_fault (codes "Cut") (k ∷ [])
checkpoint_line (resume.OtherMachine k) = checkpoint_fault (codes "OtherMachine") (k ∷ [])
checkpoint_line (resume.BadWord k) = checkpoint_fault (codes "BadWord") (k ∷ [])
checkpoint_line resume.AfterEnd = checkpoint_fault (codes "AfterEnd") []
checkpoint_line (resume.BrokenLeaf leaf) = checkpoint_fault (codes "BrokenLeaf") (leaf ∷ [])
checkpoint_line (resume.BrokenRule bus item) = checkpoint_fault (codes "BrokenRule") (bus ∷ item ∷ [])
checkpoint_line (resume.BrokenStamp bus) = checkpoint_fault (codes "BrokenStamp") (bus ∷ [])
checkpoint_line (resume.BrokenKey op) = checkpoint_fault (codes "BrokenKey") (op ∷ [])
checkpoint_line resume.NoMemory = checkpoint_fault (codes "NoMemory") []

-- of lists that are too small, by the key of the first
abbrev pub small_lists_line : TreeKey → List ℕ
small_lists_line k = codes "ddm: small lists: " ++ key_name k ++ codes "\n"

-- ---- the line of an unknown key in two parts, since a key may be as long as its file

-- the whole line, but of an unknown key what is before it
abbrev pub tree_line_head : TreeRefusal → List ℕ
tree_line_head (tree.UnknownKey key) = codes "ddm: tree: unknown key "
tree_line_head r = tree_line r

-- an unknown key and the end of its line
abbrev pub tree_line_rest : TreeRefusal → List ℕ
tree_line_rest (tree.UnknownKey key) = shown_key key ++ codes "\n"
tree_line_rest r = []
