-- The fault lines of litmus tests: each refusal by its name, and by its line or its number.
use Rattle.std.specs.Prelude.{ℕ, List, ◌++◌, codes, decimal}
use Rattle.ddm_words.specs.LitmusModel.declared.refusal.Fault.{Fault}
use Rattle.ddm_words.specs.LitmusModel.declared.refusal.Fault.TheVariants as fault
use Rattle.ddm_words.specs.LitmusModel.declared.refusal.TestRefusal.{TestRefusal}
use Rattle.ddm_words.specs.LitmusModel.declared.refusal.TestRefusal.TheVariants.{TooLong, InLine, TooManyObserved, TooManyLocations}
use Rattle.ddm_words.specs.LitmusModel.declared.refusal.ImageRefusal.{ImageRefusal}
use Rattle.ddm_words.specs.LitmusModel.declared.refusal.ImageRefusal.TheVariants.{TooManyThreads, OtherPlaces, NoLeaf}
use Rattle.ddm_words.specs.LitmusFiles.declared.assembling.FileRefusal.{FileRefusal}
use Rattle.ddm_words.specs.LitmusFiles.declared.assembling.FileRefusal.TheVariants.{Test, Image}

abbrev pub fault_name : Fault → List ℕ
fault_name fault.OpenComment = codes "open comment"
fault_name fault.OtherArchitecture = codes "other architecture"
fault_name fault.BadName = codes "bad name"
fault_name fault.NoInit = codes "no init"
fault_name fault.BadByte = codes "bad byte"
fault_name fault.LongWord = codes "long word"
fault_name fault.OpenInit = codes "open init"
fault_name fault.NoCondition = codes "no condition"
fault_name fault.OpenRow = codes "open row"
fault_name fault.NoThreads = codes "no threads"
fault_name fault.TooManyRows = codes "too many rows"
fault_name fault.BadRow = codes "bad row"
fault_name fault.BadOperands = codes "bad operands"
fault_name fault.BadNumber = codes "bad number"
fault_name fault.SixtyFourBits = codes "sixty four bits"
fault_name fault.UnknownInstruction = codes "unknown instruction"
fault_name fault.SameLabel = codes "same label"
fault_name fault.NoLabel = codes "no label"
fault_name fault.UnsupportedType = codes "unsupported type"
fault_name fault.NoThread = codes "no thread"
fault_name fault.BadRegister = codes "bad register"
fault_name fault.BadInit = codes "bad init"
fault_name fault.Twice = codes "twice"
fault_name fault.BadLocations = codes "bad locations"
fault_name fault.Filter = codes "filter"
fault_name fault.BadCondition = codes "bad condition"

abbrev pub in_line : ℕ → List ℕ → List ℕ
in_line line words = codes "ddm: litmus line " ++ decimal line ++ codes ": " ++ words ++ codes "\n"

abbrev pub numbered : List ℕ → ℕ → List ℕ
numbered words n = codes "ddm: litmus: " ++ words ++ codes " " ++ decimal n ++ codes "\n"

abbrev pub test_line : TestRefusal → List ℕ
test_line TooLong = codes "ddm: litmus: too long\n"
test_line (InLine line fault) = in_line line (fault_name fault)
test_line (TooManyObserved n) = numbered (codes "too many observed") n
test_line (TooManyLocations n) = numbered (codes "too many locations") n

abbrev pub unplaced_line : ImageRefusal → List ℕ
unplaced_line (TooManyThreads n) = numbered (codes "too many threads") n
unplaced_line (OtherPlaces n) = numbered (codes "other places") n
unplaced_line (NoLeaf n) = numbered (codes "no leaf") n

abbrev pub litmus_line : FileRefusal → List ℕ
litmus_line (Test r) = test_line r
litmus_line (Image r) = unplaced_line r

abbrev pub unread_test_line : List ℕ
unread_test_line = codes "ddm: cannot read the test\n"
