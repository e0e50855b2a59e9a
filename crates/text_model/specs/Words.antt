-- The words of an answer and of a report: what an instruction did, how a hart stands, what a turn answered.
use Rattle.std.specs.Prelude.{ℕ, List, ◌++◌, Option, Some, None, codes, decimal}
use Rattle.ddm_text.specs.Hex.{hex2, hex8}
use Rattle.text_model.specs.DdmTypes.declared.operations.HaltCause.{HaltCause}
use Rattle.text_model.specs.DdmTypes.declared.operations.HaltCause.TheVariants.{Exit, Illegal, Breakpoint}
use Rattle.text_model.specs.DdmTypes.declared.operations.HaltCause.TheVariants.{UnknownCall, MisalignedTarget}
use Rattle.text_model.specs.DdmTypes.declared.operations.HaltCause.TheVariants.{FetchOutside, MisalignedAccess}
use Rattle.text_model.specs.DdmTypes.declared.operations.HaltCause.TheVariants.{LoadOutside, StoreOutside}
use Rattle.text_model.specs.DdmTypes.declared.operations.Effect.{Effect}
use Rattle.text_model.specs.DdmTypes.declared.operations.Effect.TheVariants.{Plain, Put, Load, Store, Lr, ScOk, ScFail, Amo}
use Rattle.text_model.specs.DdmTypes.declared.answers.TxKind.{TxKind}
use Rattle.text_model.specs.DdmTypes.declared.answers.TxKind.TheVariants.{ReadTx, DataTx, EraseTx, ExclusiveTx, InjectTx, OutTx}
use Rattle.text_model.specs.DdmTypes.declared.answers.PendingWhy.{PendingWhy}
use Rattle.text_model.specs.DdmTypes.declared.answers.PendingWhy.TheVariants.{Local, UpRead, UpErase, Answering, InDown}
use Rattle.text_model.specs.DdmTypes.declared.answers.QueueName.{QueueName}
use Rattle.text_model.specs.DdmTypes.declared.answers.QueueName.TheVariants.{Down, Requests, Replies, LeafReplies}
use Rattle.text_model.specs.DdmTypes.declared.answers.BusyCause.{BusyCause}
use Rattle.text_model.specs.DdmTypes.declared.answers.BusyCause.TheVariants.{ItemPending, QueueFull, BufferFull, ParkingFull, NoRoom}
use Rattle.text_model.specs.DdmTypes.declared.answers.Place.{Place}
use Rattle.text_model.specs.DdmTypes.declared.answers.Place.TheVariants.{Parent, Child, Parking, All, Gone, Joined, Readers}
use Rattle.text_model.specs.DdmTypes.declared.answers.LogEntry.{LogEntry}
use Rattle.text_model.specs.DdmTypes.declared.answers.TurnAnswer.{TurnAnswer}
use Rattle.text_model.specs.DdmTypes.declared.answers.TurnAnswer.TheVariants.{Retired, Issued, Waiting, Halted, Granted, Empty, Busy}

-- what an instruction did
unfoldable pub effect_text : Effect → List ℕ
effect_text Plain = codes "plain"
effect_text (Put byte) = codes "put " ++ hex2 byte
effect_text (Load address word) = codes "load " ++ hex8 address ++ codes " " ++ hex8 word
effect_text (Store address before after) = codes "store " ++ hex8 address ++ codes " " ++ hex8 before ++ codes " " ++ hex8 after
effect_text (Lr address word) = codes "lr " ++ hex8 address ++ codes " " ++ hex8 word
effect_text (ScOk address before after) = codes "scok " ++ hex8 address ++ codes " " ++ hex8 before ++ codes " " ++ hex8 after
effect_text (ScFail address) = codes "scfail " ++ hex8 address
effect_text (Amo address before after) = codes "amo " ++ hex8 address ++ codes " " ++ hex8 before ++ codes " " ++ hex8 after

-- why a hart stopped for good
unfoldable pub halt_text : HaltCause → List ℕ
halt_text (Exit code) = codes "exit " ++ decimal code
halt_text (Illegal word) = codes "illegal " ++ hex8 word
halt_text Breakpoint = codes "break"
halt_text (UnknownCall number) = codes "call " ++ decimal number
halt_text (MisalignedTarget address) = codes "badtarget " ++ hex8 address
halt_text (FetchOutside address) = codes "nofetch " ++ hex8 address
halt_text (MisalignedAccess address) = codes "misaligned " ++ hex8 address
halt_text (LoadOutside address) = codes "noload " ++ hex8 address
halt_text (StoreOutside address) = codes "nostore " ++ hex8 address

-- how a hart stands
unfoldable pub state_text : Option HaltCause → List ℕ
state_text None = codes "running"
state_text (Some cause) = halt_text cause

-- a kind of transaction
unfoldable pub kind_text : TxKind → List ℕ
kind_text ReadTx = codes "read"
kind_text DataTx = codes "data"
kind_text EraseTx = codes "erase"
kind_text ExclusiveTx = codes "exclusive"
kind_text InjectTx = codes "inject"
kind_text OutTx = codes "out"

-- where a granted transaction came from or went to
unfoldable pub place_text : Place → List ℕ
place_text Parent = codes "parent"
place_text (Child child) = codes "child " ++ decimal child
place_text Parking = codes "parking"
place_text All = codes "all"
place_text Gone = codes "gone"
place_text Joined = codes "joined"
place_text Readers = codes "readers"

-- why an item is pending
unfoldable pub why_text : PendingWhy → List ℕ
why_text (Local child) = codes "local " ++ decimal child
why_text (UpRead child) = codes "upread " ++ decimal child
why_text (UpErase child) = codes "uperase " ++ decimal child
why_text Answering = codes "answering"
why_text InDown = codes "down"

-- the name of a list
unfoldable pub queue_text : QueueName → List ℕ
queue_text (Down bus) = codes "down " ++ decimal bus
queue_text (Requests bus) = codes "requests " ++ decimal bus
queue_text (Replies bus) = codes "replies " ++ decimal bus
queue_text (LeafReplies leaf) = codes "leafreplies " ++ decimal leaf

-- why a turn changed nothing
unfoldable pub busy_text : BusyCause → List ℕ
busy_text (ItemPending bus item why) = codes "item " ++ decimal bus ++ codes " " ++ decimal item ++ codes " " ++ why_text why
busy_text (QueueFull name) = codes "queue " ++ queue_text name
busy_text (BufferFull leaf) = codes "buffer " ++ decimal leaf
busy_text (ParkingFull bus) = codes "parking " ++ decimal bus
busy_text (NoRoom item) = codes "room " ++ decimal item

-- a granted transaction
unfoldable pub entry_text : LogEntry → List ℕ
entry_text entry =
    kind_text entry.kind ++ codes " " ++ decimal entry.item ++ codes " from " ++ place_text entry.source
    ++ codes " to " ++ place_text entry.taker

-- what a turn answered
unfoldable pub answer_text : TurnAnswer → List ℕ
answer_text (Retired op) = codes "retired " ++ effect_text op.effect
answer_text (Issued kind item) = codes "issued " ++ kind_text kind ++ codes " " ++ decimal item
answer_text (Waiting item) = codes "waiting " ++ decimal item
answer_text (Halted cause) = codes "halted " ++ halt_text cause
answer_text (Granted entry) = codes "granted " ++ entry_text entry
answer_text Empty = codes "empty"
answer_text (Busy cause) = codes "busy " ++ busy_text cause
