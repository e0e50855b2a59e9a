-- Reports and lines of traces have no markup.
use Rattle.std.proofs.Common.{ℕ, ◌+◌, ◌*◌, Bool, true, false, cond, nat_eq, List, [], ◌∷◌, ◌++◌, drop, take, Option, Some, None, decimal, refl}
use Rattle.std.specs.Prelude.{codes}
use Rattle.film_model.specs.DdmText.Hex.{hex8}
use Rattle.film_model.specs.DdmTypes.declared.operations.HaltCause.{HaltCause}
use Rattle.film_model.specs.DdmTypes.declared.operations.Effect.{Effect}
use Rattle.film_model.specs.DdmTypes.declared.operations.Op.{Op}
use Rattle.film_model.specs.DdmTypes.declared.answers.TxKind.{TxKind}
use Rattle.film_model.specs.DdmTypes.declared.answers.PendingWhy.{PendingWhy}
use Rattle.film_model.specs.DdmTypes.declared.answers.QueueName.{QueueName}
use Rattle.film_model.specs.DdmTypes.declared.answers.BusyCause.{BusyCause}
use Rattle.film_model.specs.DdmTypes.declared.answers.Place.{Place}
use Rattle.film_model.specs.DdmTypes.declared.answers.LogEntry.{LogEntry}
use Rattle.film_model.specs.DdmTypes.declared.answers.TurnAnswer.{TurnAnswer}
use Rattle.film_model.specs.DdmTypes.declared.keys.Key.{Key}
use Rattle.film_model.specs.DdmTypes.declared.sizes.LeafState.{LeafState}
use Rattle.film_model.specs.DdmTypes.declared.turns.Turn.{Turn}
use Rattle.film_model.specs.TreeModel.declared.CopyPlace.{CopyPlace}
use Rattle.film_model.specs.TreeModel.declared.Traffic.{Traffic}
use Rattle.text_model.specs.Words.{effect_text, halt_text, state_text, kind_text, place_text, why_text, queue_text, busy_text, entry_text, answer_text}
use Rattle.text_model.specs.Schedule.{turn_text}
use Rattle.text_model.specs.Trace.{trace_line}
use Rattle.text_model.specs.Report.{turns_line, head_lines, word_texts, hart_line, regs_line, put_text, put_text_by, put_texts, or_dash, out_line, HartView, hart_lines, bus_line, bus_lines_from, copy_place_text, letter_text, letter_texts, ItemView, item_line, item_lines, level_numbers, number_stops, key_text, op_line, op_lines, ReportView, report_of}
use Rattle.text_model.specs.declared.RunCounts.{RunCounts}
use Rattle.film_model.proofs.Markup.{Unmarked, text, nothing, ◌▹◌, each, number, two_digits, eight_digits}

-- ---- words

pub space : Unmarked (codes " ")
space = text (codes " ") refl

pub line_feed : Unmarked (codes "\n")
line_feed = text (codes "\n") refl

effect : (e : Effect) → Unmarked (effect_text e)
unfolding effect_text
effect Effect.Plain = text (codes "plain") refl
effect (Effect.Put byte) = text (codes "put ") refl ▹ two_digits byte
effect (Effect.Load address word) = text (codes "load ") refl ▹ eight_digits address ▹ space ▹ eight_digits word
effect (Effect.Store address before after) = text (codes "store ") refl ▹ eight_digits address ▹ space ▹ eight_digits before ▹ space ▹ eight_digits after
effect (Effect.Lr address word) = text (codes "lr ") refl ▹ eight_digits address ▹ space ▹ eight_digits word
effect (Effect.ScOk address before after) = text (codes "scok ") refl ▹ eight_digits address ▹ space ▹ eight_digits before ▹ space ▹ eight_digits after
effect (Effect.ScFail address) = text (codes "scfail ") refl ▹ eight_digits address
effect (Effect.Amo address before after) = text (codes "amo ") refl ▹ eight_digits address ▹ space ▹ eight_digits before ▹ space ▹ eight_digits after

pub halt : (cause : HaltCause) → Unmarked (halt_text cause)
unfolding halt_text
halt (HaltCause.Exit code) = text (codes "exit ") refl ▹ number code
halt (HaltCause.Illegal word) = text (codes "illegal ") refl ▹ eight_digits word
halt HaltCause.Breakpoint = text (codes "break") refl
halt (HaltCause.UnknownCall n) = text (codes "call ") refl ▹ number n
halt (HaltCause.MisalignedTarget address) = text (codes "badtarget ") refl ▹ eight_digits address
halt (HaltCause.FetchOutside address) = text (codes "nofetch ") refl ▹ eight_digits address
halt (HaltCause.MisalignedAccess address) = text (codes "misaligned ") refl ▹ eight_digits address
halt (HaltCause.LoadOutside address) = text (codes "noload ") refl ▹ eight_digits address
halt (HaltCause.StoreOutside address) = text (codes "nostore ") refl ▹ eight_digits address

state : (cause : Option HaltCause) → Unmarked (state_text cause)
unfolding state_text
state None = text (codes "running") refl
state (Some cause) = halt cause

pub kind : (k : TxKind) → Unmarked (kind_text k)
unfolding kind_text
kind TxKind.ReadTx = text (codes "read") refl
kind TxKind.DataTx = text (codes "data") refl
kind TxKind.EraseTx = text (codes "erase") refl
kind TxKind.ExclusiveTx = text (codes "exclusive") refl
kind TxKind.InjectTx = text (codes "inject") refl
kind TxKind.OutTx = text (codes "out") refl

place : (p : Place) → Unmarked (place_text p)
unfolding place_text
place Place.Parent = text (codes "parent") refl
place (Place.Child child) = text (codes "child ") refl ▹ number child
place Place.Parking = text (codes "parking") refl
place Place.All = text (codes "all") refl
place Place.Gone = text (codes "gone") refl
place Place.Joined = text (codes "joined") refl
place Place.Readers = text (codes "readers") refl

why : (w : PendingWhy) → Unmarked (why_text w)
unfolding why_text
why (PendingWhy.Local child) = text (codes "local ") refl ▹ number child
why (PendingWhy.UpRead child) = text (codes "upread ") refl ▹ number child
why (PendingWhy.UpErase child) = text (codes "uperase ") refl ▹ number child
why PendingWhy.Answering = text (codes "answering") refl
why PendingWhy.InDown = text (codes "down") refl

queue : (q : QueueName) → Unmarked (queue_text q)
unfolding queue_text
queue (QueueName.Down bus) = text (codes "down ") refl ▹ number bus
queue (QueueName.Requests bus) = text (codes "requests ") refl ▹ number bus
queue (QueueName.Replies bus) = text (codes "replies ") refl ▹ number bus
queue (QueueName.LeafReplies leaf) = text (codes "leafreplies ") refl ▹ number leaf

busy : (cause : BusyCause) → Unmarked (busy_text cause)
unfolding busy_text
busy (BusyCause.ItemPending bus item w) = text (codes "item ") refl ▹ number bus ▹ space ▹ number item ▹ space ▹ why w
busy (BusyCause.QueueFull name) = text (codes "queue ") refl ▹ queue name
busy (BusyCause.BufferFull leaf) = text (codes "buffer ") refl ▹ number leaf
busy (BusyCause.ParkingFull bus) = text (codes "parking ") refl ▹ number bus
busy (BusyCause.NoRoom item) = text (codes "room ") refl ▹ number item

entry : (e : LogEntry) → Unmarked (entry_text e)
unfolding entry_text
entry e = kind e.kind ▹ space ▹ number e.item ▹ text (codes " from ") refl ▹ place e.source ▹ text (codes " to ") refl ▹ place e.taker

answer : (a : TurnAnswer) → Unmarked (answer_text a)
unfolding answer_text
answer (TurnAnswer.Retired op) = text (codes "retired ") refl ▹ effect op.effect
answer (TurnAnswer.Issued k item) = text (codes "issued ") refl ▹ kind k ▹ space ▹ number item
answer (TurnAnswer.Waiting item) = text (codes "waiting ") refl ▹ number item
answer (TurnAnswer.Halted cause) = text (codes "halted ") refl ▹ halt cause
answer (TurnAnswer.Granted e) = text (codes "granted ") refl ▹ entry e
answer TurnAnswer.Empty = text (codes "empty") refl
answer (TurnAnswer.Busy cause) = text (codes "busy ") refl ▹ busy cause

turn : (t : Turn) → Unmarked (turn_text t)
unfolding turn_text
turn (Turn.Hart hart victim) = text (codes "h ") refl ▹ number hart ▹ space ▹ number victim
turn (Turn.Down bus) = text (codes "g ") refl ▹ number bus ▹ text (codes " d") refl
turn (Turn.Request bus child) = text (codes "g ") refl ▹ number bus ▹ text (codes " q ") refl ▹ number child
turn (Turn.Reply bus child) = text (codes "g ") refl ▹ number bus ▹ text (codes " r ") refl ▹ number child
turn (Turn.Leave bus child choice) = text (codes "g ") refl ▹ number bus ▹ text (codes " l ") refl ▹ number child ▹ space ▹ number choice

pub trace : (n : ℕ) (t : Turn) (a : TurnAnswer) → Unmarked (trace_line n t a)
unfolding trace_line
trace n t a = text (codes "t ") refl ▹ number n ▹ space ▹ turn t ▹ space ▹ answer a ▹ line_feed

-- ---- a report

pub words : (ws : List ℕ) → Unmarked (word_texts ws)
unfolding word_texts
words ws = each (λ word. codes " " ++ hex8 word) ws (λ word. space ▹ eight_digits word)

counted : (c : RunCounts) → Unmarked (turns_line c)
unfolding turns_line
counted c =
    text (codes "turns ") refl ▹ number c.turns ▹ text (codes " retired ") refl ▹ number c.retired ▹ text (codes " granted ") refl
    ▹ number c.granted ▹ text (codes " busy ") refl ▹ number c.busy ▹ line_feed

head : (c : RunCounts) → Unmarked (head_lines c)
unfolding head_lines
head c = text (codes "ddm 1\n") refl ▹ counted c

hart_state : (n : ℕ) (cause : Option HaltCause) (pc done : ℕ) → Unmarked (hart_line n cause pc done)
unfolding hart_line
hart_state n cause pc done =
    text (codes "hart ") refl ▹ number n ▹ space ▹ state cause ▹ text (codes " pc ") refl ▹ eight_digits pc
    ▹ text (codes " done ") refl ▹ number done ▹ line_feed

registers : (n : ℕ) (ws : List ℕ) → Unmarked (regs_line n ws)
unfolding regs_line
registers n ws = text (codes "regs ") refl ▹ number n ▹ words (drop 1 ws) ▹ line_feed

put : (e : Effect) → Unmarked (put_text e)
put Effect.Plain = nothing
put (Effect.Put byte) = two_digits byte
put (Effect.Load address word) = nothing
put (Effect.Store address before after) = nothing
put (Effect.Lr address word) = nothing
put (Effect.ScOk address before after) = nothing
put (Effect.ScFail address) = nothing
put (Effect.Amo address before after) = nothing

put_if : (own : Bool) (e : Effect) → Unmarked (cond own (put_text e) [])
put_if true e = put e
put_if false e = nothing

output : (n : ℕ) (ops : List Op) → Unmarked (put_texts n ops)
unfolding put_texts
output n ops = each (put_text_by n) ops (λ op. put_if (nat_eq op.hart n) op.effect)

dashed : (t : List ℕ) → Unmarked t → Unmarked (or_dash t)
dashed [] plain = text (codes "-") refl
dashed (byte ∷ bytes) plain = plain

out : (n : ℕ) (ops : List Op) → Unmarked (out_line n ops)
unfolding out_line
out n ops = text (codes "out ") refl ▹ number n ▹ space ▹ dashed (put_texts n ops) (output n ops) ▹ line_feed

hart : (ops : List Op) (v : HartView) → Unmarked (hart_lines ops v)
unfolding hart_lines
hart ops v = hart_state v.number v.hart.halt v.hart.pc v.done ▹ registers v.number v.hart.registers ▹ out v.number ops

bus : (n : ℕ) (t : Traffic) → Unmarked (bus_line n t)
unfolding bus_line
bus n t =
    text (codes "bus ") refl ▹ number n ▹ text (codes " read ") refl ▹ number t.reads ▹ text (codes " data ") refl ▹ number t.copies
    ▹ text (codes " erase ") refl ▹ number t.erases ▹ text (codes " exclusive ") refl ▹ number t.exclusives
    ▹ text (codes " out ") refl ▹ number t.outs ▹ text (codes " inject ") refl ▹ number t.injects ▹ line_feed

buses : (n : ℕ) (ts : List Traffic) → Unmarked (bus_lines_from n ts)
unfolding bus_lines_from
buses n [] = nothing
buses n (t ∷ ts) = bus n t ▹ buses (n + 1) ts

copy_place : (p : CopyPlace) → Unmarked (copy_place_text p)
unfolding copy_place_text
copy_place (CopyPlace.LeafWay leaf way) = text (codes "leaf ") refl ▹ number leaf ▹ text (codes " way ") refl ▹ number way
copy_place (CopyPlace.LeafBuffer leaf at) = text (codes "leaf ") refl ▹ number leaf ▹ text (codes " buffer ") refl ▹ number at
copy_place (CopyPlace.Parking b at) = text (codes "bus ") refl ▹ number b ▹ text (codes " parking ") refl ▹ number at
copy_place (CopyPlace.DownList b at) = text (codes "bus ") refl ▹ number b ▹ text (codes " down ") refl ▹ number at

pub letter : (s : Option LeafState) → Unmarked (letter_text s)
unfolding letter_text
letter None = text (codes "-") refl
letter (Some LeafState.Shared) = text (codes "S") refl
letter (Some LeafState.Exclusive) = text (codes "E") refl
letter (Some LeafState.Reading) = text (codes "R") refl
letter (Some LeafState.Waiting) = text (codes "W") refl
letter (Some LeafState.ReadingWaiting) = text (codes "B") refl

letters : (ss : List (Option LeafState)) → Unmarked (letter_texts ss)
unfolding letter_texts
letters ss = each letter_text ss letter

item : (i : ItemView) → Unmarked (item_line i)
unfolding item_line
item i =
    text (codes "item ") refl ▹ number i.number ▹ space ▹ eight_digits i.address ▹ words i.words ▹ space
    ▹ copy_place i.place ▹ space ▹ letters i.states ▹ line_feed

items : (is : List ItemView) → Unmarked (item_lines is)
unfolding item_lines
items is = each item_line is item

stops : (ns : List ℕ) → Unmarked (number_stops ns)
unfolding number_stops
stops ns = each (λ n. decimal n ++ codes ".") ns (λ n. number n ▹ text (codes ".") refl)

key : (depth : ℕ) (k : Key) → Unmarked (key_text depth k)
unfolding key_text
key depth k = stops (take (2 * depth) (level_numbers k)) ▹ number k.i

operation : (depth : ℕ) (op : Op) → Unmarked (op_line depth op)
unfolding op_line
operation depth op =
    text (codes "op ") refl ▹ number op.hart ▹ space ▹ key depth op.key ▹ space ▹ eight_digits op.pc ▹ space ▹ effect op.effect ▹ line_feed

operations : (depth : ℕ) (ops : List Op) → Unmarked (op_lines depth ops)
unfolding op_lines
operations depth ops = each (op_line depth) ops (operation depth)

pub report : (v : ReportView) → Unmarked (report_of v)
unfolding report_of
report v =
    head v.counts ▹ each (hart_lines v.completed) v.harts (hart v.completed) ▹ buses 0 v.traffic
    ▹ items v.items ▹ operations v.depth v.ops ▹ text (codes "end\n") refl
