-- The tests of the rules of a bus by what is gathered of its parent. That they are the rules' own is a lemma (`by_facts`).
-- Letters: f is what is gathered of the parent, k are the bits of the bus.
-- Proofs alone need it.
use Rattle.std.specs.Prelude.{Bool, true, false, not, ◌&&◌, ◌||◌, Option, Some, None, is_some, if◌then◌else◌}
use Rattle.std.specs.Bool.{beq}
use Rattle.bus_judging.specs.DdmTypes.declared.answers.PendingWhy.{PendingWhy}
use Rattle.bus_judging.specs.TreeModel.State.States.{is_held, is_exclusive, is_shared}
use Rattle.tree_rules.specs.Bus.Item.{Bits, ItemRule, implies, one_of_three, answering_held, exclusive_alone}
use Rattle.tree_rules.specs.Bus.Item.{parked_alone, exclusive_covered, queue_in_order, queue_start, inject_covered}
use Rattle.tree_rules.specs.Bus.Item.{erased_shared, hold_follows, local_noted, up_read_noted, data_read}
use Rattle.tree_rules.specs.Bus.Item.{up_erase_noted, erase_end, reads_noted, erases_noted, granted_held}
use Rattle.tree_rules.specs.Bus.Item.{exclusive_noted, giver, givers_held, read_answered, asked_alone, one_request}
use Rattle.tree_rules.specs.Bus.Item.{request_open, request_noted}
use Rattle.bus_judging.specs.Queue.{QueueFacts}
use Rattle.bus_judging.specs.Parent.{ParentFacts, starts_with, ends_in_inject, held_behind}

abbrev pub notes_local : Option PendingWhy → Bool
notes_local (Some (PendingWhy.Local c)) = true
notes_local (Some (PendingWhy.UpRead c)) = false
notes_local (Some (PendingWhy.UpErase c)) = false
notes_local (Some PendingWhy.Answering) = false
notes_local (Some PendingWhy.InDown) = false
notes_local None = false

abbrev pub notes_read : Option PendingWhy → Bool
notes_read (Some (PendingWhy.Local c)) = false
notes_read (Some (PendingWhy.UpRead c)) = true
notes_read (Some (PendingWhy.UpErase c)) = false
notes_read (Some PendingWhy.Answering) = false
notes_read (Some PendingWhy.InDown) = false
notes_read None = false

abbrev pub notes_erase : Option PendingWhy → Bool
notes_erase (Some (PendingWhy.Local c)) = false
notes_erase (Some (PendingWhy.UpRead c)) = false
notes_erase (Some (PendingWhy.UpErase c)) = true
notes_erase (Some PendingWhy.Answering) = false
notes_erase (Some PendingWhy.InDown) = false
notes_erase None = false

abbrev pub any_comes : QueueFacts → Bool
any_comes q = is_some q.first

abbrev pub exclusive_is_due : ParentFacts → Bool
exclusive_is_due f = is_exclusive f.hold && f.queue.exclusives

abbrev pub erase_is_due : ParentFacts → Bool
erase_is_due f = is_shared f.hold && not (f.queue.exclusives || f.queue.erases)

abbrev pub is_asked : ParentFacts → Bool
is_asked f = f.answering && not f.queue.reads

-- what the bus above sees
abbrev pub granted_read : ParentFacts → Bool
granted_read f = notes_read f.note && (not (any_comes f.queue) && not f.requests.reads)

abbrev pub granted_erase : ParentFacts → Bool
granted_erase f = notes_erase f.note && (erase_is_due f && not f.requests.erases)

abbrev pub test_by_facts : ItemRule → ParentFacts → Bits → Bool
test_by_facts answering_held f k = implies f.answering (is_held f.hold)
test_by_facts exclusive_alone f k = implies k.exclusive k.sole
test_by_facts parked_alone f k = implies f.parked k.sole
test_by_facts exclusive_covered f k = implies k.exclusive (is_exclusive f.hold)
test_by_facts queue_in_order f k = f.queue.fits
test_by_facts queue_start f k = starts_with f.queue.first_move k.held
test_by_facts inject_covered f k = implies (ends_in_inject f.queue.last_move) (is_exclusive f.hold)
test_by_facts erased_shared f k = implies f.queue.erases (not k.exclusive)
test_by_facts hold_follows f k = beq (is_held f.hold) (held_behind f.queue.last_move k.held)
test_by_facts local_noted f k = implies (notes_local f.note) (k.readers && k.held)
test_by_facts up_read_noted f k = implies (notes_read f.note) (k.readers && not k.held)
test_by_facts data_read f k = implies f.queue.brings_data (notes_read f.note)
test_by_facts up_erase_noted f k = implies (notes_erase f.note) (k.eraser && k.sole)
test_by_facts erase_end f k = implies (notes_erase f.note) (one_of_three (exclusive_is_due f) f.queue.erases (erase_is_due f))
test_by_facts reads_noted f k = k.reads
test_by_facts erases_noted f k = k.erases
test_by_facts granted_held f k = k.granted
test_by_facts exclusive_noted f k = implies f.queue.exclusives (notes_erase f.note && is_exclusive f.hold)
test_by_facts giver f k = if notes_local f.note || is_asked f then k.one_gift else k.no_gift
test_by_facts givers_held f k = k.givers
test_by_facts read_answered f k = implies f.queue.reads f.answering
test_by_facts asked_alone f k = implies (is_asked f) (not (any_comes f.queue) && not (notes_local f.note))
test_by_facts one_request f k = f.requests.fits
test_by_facts request_open f k = implies f.requests.reads (notes_read f.note && not (any_comes f.queue))
test_by_facts request_noted f k = implies f.requests.erases (notes_erase f.note && erase_is_due f)

-- five rules of one item
abbrev pub five_by_facts : ParentFacts → Bits → ItemRule → ItemRule → ItemRule → ItemRule → ItemRule → Bool
five_by_facts f k a b c d e =
    (((test_by_facts a f k && test_by_facts b f k) && test_by_facts c f k) && test_by_facts d f k)
    && test_by_facts e f k
