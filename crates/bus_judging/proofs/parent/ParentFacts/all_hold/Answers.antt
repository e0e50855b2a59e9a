use Rattle.std.proofs.Common.{◌∙◌, ap, sym}
use Rattle.tree_rules.specs.Bus.Item.{answering_held, exclusive_alone, parked_alone, exclusive_covered, queue_in_order, queue_start, inject_covered, erased_shared, hold_follows, local_noted, up_read_noted, data_read, up_erase_noted, erase_end, reads_noted, erases_noted, granted_held, exclusive_noted, giver, givers_held, read_answered, asked_alone, one_request, request_open, request_noted}
use Rattle.bus_judging.specs.Tests.{five_by_facts}
use Rattle.bus_judging.proofs.Agree.{all_rules}
use Rattle.bus_judging.proofs.parent.ParentFacts.all_hold.Goals as goal

pub returns : goal.returns
returns c p is =
    let k = c.args.bits.now in
    let holders = c.holders_fit-holders.ensures ∙ ap (λ f. five_by_facts f k answering_held exclusive_alone parked_alone exclusive_covered queue_in_order) is in
    let queue = c.queue_fits-queue.ensures ∙ ap (λ f. five_by_facts f k queue_start inject_covered erased_shared hold_follows local_noted) is in
    let notes = c.notes_fit-notes.ensures ∙ ap (λ f. five_by_facts f k up_read_noted data_read up_erase_noted erase_end reads_noted) is in
    let gifts = c.gifts_fit-gifts.ensures ∙ ap (λ f. five_by_facts f k erases_noted granted_held exclusive_noted giver givers_held) is in
    let requests = c.requests_fit-requests.ensures ∙ ap (λ f. five_by_facts f k read_answered asked_alone one_request request_open request_noted) is in
    rw (holders, queue, notes, gifts, requests) (sym (all_rules p k))
