use Rattle.std.proofs.Common.{◌≡◌, take}
use Rattle.std.specs.List.{list_any}
use Rattle.circular_buffer.specs.Buffer.{buffer}
use Rattle.tx_queue.specs.Requests.{is_request}
use Rattle.tx_queue.proofs.Rounds.{turned}
use Rattle.tx_queue.proofs.requests.remove_first.Given as goal

abbrev pub invariant-turning : goal.invariant-turning
invariant-turning l =
    let p = is_request l.kind l.item in
    (l.found ≡ list_any p (take l._moved l.initial.ring.items)) × (l.ring ≡ buffer (turned p l._moved l.initial.ring.items) l.initial.ring.capacity)
