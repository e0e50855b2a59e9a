use Rattle.std.proofs.Common.{◌≡◌, ◌∙◌, ap, ◌<◌, length, arith}
use Rattle.circular_buffer.specs.Buffer.{buffer}
use Rattle.tx_queue.specs.Requests.{is_request, found_so_far}
use Rattle.tx_queue.proofs.Rounds.{turned_fits, turned_more, found_more}
use Rattle.tx_queue.proofs.requests.remove_first.Goals as goal

pub move_round-found-requires : goal.move_round-found-requires
move_round-found-requires c =
    let few = turned_fits (is_request c.args.kind c.args.item) c.args.ring.now.items c.turning._moved in
    omega (arith, few, c.requires, ap (λ b. length b.items) c.turning.invariant.1, ap (λ b. b.capacity) c.turning.invariant.1)

pub turning-preserved : goal.turning-preserved
turning-preserved c =
    let p = is_request c.args.kind c.args.item in
    let xs = c.args.ring.now.items in
    let within : c.turning._moved < length xs = omega (arith, c.len-moved-end.ensures.len, c.turning-test.true) in
    let found : c.move_round-found.result ≡ found_so_far p c.turning.found c.turning.ring.items = c.move_round-found.ensures.found in (
      rw (c.turning.invariant.0, c.turning.invariant.1) at found ∙ found_more p xs c.turning._moved within,
      rw (c.turning.invariant.0, c.turning.invariant.1) at c.move_round-found.ensures.rest ∙ ap (λ ys. buffer ys c.args.ring.now.capacity) (turned_more p xs c.turning._moved within),
    )
