use Rattle.std.proofs.Common.{rules, ◌≡◌, ◌<◌, ◌≤◌, ap, ◌∙◌, arith, lit<, Err}
use Rattle.ddm_tree.specs.TreeModel.Turns.Tree.{bus_of_number}
use Rattle.state_judging.proofs.BusNumbers.{numbered-bus}
use Rattle.ddm_tree.proofs.BusesRead.{buses-begun, buses-counted, buses-done, buses-more, buses-refused, same-part}
use Rattle.ddm_tree.proofs.parts.Parts.read_buses.Goals as goal

pub loop-bus-init : goal.loop-bus-init
loop-bus-init g c = record { so_far = buses-begun c.args.words.now c.args.from c.args.self; inside = c.requires.inside }

pub read_bus-requires : goal.read_bus-requires
read_bus-requires g c =
    let counts = ap (λ t. t.buses) c.counts-buses.ensures.counts in
    let below : c.loop-bus.bus < c.counts-buses.result.buses = omega arith in
    let there = numbered-bus c.args.self c.loop-bus.bus c.counts-buses.ensures.readable.shaped (omega (arith, below, counts)) in
    (lit< tt, (c.requires.few, (c.loop-bus.invariant.inside, same-part (bus_of_number c.loop-bus.bus) c.args.self c.loop-bus.parts c.loop-bus.invariant.so_far.frame there)))

pub returns-in_err-next-clause-refused : goal.returns-in_err-next-clause-refused
returns-in_err-next-clause-refused g c =
    let e = c.in_err-next.field-0.0 in
    let is : c.from_residual.result ≡ Err e = search rules in
    let readable = c.counts-buses.ensures.readable in
    let counts = ap (λ t. t.buses) c.counts-buses.ensures.counts ∙ buses-counted c.args.self readable.shaped in
    let below : c.loop-bus.bus < c.counts-buses.result.buses = omega arith in
    rw is (buses-refused c.args.words.now c.args.from c.args.self c.loop-bus.parts c.loop-bus.bus c.loop-bus.at c.loop-bus.invariant.so_far readable c.counts-buses.ensures.rooms (omega (arith, below, counts)) e c.in_err-next.ensures.refused)

pub loop-bus-preserved : goal.loop-bus-preserved
loop-bus-preserved g c =
    let readable = c.counts-buses.ensures.readable in
    let counts = ap (λ t. t.buses) c.counts-buses.ensures.counts ∙ buses-counted c.args.self readable.shaped in
    let below : c.loop-bus.bus < c.counts-buses.result.buses = omega arith in
    record {
      so_far = buses-more c.args.words.now c.args.from c.args.self c.loop-bus.parts c.loop-bus.bus c.loop-bus.at c.loop-bus.invariant.so_far readable c.counts-buses.ensures.rooms (omega (arith, below, counts)) c.in_ok-next.next c.in_ok-next.after c.in_ok-next.ensures.read c.in_ok-next.ensures.frame;
      inside = c.in_ok-next.ensures.inside;
    }

pub returns-clause-read : goal.returns-clause-read
returns-clause-read g c =
    let counts = ap (λ t. t.buses) c.counts-buses.ensures.counts ∙ buses-counted c.args.self c.counts-buses.ensures.readable.shaped in
    let all : c.counts-buses.result.buses ≤ c.loop-bus.bus = omega arith in
    buses-done c.args.words.now c.args.from c.args.self c.loop-bus.parts c.loop-bus.bus c.loop-bus.at c.loop-bus.invariant.so_far (omega (arith, all, counts))
