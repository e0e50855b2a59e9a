use Rattle.std.proofs.Common.{◌≡◌, ◌<◌, flat_map, length, slice_index, refl, sym, ap, ◌∙◌, arith, rules}
use Rattle.std.specs.List.{range_with_len}
use Rattle.std.proofs.lemmas.List.FromFn.{length-range_with_len}
use Rattle.film.specs.TreeModel.State.Shape.{tree_counts}
use Rattle.film.specs.FilmModel.Still.{bus_parts}
use Rattle.film.proofs.EachBus.{bus_given, buses_counted, dir_form_of, known_bus, range_next, read_over}
use Rattle.film.proofs.EachLeaf.{machine_ok, some_same, told_last, told_next, width_is}
use Rattle.film.proofs.stills.add_buses.Goals as goal

pub add_bus-requires : goal.add_bus-requires
add_bus-requires g c =
    let m = c.args.machine.now.machine in
    let shaped = c.counts-bus-end.ensures.shape in
    let buses = ap (λ n. n.buses) c.counts-bus-end.ensures.counts in
    let bus = c.buses.bus in
    let below : bus < (tree_counts m).buses = omega (arith, buses, c.buses-test.true) in
    let there = known_bus bus _ m (c.requires.known bus (omega (arith, below, c.requires.counted))) in
    let given = bus_given c.requires.most bus m shaped (machine_ok m c.counts-bus-end.ensures.rules) c.requires.form there in
    let level : given.d.level ≡ slice_index c.args.levels.now bus =
    some_same (sym (read_over (λ d ns. d.level) 0 bus m given.d given.ns given.over) ∙ c.requires.known bus (omega (arith, below, c.requires.counted)))
    in
    let high = given.filmed.high in
    let few = given.filmed.few in
    (search rules, (there, (omega (arith, level, high), λ count is. (let same : length given.ns ≡ count = some_same (sym (read_over (λ d ns. length ns) 0 bus m given.d given.ns given.over) ∙ is) in omega (arith, same, few)))))

pub buses-init : goal.buses-init
buses-init g c = refl

pub buses-preserved : goal.buses-preserved
buses-preserved g c =
    let m = c.args.machine.now.machine in
    let shaped = c.counts-bus-end.ensures.shape in
    let buses = ap (λ n. n.buses) c.counts-bus-end.ensures.counts in
    let bus = c.buses.bus in
    let below : bus < (tree_counts m).buses = omega (arith, buses, c.buses-test.true) in
    let given = bus_given c.requires.most bus m shaped (machine_ok m c.counts-bus-end.ensures.rules) c.requires.form (known_bus bus _ m (c.requires.known bus (omega (arith, below, c.requires.counted)))) in
    let level : given.d.level ≡ slice_index c.args.levels.now bus =
    some_same (sym (read_over (λ d ns. d.level) 0 bus m given.d given.ns given.over) ∙ c.requires.known bus (omega (arith, below, c.requires.counted)))
    in
    let form = dir_form_of (width_is m.items.size m.top.sizes.width c.sizes-width.result.item_words (ap (λ z. z.item_words) c.sizes-width.ensures) c.requires.width) given.filmed in
    told_next (bus_parts m) (range_with_len 0 (length m.traffic)) bus bus c.args.still.now (flat_map (bus_parts m) (range_with_len 0 (length m.traffic))) c.buses.still _
    (range_next (length m.traffic) bus (omega (arith, below, buses_counted m shaped))) c.buses.invariant
    (c.in_ok-add_bus.ensures given.d given.ns c.requires.most given.over given.number level given.filmed.items form given.plain)

pub returns : goal.returns
returns g c =
    let m = c.args.machine.now.machine in
    let shaped = c.counts-bus-end.ensures.shape in
    let buses = ap (λ n. n.buses) c.counts-bus-end.ensures.counts in
    told_last (bus_parts m) (range_with_len 0 (length m.traffic)) c.buses.bus c.args.still.now (flat_map (bus_parts m) (range_with_len 0 (length m.traffic))) c.buses.still
    (omega (arith, buses, buses_counted m shaped, length-range_with_len 0 (length m.traffic), c.buses-test.false)) c.buses.invariant
