use Rattle.std.proofs.Common.{◌≡◌, ◌<◌, ◌++◌, flat_map, length, sym, ap, subst, ◌∙◌, arith, rules, append-nil}
use Rattle.std.specs.List.{AllByRecursion, range_with_len}
use Rattle.tree_model.specs.State.Shape.{tree_counts}
use Rattle.state_words.specs.Parts.{dir_words, traffic_words}
use Rattle.state_words.specs.Machine.{bus_words, words_or_none}
use Rattle.any_runs.specs.DdmText.Adds.{alone}
use Rattle.state_judging.proofs.BusNumbers.{buses-counted, numbered-bus}
use Rattle.time_laws.specs.Forget.{forget, forget_dir}
use Rattle.timeless_words.specs.Struck.{IsWide}
use Rattle.tree_model.specs.Turns.Machine.{no_traffic}
use Rattle.machine_states.proofs.Loops.{flat-number}
use Rattle.machine_states.proofs.Forms.{dir-here, dir-asked, dir-wide}
use Rattle.machine_states.proofs.Timeless.{bus-timeless}
use Rattle.machine_states.proofs.parts.push_buses.Goals as goal

pub write_part-requires : goal.write_part-requires
write_part-requires g c =
    let buses = ap (λ n. n.buses) c.counts-bus-end.ensures.counts in
    let below : c.loop-bus.bus < (tree_counts c.args.machine.now.machine).buses = omega (arith, buses, c.loop-bus-test.true) in
    (search rules, numbered-bus c.args.machine.now.machine c.loop-bus.bus c.counts-bus-end.ensures.shape below)

pub loop-bus-init : goal.loop-bus-init
loop-bus-init g c = sym (append-nil c.args.out.now.items)

pub loop-bus-preserved : goal.loop-bus-preserved
loop-bus-preserved g c =
    let m = c.args.machine.now.machine in
    let k = c.loop-bus.bus in
    let shaped = c.counts-bus-end.ensures.shape in
    let buses = ap (λ n. n.buses) c.counts-bus-end.ensures.counts in
    let below : k < (tree_counts m).buses = omega (arith, buses, c.loop-bus-test.true) in
    let dir = dir-here m shaped k below in
    let words = c.deref.ensures.value ∙ alone c.in_ok-write_part.ensures.ok c.clear.ensures.items ∙ ap words_or_none (dir-asked m shaped k below dir_words) in
    let wide : AllByRecursion (IsWide g.row.WORDS) dir.down = subst (λ w. AllByRecursion (IsWide w) dir.down) c.requires.width (dir-wide m shaped k below c.requires.form) in
    let own : dir_words (forget_dir dir) ++ traffic_words no_traffic ≡ bus_words (forget m) k = sym (bus-timeless m k ∙ ap (λ o. words_or_none o ++ traffic_words no_traffic) (dir-asked m shaped k below (λ d. dir_words (forget_dir d)))) in
    c.in_ok-push_bus.ensures dir wide words ∙ ap (λ ws. c.loop-bus.out.items ++ ws) own ∙ flat-number (bus_words (forget m)) c.args.out.now.items c.loop-bus.out.items k c.loop-bus.invariant

pub returns : goal.returns
returns g c =
    let m = c.args.machine.now.machine in
    let buses = ap (λ n. n.buses) c.counts-bus-end.ensures.counts in
    let last : c.loop-bus.bus ≡ length m.traffic = omega (arith, buses, c.loop-bus-test.false, c.loop-bus.auto.bus-end, buses-counted m c.counts-bus-end.ensures.shape) in
    c.loop-bus.invariant ∙ ap (λ n. c.args.out.now.items ++ flat_map (bus_words (forget m)) (range_with_len 0 n)) last
