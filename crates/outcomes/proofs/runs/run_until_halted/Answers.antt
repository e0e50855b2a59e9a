use Rattle.std.proofs.Common.{◌≡◌, ◌∙◌, ap, sym, refl, length, take, arith}
use Rattle.std.proofs.lemmas.List.{nil_from_length}
use Rattle.schedule_log.specs.Seeding.{SeededView}
use Rattle.outcomes.proofs.Blocks.{all-made, block-few, block-named, block-spared, blocks-keep, halted-early, more-blocks, next-parts, no-blocks}
use Rattle.outcomes.proofs.runs.run_until_halted.Goals as goal

pub running-init : goal.running-init
running-init c = record { blocks = no-blocks c.args.seeds.now.left c.args.machine.now c.requires.spare; shape = refl }

pub run_spared-requires-clause-named : goal.run_spared-requires-clause-named
run_spared-requires-clause-named c =
    let all = c.args.seeds.now.left in
    let left = c.running.seeds.left in
    let block = take c.next_block-count.result c.next_block-count.new.block in
    let rest = c.next_block-count.new.self.left in
    let parts = next-parts c.next_block-count.result c.next_block-count.new.block left rest c.next_block-count.ensures.block (ap (λ (v : SeededView). v.left) c.next_block-count.ensures.left) in
    block-named all left c.args.machine.now c.running.machine c.running.invariant.blocks block rest parts c.requires.named

pub run_spared-requires-clause-few : goal.run_spared-requires-clause-few
run_spared-requires-clause-few c =
    let all = c.args.seeds.now.left in
    let left = c.running.seeds.left in
    let block = take c.next_block-count.result c.next_block-count.new.block in
    let rest = c.next_block-count.new.self.left in
    let parts = next-parts c.next_block-count.result c.next_block-count.new.block left rest c.next_block-count.ensures.block (ap (λ (v : SeededView). v.left) c.next_block-count.ensures.left) in
    block-few all left c.args.machine.now c.running.machine c.running.invariant.blocks block rest parts c.requires.few

pub run_spared-requires-clause-spare : goal.run_spared-requires-clause-spare
run_spared-requires-clause-spare c =
    let all = c.args.seeds.now.left in
    let left = c.running.seeds.left in
    let block = take c.next_block-count.result c.next_block-count.new.block in
    let rest = c.next_block-count.new.self.left in
    let parts = next-parts c.next_block-count.result c.next_block-count.new.block left rest c.next_block-count.ensures.block (ap (λ (v : SeededView). v.left) c.next_block-count.ensures.left) in
    block-spared all left c.args.machine.now c.running.machine c.running.invariant.blocks block rest parts

pub returns-then-all_halted-clause-outcome : goal.returns-then-all_halted-clause-outcome
returns-then-all_halted-clause-outcome c =
    let all = c.args.seeds.now.left in
    let left = c.running.seeds.left in
    let block = take c.next_block-count.result c.next_block-count.new.block in
    let rest = c.next_block-count.new.self.left in
    let parts = next-parts c.next_block-count.result c.next_block-count.new.block left rest c.next_block-count.ensures.block (ap (λ (v : SeededView). v.left) c.next_block-count.ensures.left) in
    let next = more-blocks all left c.args.machine.now c.running.machine c.running.invariant.blocks block rest c.run_spared.new.machine parts c.run_spared.ensures.after c.run_spared.ensures.kind in
    halted-early all rest c.args.machine.now c.run_spared.new.machine next (sym c.all_halted.ensures ∙ c.if-all_halted.true)

pub returns-then-all_halted-clause-keeps : goal.returns-then-all_halted-clause-keeps
returns-then-all_halted-clause-keeps c =
    let all = c.args.seeds.now.left in
    let left = c.running.seeds.left in
    let block = take c.next_block-count.result c.next_block-count.new.block in
    let rest = c.next_block-count.new.self.left in
    let parts = next-parts c.next_block-count.result c.next_block-count.new.block left rest c.next_block-count.ensures.block (ap (λ (v : SeededView). v.left) c.next_block-count.ensures.left) in
    let next = more-blocks all left c.args.machine.now c.running.machine c.running.invariant.blocks block rest c.run_spared.new.machine parts c.run_spared.ensures.after c.run_spared.ensures.kind in
    blocks-keep all rest c.args.machine.now c.run_spared.new.machine next

pub running-preserved : goal.running-preserved
running-preserved c =
    let all = c.args.seeds.now.left in
    let left = c.running.seeds.left in
    let block = take c.next_block-count.result c.next_block-count.new.block in
    let rest = c.next_block-count.new.self.left in
    let parts = next-parts c.next_block-count.result c.next_block-count.new.block left rest c.next_block-count.ensures.block (ap (λ (v : SeededView). v.left) c.next_block-count.ensures.left) in
    let next = more-blocks all left c.args.machine.now c.running.machine c.running.invariant.blocks block rest c.run_spared.new.machine parts c.run_spared.ensures.after c.run_spared.ensures.kind in
    record { blocks = next; shape = ap (λ (v : SeededView). v.shape) c.next_block-count.ensures.left ∙ c.running.invariant.shape }

pub returns-then-count-eq0-clause-outcome : goal.returns-then-count-eq0-clause-outcome
returns-then-count-eq0-clause-outcome c =
    let left = c.running.seeds.left in
    let none : length left ≡ 0 = omega (arith, c.next_block-count.ensures.count, c.if-count-eq0.true) in
    all-made c.args.seeds.now.left left c.args.machine.now c.running.machine c.running.invariant.blocks (nil_from_length left none)

pub returns-then-count-eq0-clause-keeps : goal.returns-then-count-eq0-clause-keeps
returns-then-count-eq0-clause-keeps c = blocks-keep c.args.seeds.now.left c.running.seeds.left c.args.machine.now c.running.machine c.running.invariant.blocks
