use Rattle.std.proofs.Common.{◌<◌, arith, rules}
use Rattle.split_bus.specs.TreeModel.Turns.Children.{reader_takes}
use Rattle.item_states.specs.Parts.{node_items}
use Rattle.split_bus.specs.Children.{full_to_hear, note_of_readers}
use Rattle.split_bus.specs.declared.hearers.Hearers.TheVariants.{TakeData}
use Rattle.split_bus.proofs.Loops.{told-all, told-none, told-next, told-done}
use Rattle.split_bus.proofs.told.take_data.Goals as goal

pub take_data_as_reader-requires : goal.take_data_as_reader-requires
take_data_as_reader-requires g c = (search rules, (c.requires.words_fit, (omega arith, (told-all g.C.Agent.value (reader_takes (note_of_readers c.args.readers.now) c.args.item c.args.words.now c.args.stamp) c.loop-i.children c.args.children.now c.loop-i.i c.index-children-i.result (omega arith) (omega arith) c.loop-i.invariant (λ n. c.args.item < node_items n) c.requires.have, told-none g.C.Agent.value (reader_takes (note_of_readers c.args.readers.now) c.args.item c.args.words.now c.args.stamp) c.loop-i.children c.args.children.now c.loop-i.i c.index-children-i.result (omega arith) (omega arith) c.loop-i.invariant (full_to_hear (TakeData c.args.readers.now) c.args.item) c.requires.room))))

pub loop-i-preserved : goal.loop-i-preserved
loop-i-preserved g c = told-next g.C.Agent.value (reader_takes (note_of_readers c.args.readers.now) c.args.item c.args.words.now c.args.stamp) c.loop-i.children c.args.children.now c.loop-i.i c.index-children-i.result (omega arith) (omega arith) c.loop-i.invariant c.take_data_as_reader.new.child c.take_data_as_reader.ensures

pub returns : goal.returns
returns g c = told-done g.C.Agent.value (reader_takes (note_of_readers c.args.readers.now) c.args.item c.args.words.now c.args.stamp) c.loop-i.children c.args.children.now c.loop-i.i c.loop-i.invariant (omega arith)
