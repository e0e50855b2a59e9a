use Rattle.std.proofs.Common.{None, map}
use Rattle.std.specs.String.{string_bytes}
use Rattle.ddm_outside.specs.SoundShelf.{told_of}
use Rattle.ddm_outside.specs.declared.sound_shelf.SoundShelf.{SoundShelf}
use Rattle.ddm_outside.specs.declared.sound_sink.SoundSink.{SoundSink}
use Rattle.asked_commands.proofs.FromClauses.{no-fault}
use Rattle.asked_commands.proofs.asked.ask_soundly.Goals as goal

pub returns : goal.returns
returns c = no-fault {F = SoundShelf} told_of c.args.files.now c.ddm_main.new.files {K = SoundSink} (λ k. None) c.args.out.now c.ddm_main.new.out (map string_bytes c.args.words.now) c.ddm_main.result c.ddm_main.ensures.came
