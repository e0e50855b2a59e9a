use Rattle.std.proofs.Common.{refl}
use Rattle.ddm_words.specs.About.{about_text}
use Rattle.ddm_cli.proofs.top.write_command.Goals as goal

pub returns-in-About-clause-written : goal.returns-in-About-clause-written
returns-in-About-clause-written g c = rw c.in-About.is (about_text c.in-About.about, refl, c.write_about.ensures.written)
