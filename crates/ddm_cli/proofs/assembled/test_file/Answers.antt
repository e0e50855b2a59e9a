use Rattle.std.proofs.lemmas.Option.{IfSome_then}
use Rattle.ddm_cli.proofs.Assemblies.{test_of-long}
use Rattle.ddm_cli.proofs.assembled.test_file.Goals as goal

pub returns-in-Err-TooLong-clause-cause : goal.returns-in-Err-TooLong-clause-cause
returns-in-Err-TooLong-clause-cause g c = IfSome_then _ (rw c.in-Err-TooLong.field-0-is at c.in-Err-TooLong.ensures.cause) test_of-long
