use Rattle.std.proofs.Common.{refl}
use Rattle.std.proofs.lemmas.Option.{IfSome_then}
use Rattle.ddm_cli.proofs.Joins.{table_in-long}
use Rattle.ddm_cli.proofs.joined.table_file.Goals as goal

pub returns-in-Err-TooLong-clause-cause : goal.returns-in-Err-TooLong-clause-cause
returns-in-Err-TooLong-clause-cause g c = (refl, IfSome_then _ (rw c.in-Err-TooLong.field-0-is at c.in-Err-TooLong.ensures.cause) table_in-long)
