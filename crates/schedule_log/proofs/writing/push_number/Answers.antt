use Rattle.std.proofs.Common.{OnOk, sym, subst}
use Rattle.std.proofs.lemmas.Fmt.{decimal_digit}
use Rattle.schedule_log.specs.DdmText.Adds.{Adds}
use Rattle.schedule_log.proofs.writing.push_number.Goals as goal

pub returns-then-n-lt10 : goal.returns-then-n-lt10
returns-then-n-lt10 c = subst (λ text. OnOk c.push_bytes.result (Adds c.args.out.now.items c.push_bytes.new.out.items text)) (sym (decimal_digit c.args.n c.if-n-lt10.true)) c.push_bytes.ensures
