use Rattle.std.proofs.Common.{subst}
use Rattle.ddm_words.specs.About.{own_text, further_text}
use Rattle.ddm_cli.specs.Printed.{Writes}
use Rattle.ddm_cli.specs.ReportCrate.Appends.{Appends}
use Rattle.ddm_cli.proofs.Telling.{writes_more, writes_of}
use Rattle.ddm_cli.proofs.saying.write_about.Goals as goal

pub returns-clause-written : goal.returns-clause-written
returns-clause-written g c =
    let held = g.K.Sink.held in
    let old = held c.args.out.now in
    let mid = held c.write_all.new.sink in
    let new = held c.write_all-2.new.sink in
    let more = writes_of mid new c.further_text.result.now c.write_all-2.result c.write_all-2.ensures.ok c.write_all-2.ensures.err in
    writes_more old mid new (own_text c.args.about) (further_text c.args.about) c.write_all-2.result
    (subst (Appends old mid) c.own_text.ensures c.in_ok-write_all.ensures.ok)
    (subst (λ text. Writes mid new text c.write_all-2.result) c.further_text.ensures more)
