use Rattle.std.proofs.Common.{◌≡◌, ◌+◌, ◌-◌, ◌++◌, [], length, take, sym, ap, ◌∙◌, arith}
use Rattle.std.proofs.lemmas.Slice.{take-put_mid}
use Rattle.report.proofs.Written.{appends_none}
use Rattle.report.proofs.writing.put_line.Goals as goal

pub returns-then-len-room-clause-ok : goal.returns-then-len-room-clause-ok
returns-then-len-room-clause-ok g c =
    let xs = c.args.buffer.now in
    let at = c.args.filled in
    let n = c.len-len.result in
    let ys = c.copy_from_slice.new.self in
    let copied : ys ≡ c.args.line.now = c.copy_from_slice.ensures.after ∙ c.as_slice-bytes.ensures in
    let given = take-put_mid at (at + n - at) xs ys (at + n) (omega (arith, ap length copied, c.len-len.ensures.length)) c.requires.within in
    ([], ap (λ l. take at xs ++ l) (sym copied) ∙ sym given, appends_none (g.K.Sink.held c.args.sink.now))
