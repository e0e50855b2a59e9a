use Rattle.std.proofs.Common.{◌≡◌, ◌-◌, ◌%◌, ◌<◌, ◌++◌, length, take, drop, ap, ◌∙◌, arith}
use Rattle.std.specs.List.{flat_map}
use Rattle.std.specs.Int.{w32, to_le_bytes}
use Rattle.std.proofs.lemmas.List.{length-take}
use Rattle.std.proofs.lemmas.Result.{IfOk-weaker}
use Rattle.checkpoint.specs.FileBytes.{bytes_in, rest_bytes}
use Rattle.checkpoint.proofs.FileWords.{cut-twice, parts-put, rest-few}
use Rattle.checkpoint.proofs.file.put_piece.Goals as goal

pub returns-clause-bytes : goal.returns-clause-bytes
returns-clause-bytes c =
    let piece = c.args.piece.now in
    let first = c.min-first.result in
    let last = length piece - (length piece - first) % 4 in
    let begun = c.in_ok-begun.begun in
    let few = rest-few c.args.rest in
    let none : 0 < length (take (last - first) (drop first piece)) → length (rest_bytes begun) ≡ 0 = λ more. omega (arith, more, length-take (last - first) (drop first piece), length-take first piece, c.rest_len.ensures, c.min-first.ensures, c.in_ok-begun.ensures.count) in
    IfOk-weaker c.put_bytes-2.result _ _ (λ r is. parts-put (bytes_in c.args.words.now.items c.args.rest) (take first piece) (take (last - first) (drop first piece)) (take (length piece - last) (drop last piece)) (flat_map (to_le_bytes w32) c.put_bytes.new.words.items) (flat_map (to_le_bytes w32) c.put_words.new.words.items) _ begun c.in_ok-begun.ensures.bytes c.in_ok-put_words.ensures none is
    ∙ ap (λ l. bytes_in c.args.words.now.items c.args.rest ++ l) (cut-twice piece first last (omega (arith, c.min-first.ensures)))) c.put_bytes-2.ensures.bytes
