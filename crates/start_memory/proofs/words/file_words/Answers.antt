use Rattle.std.proofs.Common.{◌≡◌, [], ◌∷◌, ◌+◌, ◌-◌, ◌*◌, length, take, drop, arith, ◌∙◌}
use Rattle.std.specs.Prelude.{slice_index}
use Rattle.std.proofs.lemmas.List.FromFn.{fill_by_all}
use Rattle.byteorder.specs.Endian.{little_number}
use Rattle.start_memory.specs.TreeModel.Start.Memory.{memory_word}
use Rattle.start_memory.proofs.ItemWords.{file_word}
use Rattle.start_memory.proofs.words.file_words.Goals as goal

pub returns : goal.returns
returns c =
    let s = c.args.segment.now in
    let from = c.args.a - c.from.result in
    let count = from + 4 * length c.args.words.now - from in
    let first : c.from.result ≡ s.vaddr = cc in
    let bytes : c.deref.result.now ≡ s.bytes = cc in
    fill_by_all (λ k. memory_word (s ∷ []) (c.args.a + 4 * k)) c.read_u32_into.new.dst (length c.args.words.now) 0 (omega arith)
    (λ k below.
    let read : slice_index c.read_u32_into.new.dst k ≡ little_number 4 (drop (4 * k) (take count (drop from s.bytes))) = rw bytes at (c.read_u32_into.ensures k (omega arith)) in
    read ∙ file_word s c.args.a from count (4 * k) (omega arith) (omega arith) (omega arith))
