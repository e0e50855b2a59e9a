use Rattle.std.proofs.Common.{sym, rules}
use Rattle.made_image.proofs.Rounds.{two_words}
use Rattle.made_image.proofs.making.round_bytes.Goals as goal

pub returns : goal.returns
returns c =
    rw (c.copy_from_slice.ensures.after, c.copy_from_slice-2.ensures.after, c.to_le_bytes.ensures, c.to_le_bytes-2.ensures, c.encode.ensures.word, c.encode-2.ensures.word, ← c.round_of.ensures.program)
    (sym (two_words c.round_of.result c.index-round_of-0.result c.index-round_of-1.result (search rules)))
