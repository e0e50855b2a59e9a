use Rattle.rv_decode.proofs.OneRow.{decodes}
use Rattle.rv_decode.proofs.one_row_for_a_word.Goals as goal

pub returns : goal.returns
returns c = decodes
