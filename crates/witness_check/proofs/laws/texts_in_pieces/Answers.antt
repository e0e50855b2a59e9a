use Rattle.witness_check.proofs.Pieces.{nothing_yet, piece_more, answer_is}
use Rattle.witness_check.proofs.laws.texts_in_pieces.Goals as goal

pub returns-clause-no_piece : goal.returns-clause-no_piece
returns-clause-no_piece c = nothing_yet

pub returns-clause-piece : goal.returns-clause-piece
returns-clause-piece c = piece_more

pub returns-clause-answer : goal.returns-clause-answer
returns-clause-answer c = answer_is
