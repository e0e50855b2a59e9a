use Rattle.schedule_log.proofs.Cuttings.{no_piece, reader_cut, turns_cut, finish_accepts, finish_refuses}
use Rattle.schedule_log.proofs.laws.texts_in_pieces.Goals as goal

pub returns-clause-no_piece : goal.returns-clause-no_piece
returns-clause-no_piece c = no_piece

pub returns-clause-reader : goal.returns-clause-reader
returns-clause-reader c = reader_cut

pub returns-clause-turns : goal.returns-clause-turns
returns-clause-turns c = turns_cut

pub returns-clause-accepted : goal.returns-clause-accepted
returns-clause-accepted c = finish_accepts

pub returns-clause-refused : goal.returns-clause-refused
returns-clause-refused c = finish_refuses
