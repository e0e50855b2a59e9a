-- What is left of a trace that is given piece by piece.
use Rattle.std.specs.Prelude.{◌≡◌, ℕ, ◌≤◌, List, length, drop}
use Rattle.text_model.specs.Trace.{trace_from}
use Rattle.report.specs.declared.trace_pieces.TracePieces.TheInside.{Inside}

-- the lines from the first one on that wasn't given
abbrev pub trace_left : Inside → List ℕ
trace_left t = trace_from t.given (drop t.given t.turns.now) (drop t.given t.answers.now)

pub record IsTrace (t : Inside) : Type 0 where
  pub same : length t.turns.now ≡ length t.answers.now
  pub within : t.given ≤ length t.turns.now
