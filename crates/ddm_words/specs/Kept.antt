-- What is kept of a run while its turns are made, by what is printed of it.
use Rattle.std.specs.Prelude.{Bool, false, true}
use Rattle.ddm_words.specs.declared.command.Prints.{Prints}
use Rattle.ddm_words.specs.declared.command.Prints.TheVariants.{Report, Trace, Summary, Unjamming, Checkpoint}

-- a trace is kept while the turns are made
abbrev pub is_trace : Prints → Bool
is_trace Report = false
is_trace Trace = true
is_trace Summary = false
is_trace Unjamming = false
is_trace Checkpoint = false

-- no operation is printed, so each is forgotten once it is counted
abbrev pub is_summary : Prints → Bool
is_summary Report = false
is_summary Trace = false
is_summary Summary = true
is_summary Unjamming = false
is_summary Checkpoint = false
