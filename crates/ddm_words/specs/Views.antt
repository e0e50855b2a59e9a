-- A command as the code has it, and as it is said.
use Rattle.std.specs.Prelude.{ℕ, List, map, None, Option}
use Rattle.std.specs.String.{string_bytes}
use Rattle.ddm_words.specs.LitmusFiles.Places.{places_in}
use Rattle.ddm_words.specs.Commands as said
use Rattle.ddm_words.specs.declared.command.Check.{Check}
use Rattle.ddm_words.specs.declared.command.Command.{Command}
use Rattle.ddm_words.specs.declared.command.Command.TheVariants.{Run as ToRun, List as ToList, Check as ToCheck}
use Rattle.ddm_words.specs.declared.command.Command.TheVariants.{Resume as ToResume, Outcomes as ToSurvey}
use Rattle.ddm_words.specs.declared.command.Command.TheVariants.{Record as ToRecord, Measure as ToMeasure}
use Rattle.ddm_words.specs.declared.command.Command.TheVariants.{Survey as ToSurveyRuns, Join as ToJoin, Page as ToPage}
use Rattle.ddm_words.specs.declared.command.Command.TheVariants.{Assemble as ToAssemble, About as ToSay}
use Rattle.ddm_words.specs.declared.command.Assembly.{Assembly}
use Rattle.ddm_words.specs.declared.command.ImageSource.{ImageSource}
use Rattle.ddm_words.specs.declared.command.ImageSource.TheVariants.{File as ImageFile, Made}
use Rattle.ddm_words.specs.declared.command.Paged.{Paged}
use Rattle.ddm_words.specs.declared.command.Placing.{Placing}
use Rattle.ddm_words.specs.declared.command.Placing.TheVariants.{InOrder, Named}
use Rattle.ddm_words.specs.declared.command.Recorded.{Recorded}
use Rattle.ddm_words.specs.declared.command.Run.{Run}
use Rattle.ddm_words.specs.declared.command.Resumption.{Resumption}
use Rattle.ddm_words.specs.declared.command.Seeds.{Seeds}
use Rattle.ddm_words.specs.declared.command.Survey.{Survey}
use Rattle.ddm_words.specs.declared.command.TurnSource.{TurnSource}
use Rattle.ddm_words.specs.declared.command.TurnSource.TheVariants.{File as ScheduleFile, Seeded}

abbrev pub image_from : ImageSource → said.ImageFrom
image_from (ImageFile name) = said.image_named name.now
image_from (Made seed rounds) = said.image_made seed rounds

abbrev pub turns_from : TurnSource → said.TurnsFrom
turns_from (ScheduleFile name) = said.schedule_named name.now
turns_from (Seeded seed count) = said.turns_seeded seed count

abbrev pub run_from : Run → said.Run
run_from r = record { image = image_from r.image; tree = r.tree.now; turns = turns_from r.turns }

abbrev pub check_from : Check → said.Check
check_from c = record { image = c.image.now; tree = c.tree.now; witness = c.witness.now }

abbrev pub resumption_from : Resumption → said.Resumption
resumption_from r = record { image = r.image.now; tree = r.tree.now; checkpoint = r.checkpoint.now; schedule = r.schedule.now }

abbrev pub seeds_from : Seeds → said.Seeds
seeds_from s = record { image = s.image.now; tree = s.tree.now; first = s.first; count = s.count; turns = s.turns }

abbrev pub recorded_from : Recorded → said.Recorded
recorded_from r = record { image = r.image.now; tree = r.tree.now; kind = r.kind; seed = r.seed; turns = r.turns }

abbrev pub survey_from : Survey → said.Survey
survey_from s = record { image = s.image.now; tree = s.tree.now; kind = s.kind; first = s.first; count = s.count; turns = s.turns }

abbrev pub paged_from : Paged → said.Paged
paged_from p = record { image = p.image.now; tree = p.tree.now; schedule = p.schedule.now }

-- the leaves of threads that are said
abbrev pub placing_from : Placing → Option (List ℕ)
placing_from InOrder = None
placing_from (Named word) = places_in word.now

abbrev pub assembly_from : Assembly → said.Assembly
assembly_from a = record { test = a.test.now; tree = a.tree.now; runs = a.runs; places = placing_from a.placing }

abbrev pub command_from : Command → said.Command
command_from (ToRun prints run) = said.to_run prints (run_from run)
command_from (ToList tree seed count) = said.to_list tree.now seed count
command_from (ToCheck check) = said.to_check (check_from check)
command_from (ToResume resumption) = said.to_resume (resumption_from resumption)
command_from (ToSurvey seeds) = said.to_survey (seeds_from seeds)
command_from (ToRecord recorded) = said.to_record (recorded_from recorded)
command_from (ToMeasure recorded) = said.to_measure (recorded_from recorded)
command_from (ToSurveyRuns survey) = said.to_survey_runs (survey_from survey)
command_from (ToJoin names) = said.to_join (map string_bytes names.now)
command_from (ToPage paged) = said.to_page (paged_from paged)
command_from (ToAssemble assembly) = said.to_assemble (assembly_from assembly)
command_from (ToSay about) = said.to_say about
