-- What is counted are the answers of the turns that were made.
-- Letters: t is a turn, m a machine, a an answer, d a drawn turn, ds drawn turns, c counts, r the rest of a run.
use Rattle.std.proofs.Common.{◌≡◌, ◌∙◌, ℕ, ◌+◌, ◌-◌, Bool, true, false, ◌&&◌, List, [], ◌∷◌, map, length, Option, Some, None, refl, ap, subst, if◌then◌else◌, arith}
use Rattle.recording_model.specs.DdmTypes.declared.answers.TurnAnswer.{TurnAnswer}
use Rattle.recording_model.specs.DdmTypes.declared.turns.Turn.{Turn}
use Rattle.recording_model.specs.TreeModel.State.Values.{MachineValue}
use Rattle.recording_model.specs.TreeModel.Turns.Machine.{run_of, turn_of}
use Rattle.recording_model.specs.TextModel.declared.RunCounts.{RunCounts}
use Rattle.recording_model.specs.TextModel.Run.{counted_answer, counts_of}
use Rattle.recording_model.specs.declared.RunEnd.{RunEnd}
use Rattle.recording_model.specs.Doing.{does_by, does_something, had_halted}
use Rattle.recording_model.specs.LetBy.{Draw}
use Rattle.recording_model.specs.Recording.{Recording, after_draw, draw_does, end_before, ended, made_turns, recording_from, unless_ended, with_draw}
use Rattle.recording_model.proofs.Doing.{turn-rests}
use Rattle.recording_model.proofs.Recordings.{left-out-changes-nothing}
use Rattle.measure_model.specs.Counts.{Made, is_busy, is_granted, is_halted, is_issued, is_retired, made_of, of_all, totals_of}
use Rattle.measure_model.specs.Laws.{AreOfAnswers}

pub turns-made : (ts : List Turn) (m : MachineValue) → map (λ (k : Made). k.turn) (made_of ts m) ≡ ts
unfolding made_of
turns-made [] m = refl
turns-made (t ∷ ts) m = ap (λ us. t ∷ us) (turns-made ts (turn_of t m).machine)

answers-made : (ts : List Turn) (m : MachineValue) → map (λ (k : Made). k.answer) (made_of ts m) ≡ (run_of ts m).answers
unfolding made_of run_of
answers-made [] m = refl
answers-made (t ∷ ts) m = ap (λ rest. (turn_of t m).answer ∷ rest) (answers-made ts (turn_of t m).machine)

-- ---- counts of all turns

abbrev one_made : Turn → TurnAnswer → Made
one_made t a = record { turn = t; answer = a }

record SameCounts (made : List Made) (c : RunCounts) : Type 0 where
  retired : of_all is_retired made ≡ c.retired
  granted : of_all is_granted made ≡ c.granted
  busy : of_all is_busy made ≡ c.busy

one-more : (t : Turn) (a : TurnAnswer) (made : List Made) (c : RunCounts) → SameCounts made c → SameCounts (one_made t a ∷ made) (counted_answer a c)
one-more t (TurnAnswer.Retired op) made c same = let retired = same.retired in record { retired = omega (arith, retired); granted = same.granted; busy = same.busy }
one-more t (TurnAnswer.Issued kind x) made c same = record { retired = same.retired; granted = same.granted; busy = same.busy }
one-more t (TurnAnswer.Waiting x) made c same = record { retired = same.retired; granted = same.granted; busy = same.busy }
one-more t (TurnAnswer.Halted cause) made c same = record { retired = same.retired; granted = same.granted; busy = same.busy }
one-more t (TurnAnswer.Granted entry) made c same = let granted = same.granted in record { retired = same.retired; granted = omega (arith, granted); busy = same.busy }
one-more t TurnAnswer.Empty made c same = record { retired = same.retired; granted = same.granted; busy = same.busy }
one-more t (TurnAnswer.Busy cause) made c same = let busy = same.busy in record { retired = same.retired; granted = same.granted; busy = omega (arith, busy) }

same-counts : (ts : List Turn) (m : MachineValue) → SameCounts (made_of ts m) (counts_of (run_of ts m).answers)
unfolding made_of run_of counts_of
same-counts [] m = record { retired = refl; granted = refl; busy = refl }
same-counts (t ∷ ts) m = let next = turn_of t m in one-more t next.answer (made_of ts next.machine) (counts_of (run_of ts next.machine).answers) (same-counts ts next.machine)

-- ---- each recorded turn is of one of four kinds

abbrev AreFour : List Turn → MachineValue → Type 0
AreFour ts m = let made = made_of ts m in length ts ≡ of_all is_retired made + of_all is_issued made + of_all is_granted made + of_all is_halted made

abbrev four : List Made → ℕ
four made = of_all is_retired made + of_all is_issued made + of_all is_granted made + of_all is_halted made

one-four : (t : Turn) (a : TurnAnswer) (halted : Bool) (made : List Made) → does_by a halted ≡ true → four (one_made t a ∷ made) ≡ four made + 1
one-four t (TurnAnswer.Retired op) halted made does = omega arith
one-four t (TurnAnswer.Issued kind x) halted made does = omega arith
one-four t (TurnAnswer.Waiting x) halted made does = cc
one-four t (TurnAnswer.Halted cause) halted made does = omega arith
one-four t (TurnAnswer.Granted entry) halted made does = omega arith
one-four t TurnAnswer.Empty halted made does = cc
one-four t (TurnAnswer.Busy cause) halted made does = cc

done-four : (t : Turn) (m : MachineValue) (ts : List Turn) → does_something t m ≡ true → AreFour ts (turn_of t m).machine → AreFour (t ∷ ts) m
unfolding made_of does_something
done-four t m ts does rest =
    let one = one-four t (turn_of t m).answer (had_halted t m) (made_of ts (turn_of t m).machine) does in
    omega (arith, one, rest)

drawn-four : (t : Turn) (by does : Bool) (m : MachineValue) (r : Recording) → does_something t m ≡ does → AreFour r.turns (after_draw (record { turn = t; let_by = by }) m) → AreFour (with_draw (record { turn = t; let_by = by }) (by && does) r).turns m
drawn-four t true true m r is rest = done-four t m r.turns is rest
drawn-four t true false m r is rest = subst (AreFour r.turns) (turn-rests t m is) rest
drawn-four t false does m r is rest = rest

none-four : (m : MachineValue) → AreFour [] m
unfolding made_of
none-four m = refl

unless-four : (o : Option RunEnd) (m : MachineValue) (r : Recording) → AreFour r.turns m → AreFour (unless_ended o m r).turns m
unless-four None m r rest = rest
unless-four (Some e) m r rest = none-four m

are-four : (left idle : ℕ) (ds : List Draw) (m : MachineValue) → AreFour (recording_from left idle ds m).turns m
unfolding recording_from
are-four left idle [] m = unless-four (end_before left idle m) m (ended RunEnd.Drawn m) (none-four m)
are-four left idle (d ∷ ds) m =
    let did = draw_does d m in
    let rest = recording_from (if did then left - 1 else left) (if did then 0 else idle + 1) ds (after_draw d m) in
    unless-four (end_before left idle m) m (with_draw d did rest) (drawn-four d.turn d.let_by (does_something d.turn m) m rest refl (are-four (if did then left - 1 else left) (if did then 0 else idle + 1) ds (after_draw d m)))

pub counts-answers : (turns : ℕ) (ds : List Draw) (m : MachineValue) → AreOfAnswers m (recording_from turns 0 ds m)
unfolding totals_of
counts-answers turns ds m =
    let r = recording_from turns 0 ds m in
    let same = (left-out-changes-nothing turns ds m).counts in
    let recorded = same-counts r.turns m in
    let made = same-counts (made_turns r.drawn) m in
    record {
      turns = turns-made (made_turns r.drawn) m;
      answers = answers-made (made_turns r.drawn) m;
      four_kinds = are-four turns 0 ds m;
      retired = recorded.retired ∙ same.retired;
      granted = recorded.granted ∙ same.granted;
      busy = made.busy;
    }
