-- Recorded runs: the turns that were left out change nothing, what was counted of the others, and how they end.
-- Letters: t is a turn, d a drawn turn, ds drawn turns, m a machine, a an answer, r the rest of a run, c counts.
use Rattle.std.proofs.Common.{◌≡◌, ◌⊎◌, ◌≤◌, ◌<◌, ℕ, ◌+◌, ◌-◌, Bool, true, false, ◌&&◌, nat_eq, List, [], ◌∷◌, ◌++◌, Option, Some, None, All, inl, inr, length, take, refl, sym, ap, subst, ◌∙◌, append_assoc, append-nil, length-append, if◌then◌else◌, arith, zero-le}
use Rattle.std.specs.List.{AllByRecursion}
use Rattle.std.proofs.lemmas.Bool.{eqb-false, eqb-true}
use Rattle.std.proofs.lemmas.List.Elements.{All-cons, All-nil, All-head, All-tail}
use Rattle.recording_model.specs.DdmTypes.declared.answers.TurnAnswer.{TurnAnswer}
use Rattle.recording_model.specs.DdmTypes.declared.turns.Turn.{Turn}
use Rattle.recording_model.specs.TreeModel.State.Values.{MachineValue}
use Rattle.recording_model.specs.TreeModel.Turns.Machine.{run_of, turn_of}
use Rattle.recording_model.specs.TextModel.declared.RunCounts.{RunCounts}
use Rattle.recording_model.specs.TextModel.ReadBack.{IsSmallShape, IsTurnOf}
use Rattle.recording_model.specs.TextModel.Report.{report_of}
use Rattle.recording_model.specs.TextModel.Run.{counted_answer, counts_of, report_text_of, view_of}
use Rattle.recording_model.specs.TextModel.Schedule.{ShapeView}
use Rattle.recording_model.proofs.TextModel.ReadBack.{schedule_of-schedule_text}
use Rattle.outcome_model.specs.Halted.{all_halted}
use Rattle.recording_model.specs.declared.RunEnd.{RunEnd}
use Rattle.recording_model.specs.Doing.{does_by, does_something, had_halted}
use Rattle.recording_model.specs.LetBy.{Draw}
use Rattle.recording_model.specs.Laws.{EndsSo, IsEnded, IsStuck, RunsAgain, SameMachine}
use Rattle.recording_model.specs.Recording.{Recording, after_draw, draw_does, end_before, ended, idle_limit, made_turns, recording_from, unless_ended, with_draw}
use Rattle.recording_model.proofs.Doing.{turn-rests}

-- ---- one turn more, by whether it is let by and whether it does something

abbrev drawn : Turn → Bool → Draw
drawn t by = record { turn = t; let_by = by }

-- what it leaves, where it does nothing
draw-rests : (t : Turn) (by : Bool) (m : MachineValue) → draw_does (drawn t by) m ≡ false → after_draw (drawn t by) m ≡ m
draw-rests t true m h = turn-rests t m h
draw-rests t false m h = refl

-- where it did something it was made
draw-made : (t : Turn) (by : Bool) (m : MachineValue) → draw_does (drawn t by) m ≡ true → after_draw (drawn t by) m ≡ (turn_of t m).machine
draw-made t true m h = refl
draw-made t false m h = cc

-- ---- counts

retired-same : (a : TurnAnswer) (c k : RunCounts) → c.retired ≡ k.retired → (counted_answer a c).retired ≡ (counted_answer a k).retired
retired-same (TurnAnswer.Retired op) c k same = ap (λ n. n + 1) same
retired-same (TurnAnswer.Issued kind x) c k same = same
retired-same (TurnAnswer.Waiting x) c k same = same
retired-same (TurnAnswer.Halted cause) c k same = same
retired-same (TurnAnswer.Granted entry) c k same = same
retired-same TurnAnswer.Empty c k same = same
retired-same (TurnAnswer.Busy cause) c k same = same

granted-same : (a : TurnAnswer) (c k : RunCounts) → c.granted ≡ k.granted → (counted_answer a c).granted ≡ (counted_answer a k).granted
granted-same (TurnAnswer.Retired op) c k same = same
granted-same (TurnAnswer.Issued kind x) c k same = same
granted-same (TurnAnswer.Waiting x) c k same = same
granted-same (TurnAnswer.Halted cause) c k same = same
granted-same (TurnAnswer.Granted entry) c k same = ap (λ n. n + 1) same
granted-same TurnAnswer.Empty c k same = same
granted-same (TurnAnswer.Busy cause) c k same = same

-- an answer that does nothing is counted as neither
retired-rests : (a : TurnAnswer) (halted : Bool) (c : RunCounts) → does_by a halted ≡ false → (counted_answer a c).retired ≡ c.retired
retired-rests (TurnAnswer.Retired op) halted c h = cc
retired-rests (TurnAnswer.Issued kind x) halted c h = refl
retired-rests (TurnAnswer.Waiting x) halted c h = refl
retired-rests (TurnAnswer.Halted cause) halted c h = refl
retired-rests (TurnAnswer.Granted entry) halted c h = refl
retired-rests TurnAnswer.Empty halted c h = refl
retired-rests (TurnAnswer.Busy cause) halted c h = refl

granted-rests : (a : TurnAnswer) (halted : Bool) (c : RunCounts) → does_by a halted ≡ false → (counted_answer a c).granted ≡ c.granted
granted-rests (TurnAnswer.Retired op) halted c h = refl
granted-rests (TurnAnswer.Issued kind x) halted c h = refl
granted-rests (TurnAnswer.Waiting x) halted c h = refl
granted-rests (TurnAnswer.Halted cause) halted c h = refl
granted-rests (TurnAnswer.Granted entry) halted c h = cc
granted-rests TurnAnswer.Empty halted c h = refl
granted-rests (TurnAnswer.Busy cause) halted c h = refl

-- one that does something isn't busy
busy-rests : (a : TurnAnswer) (halted : Bool) (c : RunCounts) → does_by a halted ≡ true → (counted_answer a c).busy ≡ c.busy
busy-rests (TurnAnswer.Retired op) halted c h = refl
busy-rests (TurnAnswer.Issued kind x) halted c h = refl
busy-rests (TurnAnswer.Waiting x) halted c h = refl
busy-rests (TurnAnswer.Halted cause) halted c h = refl
busy-rests (TurnAnswer.Granted entry) halted c h = refl
busy-rests TurnAnswer.Empty halted c h = refl
busy-rests (TurnAnswer.Busy cause) halted c h = cc

abbrev counts_from : List Turn → MachineValue → RunCounts
counts_from ts m = counts_of (run_of ts m).answers

-- ---- what was left out changes nothing

none-left-out : (e : RunEnd) (m : MachineValue) → SameMachine m (ended e m)
unfolding run_of counts_of
none-left-out e m = record { made = refl; recorded = refl; counts = record { retired = refl; granted = refl; busy = refl } }

-- a turn that did something
done-too : (t : Turn) (m : MachineValue) (r : Recording) → does_something t m ≡ true → SameMachine (turn_of t m).machine r → SameMachine m (with_draw (drawn t true) true r)
unfolding run_of counts_of does_something
done-too t m r does same = record {
  made = same.made;
  recorded = same.recorded;
  counts = record {
    retired = retired-same (turn_of t m).answer (counts_from r.turns (turn_of t m).machine) (counts_from (made_turns r.drawn) (turn_of t m).machine) same.counts.retired;
    granted = granted-same (turn_of t m).answer (counts_from r.turns (turn_of t m).machine) (counts_from (made_turns r.drawn) (turn_of t m).machine) same.counts.granted;
    busy = busy-rests (turn_of t m).answer (had_halted t m) (counts_from r.turns (turn_of t m).machine) does ∙ same.counts.busy;
  };
}

-- one that was made and did nothing
made-too : (t : Turn) (m : MachineValue) (r : Recording) → does_something t m ≡ false → (turn_of t m).machine ≡ m → SameMachine m r → SameMachine m (with_draw (drawn t true) false r)
unfolding run_of counts_of does_something
made-too t m r does rests same = record {
  made = ap (λ k. (run_of (made_turns r.drawn) k).machine) rests ∙ same.made;
  recorded = same.recorded;
  counts = record {
    retired = same.counts.retired ∙ sym (retired-rests (turn_of t m).answer (had_halted t m) (counts_from (made_turns r.drawn) (turn_of t m).machine) does ∙ ap (λ k. (counts_from (made_turns r.drawn) k).retired) rests);
    granted = same.counts.granted ∙ sym (granted-rests (turn_of t m).answer (had_halted t m) (counts_from (made_turns r.drawn) (turn_of t m).machine) does ∙ ap (λ k. (counts_from (made_turns r.drawn) k).granted) rests);
    busy = same.counts.busy;
  };
}

-- one that wasn't let by
passed-too : (t : Turn) (m : MachineValue) (r : Recording) → SameMachine m r → SameMachine m (with_draw (drawn t false) false r)
passed-too t m r same = record { made = same.made; recorded = same.recorded; counts = same.counts }

drawn-too : (t : Turn) (by does : Bool) (m : MachineValue) (r : Recording) → does_something t m ≡ does → SameMachine (after_draw (drawn t by) m) r → SameMachine m (with_draw (drawn t by) (by && does) r)
drawn-too t true true m r is same = done-too t m r is same
drawn-too t true false m r is same = let rests = turn-rests t m is in made-too t m r is rests (subst (λ k. SameMachine k r) rests same)
drawn-too t false does m r is same = passed-too t m r same

unless-same : (o : Option RunEnd) (m : MachineValue) (r : Recording) → SameMachine m r → SameMachine m (unless_ended o m r)
unless-same None m r same = same
unless-same (Some e) m r same = none-left-out e m

same-machine : (left idle : ℕ) (ds : List Draw) (m : MachineValue) → SameMachine m (recording_from left idle ds m)
unfolding recording_from
same-machine left idle [] m = unless-same (end_before left idle m) m (ended RunEnd.Drawn m) (none-left-out RunEnd.Drawn m)
same-machine left idle (d ∷ ds) m =
    let did = draw_does d m in
    let rest = recording_from (if did then left - 1 else left) (if did then 0 else idle + 1) ds (after_draw d m) in
    unless-same (end_before left idle m) m (with_draw d did rest) (drawn-too d.turn d.let_by (does_something d.turn m) m rest refl (same-machine (if did then left - 1 else left) (if did then 0 else idle + 1) ds (after_draw d m)))

pub left-out-changes-nothing : (turns : ℕ) (ds : List Draw) (m : MachineValue) → SameMachine m (recording_from turns 0 ds m)
left-out-changes-nothing turns ds m = same-machine turns 0 ds m

-- ---- the recorded turns as a schedule

module _ (shape : ShapeView) where
  abbrev Known : List Draw → Type 0
  Known ds = All (λ (d : Draw). IsTurnOf shape d.turn) ds

  known-if : (did : Bool) (d : Draw) (r : Recording) → IsTurnOf shape d.turn → All (IsTurnOf shape) r.turns → All (IsTurnOf shape) (with_draw d did r).turns
  known-if true d r known rest = All-cons (IsTurnOf shape) d.turn r.turns known rest
  known-if false d r known rest = rest

  known-unless : (o : Option RunEnd) (m : MachineValue) (r : Recording) → All (IsTurnOf shape) r.turns → All (IsTurnOf shape) (unless_ended o m r).turns
  known-unless None m r known = known
  known-unless (Some e) m r known = All-nil (IsTurnOf shape)

  pub recorded-known : (left idle : ℕ) (ds : List Draw) (m : MachineValue) → Known ds → All (IsTurnOf shape) (recording_from left idle ds m).turns
  unfolding recording_from
  recorded-known left idle [] m known = known-unless (end_before left idle m) m (ended RunEnd.Drawn m) (All-nil (IsTurnOf shape))
  recorded-known left idle (d ∷ ds) m known =
      let did = draw_does d m in
      let rest = recording_from (if did then left - 1 else left) (if did then 0 else idle + 1) ds (after_draw d m) in
      let rest-known = recorded-known (if did then left - 1 else left) (if did then 0 else idle + 1) ds (after_draw d m) (All-tail (λ (d : Draw). IsTurnOf shape d.turn) d ds known) in
      known-unless (end_before left idle m) m (with_draw d did rest) (known-if did d rest (All-head (λ (d : Draw). IsTurnOf shape d.turn) d ds known) rest-known)

-- ---- the end

-- what is known where a run ends so, or goes on
abbrev EndFact : ℕ → ℕ → MachineValue → Option RunEnd → Type 0
EndFact left idle m None = 0 < left
EndFact left idle m (Some RunEnd.Halted) = all_halted m ≡ true
EndFact left idle m (Some RunEnd.Turns) = left ≡ 0
EndFact left idle m (Some RunEnd.Stuck) = idle ≡ idle_limit
EndFact left idle m (Some RunEnd.Drawn) = ⊥

end-fact : (left idle : ℕ) (m : MachineValue) → EndFact left idle m (end_before left idle m)
end-fact left idle m = by_halted (all_halted m) refl where
  by_idle : (b : Bool) → nat_eq idle idle_limit ≡ b → 0 < left → EndFact left idle m (if b then Some RunEnd.Stuck else None)
  by_idle true is some = eqb-true idle idle_limit is
  by_idle false is some = some

  by_left : (b : Bool) → nat_eq left 0 ≡ b → EndFact left idle m (if b then Some RunEnd.Turns else (if nat_eq idle idle_limit then Some RunEnd.Stuck else None))
  by_left true is = eqb-true left 0 is
  by_left false is = let other = eqb-false left 0 is in by_idle (nat_eq idle idle_limit) refl (omega (arith, other))

  by_halted : (b : Bool) → all_halted m ≡ b → EndFact left idle m (if b then Some RunEnd.Halted else (if nat_eq left 0 then Some RunEnd.Turns else (if nat_eq idle idle_limit then Some RunEnd.Stuck else None)))
  by_halted true is = is
  by_halted false is = by_left (nat_eq left 0) refl

abbrev DoNothing : MachineValue → List Draw → Type 0
DoNothing m ds = AllByRecursion (λ d. draw_does d m ≡ false) ds

-- where these did nothing before
record StuckBehind (idles : List Draw) (r : Recording) : Type 0 where
  earlier : List Draw
  last : List Draw
  drawn : idles ++ r.drawn ≡ earlier ++ last
  many : length last ≡ idle_limit
  idle : DoNothing r.machine last

abbrev EndsBehind : RunEnd → ℕ → List Draw → List Draw → Recording → Type 0
EndsBehind RunEnd.Halted left idles ds r = all_halted r.machine ≡ true
EndsBehind RunEnd.Turns left idles ds r = length r.turns ≡ left
EndsBehind RunEnd.Stuck left idles ds r = StuckBehind idles r
EndsBehind RunEnd.Drawn left idles ds r = r.drawn ≡ ds

record IsEndedBehind (left : ℕ) (idles ds : List Draw) (r : Recording) : Type 0 where
  first : take (length r.drawn) ds ≡ r.drawn
  most : length r.turns ≤ left
  end : EndsBehind r.end left idles ds r

module _ (left idle : ℕ) (idles : List Draw) (m : MachineValue) (many : length idles ≡ idle) (rests : DoNothing m idles) where
  ends-here : (ds : List Draw) (e : RunEnd) → EndFact left idle m (Some e) → IsEndedBehind left idles ds (ended e m)
  ends-here ds e fact = record { first = take-none ds; most = zero-le; end = by_end e fact } where
    take-none : (ds : List Draw) → take 0 ds ≡ []
    take-none [] = refl
    take-none (d ∷ ds) = refl

    by_end : (e : RunEnd) → EndFact left idle m (Some e) → EndsBehind e left idles ds (ended e m)
    by_end RunEnd.Halted fact = fact
    by_end RunEnd.Turns fact = sym fact
    by_end RunEnd.Stuck fact = record { earlier = []; last = idles; drawn = append-nil idles; many = many ∙ fact; idle = rests }
    by_end RunEnd.Drawn fact = absurd fact

  ends-unless : (ds : List Draw) (o : Option RunEnd) (r : Recording) → EndFact left idle m o → (0 < left → IsEndedBehind left idles ds r) → IsEndedBehind left idles ds (unless_ended o m r)
  ends-unless ds None r fact goes = goes fact
  ends-unless ds (Some e) r fact goes = ends-here ds e fact

-- a turn in front that did something
behind-done : (left : ℕ) (idles ds : List Draw) (d : Draw) (r : Recording) → 0 < left → IsEndedBehind (left - 1) [] ds r → IsEndedBehind left idles (d ∷ ds) (with_draw d true r)
behind-done left idles ds d r some rest = record { first = ap (λ l. d ∷ l) rest.first; most = omega (arith, some, rest.most); end = by_end r.end rest.end } where
  by_end : (e : RunEnd) → EndsBehind e (left - 1) [] ds r → EndsBehind e left idles (d ∷ ds) (with_draw d true r)
  by_end RunEnd.Halted h = h
  by_end RunEnd.Turns h = omega (arith, some, h)
  by_end RunEnd.Stuck h = record { earlier = idles ++ d ∷ h.earlier; last = h.last; drawn = ap (λ l. idles ++ d ∷ l) h.drawn ∙ sym (append_assoc idles (d ∷ h.earlier) h.last); many = h.many; idle = h.idle }
  by_end RunEnd.Drawn h = ap (λ l. d ∷ l) h

-- and one that did nothing
behind-idle : (left : ℕ) (idles ds : List Draw) (d : Draw) (r : Recording) → IsEndedBehind left (idles ++ d ∷ []) ds r → IsEndedBehind left idles (d ∷ ds) (with_draw d false r)
behind-idle left idles ds d r rest = record { first = ap (λ l. d ∷ l) rest.first; most = rest.most; end = by_end r.end rest.end } where
  by_end : (e : RunEnd) → EndsBehind e left (idles ++ d ∷ []) ds r → EndsBehind e left idles (d ∷ ds) (with_draw d false r)
  by_end RunEnd.Halted h = h
  by_end RunEnd.Turns h = h
  by_end RunEnd.Stuck h = record { earlier = h.earlier; last = h.last; drawn = sym (append_assoc idles (d ∷ []) r.drawn) ∙ h.drawn; many = h.many; idle = h.idle }
  by_end RunEnd.Drawn h = ap (λ l. d ∷ l) h

idle-too : (m : MachineValue) (idles : List Draw) (d : Draw) → DoNothing m idles → draw_does d m ≡ false → DoNothing m (idles ++ d ∷ [])
idle-too m [] d rests h = (h, tt)
idle-too m (e ∷ es) d rests h = (rests.0, idle-too m es d rests.1 h)

-- whatever was before, the run of the turns behind ends rightly
abbrev EndBehind : List Draw → Type 0
EndBehind ds = (left idle : ℕ) (idles : List Draw) (m : MachineValue) → length idles ≡ idle → DoNothing m idles → IsEndedBehind left idles ds (recording_from left idle ds m)

behind-draw : (left idle : ℕ) (idles ds : List Draw) (d : Draw) (m : MachineValue) → length idles ≡ idle → DoNothing m idles → 0 < left → EndBehind ds → (did : Bool) → draw_does d m ≡ did
    → IsEndedBehind left idles (d ∷ ds) (with_draw d did (recording_from (if did then left - 1 else left) (if did then 0 else idle + 1) ds (after_draw d m)))
behind-draw left idle idles ds d m many rests some again true is = behind-done left idles ds d (recording_from (left - 1) 0 ds (after_draw d m)) some (again (left - 1) 0 [] (after_draw d m) refl tt)
behind-draw left idle idles ds d m many rests some again false is =
    let same : after_draw d m ≡ m = draw-rests d.turn d.let_by m is in
    let more : DoNothing (after_draw d m) (idles ++ d ∷ []) = subst (λ k. DoNothing k (idles ++ d ∷ [])) (sym same) (idle-too m idles d rests is) in
    behind-idle left idles ds d (recording_from left (idle + 1) ds (after_draw d m)) (again left (idle + 1) (idles ++ d ∷ []) (after_draw d m) (length-append idles (d ∷ []) ∙ ap (λ n. n + 1) many) more)

ends-behind : (ds : List Draw) → EndBehind ds
unfolding recording_from
ends-behind [] left idle idles m many rests = ends-unless left idle idles m many rests [] (end_before left idle m) (ended RunEnd.Drawn m) (end-fact left idle m) (λ some. record { first = refl; most = zero-le; end = refl })
ends-behind (d ∷ ds) left idle idles m many rests =
    let did = draw_does d m in
    let rest = recording_from (if did then left - 1 else left) (if did then 0 else idle + 1) ds (after_draw d m) in
    ends-unless left idle idles m many rests (d ∷ ds) (end_before left idle m) (with_draw d did rest) (end-fact left idle m) (λ some. behind-draw left idle idles ds d m many rests some (ends-behind ds) did refl)

module _ (turns : ℕ) (ds : List Draw) (m : MachineValue) where
  the_run : Recording
  the_run = recording_from turns 0 ds m

  pub ends-rightly : IsEnded turns ds (recording_from turns 0 ds m)
  unfolding the_run
  ends-rightly = record { first = behind.first; most = behind.most; end = by_end the_run.end behind.end; fewer = λ fewer. by_fewer the_run.end behind.end fewer } where
    behind : IsEndedBehind turns [] ds the_run
    behind = ends-behind ds turns 0 [] m refl tt

    stuck : StuckBehind [] the_run → IsStuck the_run
    stuck h = record { earlier = h.earlier; last = h.last; drawn = h.drawn; many = h.many; idle = h.idle }

    by_end : (e : RunEnd) → EndsBehind e turns [] ds the_run → EndsSo e turns ds the_run
    by_end RunEnd.Halted h = h
    by_end RunEnd.Turns h = h
    by_end RunEnd.Stuck h = stuck h
    by_end RunEnd.Drawn h = h

    by_fewer : (e : RunEnd) → EndsBehind e turns [] ds the_run → length the_run.turns < turns → (all_halted the_run.machine ≡ true) ⊎ (IsStuck the_run ⊎ (the_run.drawn ≡ ds))
    by_fewer RunEnd.Halted h fewer = inl h
    by_fewer RunEnd.Turns h fewer = absurd (omega (arith, h, fewer))
    by_fewer RunEnd.Stuck h fewer = inr (inl (stuck h))
    by_fewer RunEnd.Drawn h fewer = inr (inr h)

  pub runs-again : (shape : ShapeView) → IsSmallShape shape → turns ≤ 1048576 → All (λ (d : Draw). IsTurnOf shape d.turn) ds → RunsAgain shape m (recording_from turns 0 ds m)
  unfolding report_text_of
  runs-again shape small few known = record {
    read_back = let most = ends-rightly.most in schedule_of-schedule_text shape 0 (recording_from turns 0 ds m).turns small (recorded-known shape turns 0 ds m known) (omega (arith, most, few));
    report = λ depth. ap (λ (k : MachineValue). report_of (view_of depth (counts_of (run_of (recording_from turns 0 ds m).turns m).answers) k)) (left-out-changes-nothing turns ds m).recorded;
  }
