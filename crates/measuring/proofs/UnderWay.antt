-- A run that is measured, while it goes on: what is left of it, and what its turns so far came to. Operations were forgotten on the way, so
-- the machine as the code has it is that of the tables but for these.
-- Letters: t is a turn, by whether it is let by, d a drawn turn, ds drawn turns, m, n and k are machines, s is one as the code has it, p how far
-- the run is, x an answer.
use Rattle.std.proofs.Common.{◌≡◌, ◌∙◌, ◌≤◌, ◌<◌, ℕ, suc, ◌+◌, ◌-◌, Bool, true, false, List, [], ◌∷◌, ◌++◌, All, None, Some, cond, filter, map, length, refl, sym, ap, subst, append-nil, append_assoc, length-append, if◌then◌else◌, arith}
use Rattle.std.proofs.lemmas.List.{length-map}
use Rattle.std.proofs.lemmas.List.Elements.{All-head, All-tail}
use Rattle.ddm_types.specs.declared.answers.TurnAnswer.{TurnAnswer}
use Rattle.ddm_types.specs.declared.turns.Turn.{Turn}
use Rattle.recording.specs.DdmTree.Machine.{MachineState, without_ops}
use Rattle.recording.specs.Runs.{AreHalted, came_by, came_to, end_now, flags_of, is_done, noted, recorded}
use Rattle.recording.specs.declared.making.Came.{Came}
use Rattle.recording.specs.declared.progress.Progress.{Progress}
use Rattle.recording.specs.OutcomeModel.Halted.{all_halted}
use Rattle.recording.proofs.AnyRuns.Forgotten.{names-alike, run-answers, run-machines}
use Rattle.recording.proofs.AnyRuns.RunMore.{machine-more}
use Rattle.recording.proofs.Halting.{draw-done}
use Rattle.recording.proofs.StartParts.Names.{run-names}
use Rattle.recording.proofs.UnderWay.{IsOn, ends, goes-on, is-on}
use Rattle.recording_model.specs.Doing.{does_something, had_halted}
use Rattle.recording_model.specs.LetBy.{Draw}
use Rattle.recording_model.specs.Recording.{Recording, after_draw, draw_does, ended, made_turns, recording_from, with_draw}
use Rattle.recording_model.specs.declared.RunEnd.{RunEnd}
use Rattle.recording_model.proofs.Doing.{turn-rests}
use Rattle.recording_model.specs.TreeModel.State.Values.{MachineValue}
use Rattle.recording_model.specs.TreeModel.Turns.Machine.{names_part, run_of, turn_of}
use Rattle.measure_model.specs.Counts.{totals_of}
use Rattle.measure_model.specs.Measures.{Measures, measures_of}
use Rattle.measuring.specs.Step.{CanMeasure, after_came}
use Rattle.measuring.specs.Tallied.{measured_so}
use Rattle.measuring.proofs.Steps.{step}

-- ---- machines that have all but their operations in common

pub halted-alike : (m n : MachineValue) → without_ops m ≡ without_ops n → all_halted m ≡ all_halted n
unfolding all_halted
halted-alike m n same = ap all_halted same

pub flags-alike : (flags : List Bool) (all : Bool) (m n : MachineValue) → without_ops m ≡ without_ops n → AreHalted flags all n → AreHalted flags all m
flags-alike flags all m n same are = record { each = are.each ∙ ap flags_of (sym same); every = are.every ∙ sym (halted-alike m n same) }

had-alike : (t : Turn) (m n : MachineValue) → without_ops m ≡ without_ops n → had_halted t m ≡ had_halted t n
had-alike (Turn.Hart hart victim) m n same = ap (had_halted (Turn.Hart hart victim)) same
had-alike (Turn.Down bus) m n same = refl
had-alike (Turn.Request bus child) m n same = refl
had-alike (Turn.Reply bus child) m n same = refl
had-alike (Turn.Leave bus child choice) m n same = refl

answer-alike : (t : Turn) (m n : MachineValue) → without_ops m ≡ without_ops n → (turn_of t m).answer ≡ (turn_of t n).answer
unfolding run_of
answer-alike t m n same =
    let whole : (turn_of t m).answer ∷ [] ≡ (turn_of t n).answer ∷ [] = run-answers (t ∷ []) m n same in
    cc

turn-alike : (t : Turn) (m n : MachineValue) → without_ops m ≡ without_ops n → without_ops (turn_of t m).machine ≡ without_ops (turn_of t n).machine
unfolding run_of
turn-alike t m n same = run-machines (t ∷ []) m n same

-- ---- one more drawn turn

abbrev drawn_as : Turn → Bool → Draw
drawn_as t by = record { turn = t; let_by = by }

abbrev at : List Draw → MachineValue → MachineValue
at ds m = (run_of (made_turns ds) m).machine

made-longer : (ds : List Draw) (t : Turn) → made_turns (ds ++ drawn_as t true ∷ []) ≡ made_turns ds ++ t ∷ []
made-longer [] t = refl
made-longer (d ∷ ds) t = by_let d.let_by (made-longer ds t) where
  by_let : (b : Bool) → made_turns (ds ++ drawn_as t true ∷ []) ≡ made_turns ds ++ t ∷ [] → map (λ (e : Draw). e.turn) (cond b (d ∷ filter (λ (e : Draw). e.let_by) (ds ++ drawn_as t true ∷ [])) (filter (λ (e : Draw). e.let_by) (ds ++ drawn_as t true ∷ []))) ≡ map (λ (e : Draw). e.turn) (cond b (d ∷ filter (λ (e : Draw). e.let_by) ds) (filter (λ (e : Draw). e.let_by) ds)) ++ t ∷ []
  by_let true rest = ap (λ l. d.turn ∷ l) rest
  by_let false rest = rest

made-same : (ds : List Draw) (t : Turn) → made_turns (ds ++ drawn_as t false ∷ []) ≡ made_turns ds
made-same [] t = refl
made-same (d ∷ ds) t = by_let d.let_by (made-same ds t) where
  by_let : (b : Bool) → made_turns (ds ++ drawn_as t false ∷ []) ≡ made_turns ds → map (λ (e : Draw). e.turn) (cond b (d ∷ filter (λ (e : Draw). e.let_by) (ds ++ drawn_as t false ∷ [])) (filter (λ (e : Draw). e.let_by) (ds ++ drawn_as t false ∷ []))) ≡ map (λ (e : Draw). e.turn) (cond b (d ∷ filter (λ (e : Draw). e.let_by) ds) (filter (λ (e : Draw). e.let_by) ds))
  by_let true rest = ap (λ l. d.turn ∷ l) rest
  by_let false rest = rest

filtered-few : (ds : List Draw) → length (filter (λ (e : Draw). e.let_by) ds) ≤ length ds
filtered-few [] = omega arith
filtered-few (d ∷ ds) = by_let d.let_by (filtered-few ds) where
  by_let : (b : Bool) → length (filter (λ (e : Draw). e.let_by) ds) ≤ length ds → length (cond b (d ∷ filter (λ (e : Draw). e.let_by) ds) (filter (λ (e : Draw). e.let_by) ds)) ≤ suc (length ds)
  by_let true few = omega (arith, few)
  by_let false few = omega (arith, few)

made-few : (ds : List Draw) → length (made_turns ds) ≤ length ds
made-few ds = let few = filtered-few ds in let size = length-map (filter (λ (e : Draw). e.let_by) ds) (λ (e : Draw). e.turn) in omega (arith, few, size)

at-more : (ds : List Draw) (t : Turn) (by : Bool) (m : MachineValue) → at (ds ++ drawn_as t by ∷ []) m ≡ after_draw (drawn_as t by) (at ds m)
at-more ds t true m = ap (λ ts. (run_of ts m).machine) (made-longer ds t) ∙ machine-more (made_turns ds) t m
at-more ds t false m = ap (λ ts. (run_of ts m).machine) (made-same ds t)

-- what it leaves of two machines alike
draw-alike : (t : Turn) (by : Bool) (m n : MachineValue) → without_ops m ≡ without_ops n → without_ops (after_draw (drawn_as t by) m) ≡ without_ops (after_draw (drawn_as t by) n)
draw-alike t true m n same = turn-alike t m n same
draw-alike t false m n same = same

came-alike : (t : Turn) (by : Bool) (m n : MachineValue) → without_ops m ≡ without_ops n → came_to (drawn_as t by) m ≡ came_to (drawn_as t by) n
came-alike t true m n same = ap (λ a. came_by a (had_halted t m)) (answer-alike t m n same) ∙ ap (came_by (turn_of t n).answer) (had-alike t m n same)
came-alike t false m n same = refl

-- the recorded turns lead to the same machine
kept-ran : (t : Turn) (by did : Bool) (kept : List Turn) (m here : MachineValue) → draw_does (drawn_as t by) here ≡ did → (run_of kept m).machine ≡ here → (run_of (if did then kept ++ t ∷ [] else kept) m).machine ≡ after_draw (drawn_as t by) here
kept-ran t true true kept m here does ran = machine-more kept t m ∙ ap (λ k. (turn_of t k).machine) ran
kept-ran t true false kept m here does ran = ran ∙ sym (turn-rests t here does)
kept-ran t false true kept m here does ran = cc
kept-ran t false false kept m here does ran = ran

done-rests : (t : Turn) (m : MachineValue) → is_done (came_by (turn_of t m).answer (had_halted t m)) ≡ false → (turn_of t m).machine ≡ m
unfolding does_something
done-rests t m not_done = turn-rests t m (sym (draw-done (drawn_as t true) m) ∙ not_done)

-- the measures after it
measures-more : (t : Turn) (by : Bool) (ds : List Draw) (kept : List Turn) (m now next : MachineValue) (x : TurnAnswer) (came : Came) → length ds < 4294967295 → length kept < 4294967295 → (run_of kept m).machine ≡ at ds m
    → without_ops now ≡ without_ops (at ds m) → came ≡ came_to (drawn_as t by) (at ds m) → (is_done came ≡ true → x ≡ (turn_of t now).answer) → without_ops next ≡ without_ops (after_draw (drawn_as t by) (at ds m))
    → after_came came t x next (measured_so 0 kept (made_turns ds) m) ≡ measured_so 0 (if is_done came then kept ++ t ∷ [] else kept) (made_turns (ds ++ drawn_as t by ∷ [])) m
measures-more t true ds kept m now next x came few few_kept ran same is answer after =
    let here = at ds m in
    let size = made-few ds in
    let goal = step (made_turns ds) kept t m ran (omega (arith, few, size)) few_kept (had_halted t here) (done-rests t here) x (λ done. answer (ap is_done is ∙ done) ∙ answer-alike t now here same) next after in
    ap (λ c. after_came c t x next (measured_so 0 kept (made_turns ds) m)) is ∙ goal
    ∙ ap (λ c. measured_so 0 (if is_done c then kept ++ t ∷ [] else kept) (made_turns ds ++ t ∷ []) m) (sym is) ∙ ap (λ ts. measured_so 0 (if is_done came then kept ++ t ∷ [] else kept) ts m) (sym (made-longer ds t))
measures-more t false ds kept m now next x came few few_kept ran same is answer after =
    ap (λ c. after_came c t x next (measured_so 0 kept (made_turns ds) m)) is ∙ ap (λ c. measured_so 0 (if is_done c then kept ++ t ∷ [] else kept) (made_turns ds) m) (sym is)
    ∙ ap (λ ts. measured_so 0 (if is_done came then kept ++ t ∷ [] else kept) ts m) (sym (made-same ds t))

-- ---- under way

module _ (most : ℕ) (all : List Draw) (s : MachineState) where
  abbrev whole : Recording
  whole = recorded most all s

  abbrev rest : List Draw → Progress → List Draw → Recording
  rest drawn p ds = recording_from p.left p.idle ds (at drawn s.machine)

  pub record IsMeasuring (now : MachineState) (p : Progress) (ds : List Draw) (tally : Measures) : Type 0 where
    pub drawn : List Draw
    pub kept : List Turn
    pub end : whole.end ≡ (rest drawn p ds).end
    pub turns : whole.turns ≡ kept ++ (rest drawn p ds).turns
    pub draws : whole.drawn ≡ drawn ++ (rest drawn p ds).drawn
    pub machine : whole.machine ≡ (rest drawn p ds).machine
    pub ran : (run_of kept s.machine).machine ≡ at drawn s.machine
    pub alike : without_ops now.machine ≡ without_ops (at drawn s.machine)
    pub known : All (λ (d : Draw). names_part d.turn s.machine ≡ true) ds
    pub count : p.draws ≡ length ds
    pub size : length drawn + length ds ≡ length all
    pub few : now.turns + length ds ≤ 4294967295
    pub idle : p.idle ≤ 16777216
    pub kept_few : length kept ≤ length drawn
    pub tallied : tally ≡ measured_so 0 kept (made_turns drawn) s.machine

  pub begins : (count : ℕ) (tally : Measures) → CanMeasure all s → count ≡ length all → tally ≡ measured_so 0 [] [] s.machine → IsMeasuring s (record { left = most; idle = 0; draws = count }) all tally
  unfolding run_of
  begins count tally can is starts = record {
    drawn = [];
    kept = [];
    end = refl;
    turns = refl;
    draws = refl;
    machine = refl;
    ran = refl;
    alike = refl;
    known = can.known;
    count = is;
    size = omega arith;
    few = can.few;
    idle = omega arith;
    kept_few = omega arith;
    tallied = starts;
  }

  module _ (now : MachineState) (p : Progress) (ds : List Draw) (tally : Measures) where
    -- another machine alike
    pub roomed : (next : MachineState) → without_ops next.machine ≡ without_ops now.machine → next.turns ≡ now.turns → IsMeasuring now p ds tally → IsMeasuring next p ds tally
    roomed next same turns i = record {
      drawn = i.drawn;
      kept = i.kept;
      end = i.end;
      turns = i.turns;
      draws = i.draws;
      machine = i.machine;
      ran = i.ran;
      alike = same ∙ i.alike;
      known = i.known;
      count = i.count;
      size = i.size;
      few = (let fits = i.few in omega (arith, fits, turns));
      idle = i.idle;
      kept_few = i.kept_few;
      tallied = i.tallied;
    }

    pub names-here : (d : Draw) (later : List Draw) → ds ≡ d ∷ later → IsMeasuring now p ds tally → names_part d.turn now.machine ≡ true
    names-here d later first i =
        let known = All-head (λ (e : Draw). names_part e.turn s.machine ≡ true) d later (subst (All (λ (e : Draw). names_part e.turn s.machine ≡ true)) first i.known) in
        names-alike d.turn now.machine (at i.drawn s.machine) i.alike ∙ run-names d.turn (made_turns i.drawn) s.machine ∙ known

    kept-behind : (did : Bool) (kept : List Turn) (d : Draw) (r : Recording) → kept ++ (with_draw d did r).turns ≡ (if did then kept ++ d.turn ∷ [] else kept) ++ r.turns
    kept-behind true kept d r = sym (append_assoc kept (d.turn ∷ []) r.turns)
    kept-behind false kept d r = refl

    kept-size : (did : Bool) (kept : List Turn) (t : Turn) (n : ℕ) → length kept ≤ n → length (if did then kept ++ t ∷ [] else kept) ≤ n + 1
    kept-size true kept t n few = let size = length-append kept (t ∷ []) in omega (arith, few, size)
    kept-size false kept t n few = omega (arith, few)

    idle-few : (did : Bool) → p.idle < 16777216 → (if did then 0 else p.idle + 1) ≤ 16777216
    idle-few true few = omega arith
    idle-few false few = omega (arith, few)

    pub goes : (t : Turn) (by : Bool) (later : List Draw) (next : MachineState) (x : TurnAnswer) (came : Came) (did : Bool) (i : IsMeasuring now p ds tally) → length all ≤ 4294967295 → IsOn p (at i.drawn s.machine) → ds ≡ drawn_as t by ∷ later
        → came ≡ came_to (drawn_as t by) now.machine → did ≡ is_done came → (is_done came ≡ true → x ≡ (turn_of t now.machine).answer) → next.machine ≡ after_draw (drawn_as t by) now.machine → next.turns ≤ now.turns + 1
        → IsMeasuring next (noted did p) later (after_came came t x next.machine tally)
    goes t by later next x came did i fits on first is done answer after counts =
        let d = drawn_as t by in
        let here = at i.drawn s.machine in
        let there = at (i.drawn ++ d ∷ []) s.machine in
        let length_first = ap length first in
        let size = i.size in
        let few_now = i.few in
        let kept_now = i.kept_few in
        let longer = length-append i.drawn (d ∷ []) in
        let came_here : came ≡ came_to d here = is ∙ came-alike t by now.machine here i.alike in
        let does : draw_does d here ≡ did = sym (done ∙ ap is_done came_here ∙ draw-done d here) in
        let moved : there ≡ after_draw d here = at-more i.drawn t by s.machine in
        let alike : without_ops next.machine ≡ without_ops (after_draw d here) = ap without_ops after ∙ draw-alike t by now.machine here i.alike in
        let same : recording_from p.left p.idle ds here ≡ with_draw d did (recording_from (noted did p).left (noted did p).idle later there) =
        ap (λ l. recording_from p.left p.idle l here) first ∙ goes-on p.left p.idle d later here on.none
        ∙ ap (λ b. with_draw d b (recording_from (if b then p.left - 1 else p.left) (if b then 0 else p.idle + 1) later (after_draw d here))) does
        ∙ ap (λ k. with_draw d did (recording_from (noted did p).left (noted did p).idle later k)) (sym moved) in
        record {
          drawn = i.drawn ++ d ∷ [];
          kept = if did then i.kept ++ t ∷ [] else i.kept;
          end = i.end ∙ ap (λ (r : Recording). r.end) same;
          turns = i.turns ∙ ap (λ (r : Recording). i.kept ++ r.turns) same ∙ kept-behind did i.kept d (recording_from (noted did p).left (noted did p).idle later there);
          draws = i.draws ∙ ap (λ (r : Recording). i.drawn ++ r.drawn) same ∙ sym (append_assoc i.drawn (d ∷ []) (recording_from (noted did p).left (noted did p).idle later there).drawn);
          machine = i.machine ∙ ap (λ (r : Recording). r.machine) same;
          ran = kept-ran t by did i.kept s.machine here does i.ran ∙ sym moved;
          alike = alike ∙ ap without_ops (sym moved);
          known = All-tail (λ (e : Draw). names_part e.turn s.machine ≡ true) d later (subst (All (λ (e : Draw). names_part e.turn s.machine ≡ true)) first i.known);
          count = (let drawn_now = i.count in omega (arith, drawn_now, length_first));
          size = omega (arith, size, length_first, longer);
          few = omega (arith, few_now, length_first, counts);
          idle = idle-few did on.idle;
          kept_few = (let now_kept = kept-size did i.kept t (length i.drawn) i.kept_few in omega (arith, now_kept, longer));
          tallied =
              ap (after_came came t x next.machine) i.tallied
              ∙ measures-more t by i.drawn i.kept s.machine now.machine next.machine x came (omega (arith, size, length_first, fits)) (omega (arith, size, length_first, fits, kept_now)) i.ran i.alike came_here answer alike
              ∙ ap (λ b. measured_so 0 (if b then i.kept ++ t ∷ [] else i.kept) (made_turns (i.drawn ++ d ∷ [])) s.machine) (sym done);
        }

    -- where it ends
    pub record IsMeasured (e : RunEnd) : Type 0 where
      pub end : e ≡ whole.end
      pub measures : measured_so (length whole.drawn) whole.turns (made_turns whole.drawn) s.machine ≡ record tally { totals = record tally.totals { drawn = length all - p.draws } }
      pub after : without_ops now.machine ≡ without_ops whole.machine

    is-measured : (e : RunEnd) (i : IsMeasuring now p ds tally) → recording_from p.left p.idle ds (at i.drawn s.machine) ≡ ended e (at i.drawn s.machine) → IsMeasured e
    is-measured e i over =
        let drawn : whole.drawn ≡ i.drawn = i.draws ∙ ap (λ (r : Recording). i.drawn ++ r.drawn) over ∙ append-nil i.drawn in
        let kept : whole.turns ≡ i.kept = i.turns ∙ ap (λ (r : Recording). i.kept ++ r.turns) over ∙ append-nil i.kept in
        let counted : length i.drawn ≡ length all - p.draws = (let size = i.size in let left = i.count in omega (arith, size, left)) in
        record {
          end = sym (i.end ∙ ap (λ (r : Recording). r.end) over);
          measures =
              ap (λ l. measured_so (length l) whole.turns (made_turns l) s.machine) drawn ∙ ap (λ l. measured_so (length i.drawn) l (made_turns i.drawn) s.machine) kept
              ∙ ap (λ n. measured_so n i.kept (made_turns i.drawn) s.machine) counted ∙ ap (λ (u : Measures). record u { totals = record u.totals { drawn = length all - p.draws } }) (sym i.tallied);
          after = i.alike ∙ ap without_ops (sym (i.machine ∙ ap (λ (r : Recording). r.machine) over));
        }

    pub is-over : (e : RunEnd) (halted : Bool) → IsMeasuring now p ds tally → halted ≡ all_halted now.machine → end_now halted p ≡ Some e → IsMeasured e
    is-over e halted i is over = is-measured e i (ends p ds (at i.drawn s.machine) i.count halted e (is ∙ halted-alike now.machine (at i.drawn s.machine) i.alike) over)

    -- or doesn't
    pub still-on : (halted : Bool) (i : IsMeasuring now p ds tally) → halted ≡ all_halted now.machine → end_now halted p ≡ None → IsOn p (at i.drawn s.machine)
    still-on halted i is none = is-on p ds (at i.drawn s.machine) i.count halted i.idle (is ∙ halted-alike now.machine (at i.drawn s.machine) i.alike) none

-- the turn that was drawn names a part of the machine after it
pub names-after : (t : Turn) (by : Bool) (m k : MachineValue) → k ≡ after_draw (drawn_as t by) m → names_part t m ≡ true → names_part t k ≡ true
unfolding run_of
names-after t true m k is named = ap (names_part t) is ∙ run-names t (t ∷ []) m ∙ named
names-after t false m k is named = ap (names_part t) is ∙ named

-- the room that is left
pub room-left : (did : Bool) (room left before after : ℕ) → left ≡ room - (if did then 1 else 0) → room ≤ before → before ≤ after + (if did then 1 else 0) → left ≤ after
room-left true room left before after is fits falls = omega (arith, is, fits, falls)
room-left false room left before after is fits falls = omega (arith, is, fits, falls)

-- what was measured so of a whole run are its measures
pub measures-are : (r : Recording) (m : MachineValue) → measures_of r m ≡ measured_so (length r.drawn) r.turns (made_turns r.drawn) m
unfolding measures_of totals_of
measures-are r m = refl
