-- A recorded run that is under way: what is left of it, and what its turns so far came to.
-- Letters: t is a turn, d a drawn turn, ds drawn turns, m a machine, s one as the code has it, p how far the run is, a an answer.
use Rattle.std.proofs.Common.{◌≡◌, ◌∙◌, ◌≤◌, ◌<◌, ℕ, ◌+◌, ◌-◌, Bool, true, false, nat_eq, List, [], ◌∷◌, ◌++◌, All, Option, Some, None, length, refl, sym, ap, subst, append-nil, append_assoc, length-append, if◌then◌else◌, arith}
use Rattle.std.proofs.lemmas.Bool.{eqb-false, eqb-true}
use Rattle.std.proofs.lemmas.List.Elements.{All-head, All-tail}
use Rattle.ddm_types.specs.declared.turns.Turn.{Turn}
use Rattle.tree_model.specs.State.Values.{MachineValue}
use Rattle.tree_model.specs.Turns.Machine.{names_part, run_of, turn_of}
use Rattle.any_runs.specs.DdmTree.Machine.{MachineState}
use Rattle.any_runs.proofs.RunMore.{machine-more}
use Rattle.any_runs.proofs.StartParts.Names.{run-names}
use Rattle.outcome_model.specs.Halted.{all_halted}
use Rattle.recording_model.specs.LetBy.{Draw}
use Rattle.recording_model.specs.Recording.{Recording, after_draw, draw_does, end_before, ended, idle_limit, recording_from, unless_ended, with_draw}
use Rattle.recording_model.specs.declared.RunEnd.{RunEnd}
use Rattle.recording.specs.Runs.{CanRecord, end_now, noted, recorded}
use Rattle.recording.specs.declared.progress.Progress.{Progress}

-- ---- the end

-- a run that ends before the next turn is drawn
ends-here : (left idle : ℕ) (ds : List Draw) (m : MachineValue) (e : RunEnd) → end_before left idle m ≡ Some e → recording_from left idle ds m ≡ ended e m
unfolding recording_from
ends-here left idle [] m e is = ap (λ o. unless_ended o m (ended RunEnd.Drawn m)) is
ends-here left idle (d ∷ ds) m e is =
    let did = draw_does d m in
    ap (λ o. unless_ended o m (with_draw d did (recording_from (if did then left - 1 else left) (if did then 0 else idle + 1) ds (after_draw d m)))) is

-- one that has no turn left to be drawn
none-left : (left idle : ℕ) (m : MachineValue) → end_before left idle m ≡ None → recording_from left idle [] m ≡ ended RunEnd.Drawn m
unfolding recording_from
none-left left idle m is = ap (λ o. unless_ended o m (ended RunEnd.Drawn m)) is

-- and one that goes on
pub goes-on : (left idle : ℕ) (d : Draw) (ds : List Draw) (m : MachineValue) → end_before left idle m ≡ None
    → recording_from left idle (d ∷ ds) m ≡ (let did = draw_does d m in with_draw d did (recording_from (if did then left - 1 else left) (if did then 0 else idle + 1) ds (after_draw d m)))
unfolding recording_from
goes-on left idle d ds m is =
    let did = draw_does d m in
    ap (λ o. unless_ended o m (with_draw d did (recording_from (if did then left - 1 else left) (if did then 0 else idle + 1) ds (after_draw d m)))) is

-- no end is found
pub record IsOn (p : Progress) (m : MachineValue) : Type 0 where
  pub none : end_before p.left p.idle m ≡ None
  pub left : 0 < p.left
  pub idle : p.idle < 16777216
  pub draws : 0 < p.draws

-- what is known where the code finds an end, or none
abbrev EndFact : Progress → List Draw → MachineValue → Option RunEnd → Type 0
EndFact p ds m None = (end_before p.left p.idle m ≡ None) × (0 < p.left) × (p.idle ≡ 16777216 → ⊥) × (0 < p.draws)
EndFact p ds m (Some e) = recording_from p.left p.idle ds m ≡ ended e m

no-draws : (ds : List Draw) → length ds ≡ 0 → ds ≡ []
no-draws [] none = refl
no-draws (d ∷ ds) none = absurd (omega (arith, none))

module _ (p : Progress) (ds : List Draw) (m : MachineValue) (drawn : p.draws ≡ length ds) where
  abbrev by_idle : Bool → Option RunEnd
  by_idle b = if b then Some RunEnd.Stuck else None

  abbrev by_left : Bool → Bool → Option RunEnd
  by_left b c = if b then Some RunEnd.Turns else by_idle c

  abbrev by_all : Bool → Bool → Bool → Option RunEnd
  by_all a b c = if a then Some RunEnd.Halted else by_left b c

  abbrev now_by : Bool → Bool → Bool → Bool → Option RunEnd
  now_by a b c d = if a then Some RunEnd.Halted else (if b then Some RunEnd.Turns else (if c then Some RunEnd.Stuck else (if d then Some RunEnd.Drawn else None)))

  end-by : (a b c d : Bool) → all_halted m ≡ a → nat_eq p.left 0 ≡ b → nat_eq p.idle idle_limit ≡ c → nat_eq p.draws 0 ≡ d → EndFact p ds m (now_by a b c d)
  end-by true b c d all left idle draws = ends-here p.left p.idle ds m RunEnd.Halted (ap (λ x. by_all x (nat_eq p.left 0) (nat_eq p.idle idle_limit)) all)
  end-by false true c d all left idle draws = ends-here p.left p.idle ds m RunEnd.Turns (ap (λ x. by_all x (nat_eq p.left 0) (nat_eq p.idle idle_limit)) all ∙ ap (λ x. by_left x (nat_eq p.idle idle_limit)) left)
  end-by false false true d all left idle draws =
      ends-here p.left p.idle ds m RunEnd.Stuck (ap (λ x. by_all x (nat_eq p.left 0) (nat_eq p.idle idle_limit)) all ∙ ap (λ x. by_left x (nat_eq p.idle idle_limit)) left ∙ ap by_idle idle)
  end-by false false false true all left idle draws =
      let none : end_before p.left p.idle m ≡ None = ap (λ x. by_all x (nat_eq p.left 0) (nat_eq p.idle idle_limit)) all ∙ ap (λ x. by_left x (nat_eq p.idle idle_limit)) left ∙ ap by_idle idle in
      let empty = no-draws ds (sym drawn ∙ eqb-true p.draws 0 draws) in
      ap (λ l. recording_from p.left p.idle l m) empty ∙ none-left p.left p.idle m none
  end-by false false false false all left idle draws =
      let none : end_before p.left p.idle m ≡ None = ap (λ x. by_all x (nat_eq p.left 0) (nat_eq p.idle idle_limit)) all ∙ ap (λ x. by_left x (nat_eq p.idle idle_limit)) left ∙ ap by_idle idle in
      let some = eqb-false p.left 0 left in
      let more = eqb-false p.draws 0 draws in
      (none, omega (arith, some), eqb-false p.idle idle_limit idle, omega (arith, more))

  end-fact : (all : Bool) → all ≡ all_halted m → EndFact p ds m (end_now all p)
  end-fact all is = end-by all (nat_eq p.left 0) (nat_eq p.idle idle_limit) (nat_eq p.draws 0) (sym is) refl refl refl

  pub ends : (all : Bool) (e : RunEnd) → all ≡ all_halted m → end_now all p ≡ Some e → recording_from p.left p.idle ds m ≡ ended e m
  ends all e is end = subst (EndFact p ds m) end (end-fact all is)

  pub is-on : (all : Bool) → p.idle ≤ 16777216 → all ≡ all_halted m → end_now all p ≡ None → IsOn p m
  is-on all few is end =
      let fact = subst (EndFact p ds m) end (end-fact all is) in
      let other : p.idle ≡ 16777216 → ⊥ = fact.2 in
      record { none = fact.0; left = fact.1; idle = omega (arith, few, other); draws = fact.3 }

-- ---- under way

-- the whole run is what was recorded, and then the rest
pub record GoesOn (whole rest : Recording) (kept : List Turn) : Type 0 where
  pub end : whole.end ≡ rest.end
  pub turns : whole.turns ≡ kept ++ rest.turns
  pub machine : whole.machine ≡ rest.machine

-- the machine, the turns that are recorded, how far the run is and the drawn turns that are left
pub record IsUnderWay (most : ℕ) (all : List Draw) (s : MachineState) (before : List Turn) (now : MachineState) (turns : List Turn) (p : Progress) (ds : List Draw) : Type 0 where
  pub kept : List Turn
  pub rest : GoesOn (recorded most all s) (recording_from p.left p.idle ds now.machine) kept
  pub listed : turns ≡ before ++ kept
  pub made : List Turn
  pub ran : now.machine ≡ (run_of made s.machine).machine
  pub known : All (λ (d : Draw). names_part d.turn s.machine ≡ true) ds
  pub drawn : p.draws ≡ length ds
  pub few : now.turns + length ds ≤ 4294967295
  pub spare : p.left ≤ now.spare
  pub idle : p.idle ≤ 16777216

module _ (most : ℕ) (all : List Draw) (s : MachineState) (before : List Turn) where
  pub begins : (count : ℕ) → CanRecord most all s → count ≡ length all → IsUnderWay most all s before s before (record { left = most; idle = 0; draws = count }) all
  unfolding run_of
  begins count can drawn = record {
    kept = [];
    rest = record { end = refl; turns = refl; machine = refl };
    listed = sym (append-nil before);
    made = [];
    ran = refl;
    known = can.known;
    drawn = drawn;
    few = can.few;
    spare = can.spare;
    idle = omega arith;
  }

  module _ (now : MachineState) (turns : List Turn) (p : Progress) where
    -- where it ends
    pub record IsDone (e : RunEnd) : Type 0 where
      pub end : e ≡ (recorded most all s).end
      pub listed : turns ≡ before ++ (recorded most all s).turns
      pub machine : now.machine ≡ (recorded most all s).machine

    pub is-done : (ds : List Draw) (e : RunEnd) (halted : Bool) → IsUnderWay most all s before now turns p ds → halted ≡ all_halted now.machine → end_now halted p ≡ Some e → IsDone e
    is-done ds e halted u is end =
        let rest = ends p ds now.machine u.drawn halted e is end in
        record {
          end = sym (u.rest.end ∙ ap (λ (r : Recording). r.end) rest);
          listed = u.listed ∙ ap (λ l. before ++ l) (sym (u.rest.turns ∙ ap (λ (r : Recording). u.kept ++ r.turns) rest ∙ append-nil u.kept));
          machine = sym (u.rest.machine ∙ ap (λ (r : Recording). r.machine) rest);
        }

    -- the turn that is drawn next names a part of the machine
    pub names-here : (d : Draw) (ds later : List Draw) → ds ≡ d ∷ later → IsUnderWay most all s before now turns p ds → names_part d.turn now.machine ≡ true
    names-here d ds later first u =
        let known = All-head (λ (e : Draw). names_part e.turn s.machine ≡ true) d later (subst (All (λ (e : Draw). names_part e.turn s.machine ≡ true)) first u.known) in
        ap (names_part d.turn) u.ran ∙ run-names d.turn u.made s.machine ∙ known

    -- one more of the turns that were made, or none
    record Made (m : MachineValue) : Type 0 where
      list : List Turn
      ran : m ≡ (run_of list s.machine).machine

    made-more : (t : Turn) (by : Bool) (made : List Turn) → now.machine ≡ (run_of made s.machine).machine → Made (if by then (turn_of t now.machine).machine else now.machine)
    made-more t true made ran = record { list = made ++ t ∷ []; ran = ap (λ m. (turn_of t m).machine) ran ∙ sym (machine-more made t s.machine) }
    made-more t false made ran = record { list = made; ran = ran }

    -- what one more drawn turn leaves of the run
    module _ (whole : Recording) (kept : List Turn) (d : Draw) (ds later : List Draw) (did : Bool) where
      abbrev kept_with : List Turn → List Turn
      kept_with l = if did then l ++ d.turn ∷ [] else l

      abbrev rest_of : Bool → MachineValue → Recording
      rest_of b k = with_draw d b (recording_from (if b then p.left - 1 else p.left) (if b then 0 else p.idle + 1) later k)

      with-kept : (b : Bool) (r : Recording) (l : List Turn) → l ++ (with_draw d b r).turns ≡ (if b then l ++ d.turn ∷ [] else l) ++ r.turns
      with-kept true r l = sym (append_assoc l (d.turn ∷ []) r.turns)
      with-kept false r l = refl

      rest-goes : ds ≡ d ∷ later → IsOn p now.machine → did ≡ draw_does d now.machine → (k : MachineValue) → k ≡ after_draw d now.machine → GoesOn whole (recording_from p.left p.idle ds now.machine) kept
          → GoesOn whole (recording_from (noted did p).left (noted did p).idle later k) (kept_with kept)
      rest-goes first on does k after rest =
          let same : recording_from p.left p.idle ds now.machine ≡ rest_of did k = ap (λ l. recording_from p.left p.idle l now.machine) first ∙ goes-on p.left p.idle d later now.machine on.none
          ∙ ap (λ b. rest_of b (after_draw d now.machine)) (sym does) ∙ ap (rest_of did) (sym after) in
          record {
            end = rest.end ∙ ap (λ (r : Recording). r.end) same;
            turns = rest.turns ∙ ap (λ (r : Recording). kept ++ r.turns) same ∙ with-kept did (recording_from (noted did p).left (noted did p).idle later k) kept;
            machine = rest.machine ∙ ap (λ (r : Recording). r.machine) same;
          }

    kept-behind : (did : Bool) (kept : List Turn) (t : Turn) → (if did then (before ++ kept) ++ t ∷ [] else before ++ kept) ≡ before ++ (if did then kept ++ t ∷ [] else kept)
    kept-behind true kept t = append_assoc before kept (t ∷ [])
    kept-behind false kept t = refl

    spare-left : (did : Bool) (left here there : ℕ) → left ≤ here → here ≤ there + (if did then 1 else 0) → (if did then left - 1 else left) ≤ there
    spare-left true left here there fits falls = omega (arith, fits, falls)
    spare-left false left here there fits falls = omega (arith, fits, falls)

    idle-few : (did : Bool) → p.idle < 16777216 → (if did then 0 else p.idle + 1) ≤ 16777216
    idle-few true few = omega arith
    idle-few false few = omega (arith, few)

    pub goes : (d : Draw) (ds later : List Draw) (did : Bool) (next : MachineState) → IsUnderWay most all s before now turns p ds → IsOn p now.machine → ds ≡ d ∷ later → did ≡ draw_does d now.machine
        → next.machine ≡ after_draw d now.machine → now.spare ≤ next.spare + (if did then 1 else 0) → next.turns ≤ now.turns + 1
        → IsUnderWay most all s before next (if did then turns ++ d.turn ∷ [] else turns) (noted did p) later
    goes d ds later did next u on first does after falls counts =
        let size = ap length first in
        let made = made-more d.turn d.let_by u.made u.ran in
        record {
          kept = if did then u.kept ++ d.turn ∷ [] else u.kept;
          rest = rest-goes (recorded most all s) u.kept d ds later did first on does next.machine after u.rest;
          listed = ap (λ l. if did then l ++ d.turn ∷ [] else l) u.listed ∙ kept-behind did u.kept d.turn;
          made = made.list;
          ran = after ∙ made.ran;
          known = All-tail (λ (e : Draw). names_part e.turn s.machine ≡ true) d later (subst (All (λ (e : Draw). names_part e.turn s.machine ≡ true)) first u.known);
          drawn = omega (arith, u.drawn, size);
          few = omega (arith, u.few, size, counts);
          spare = spare-left did p.left now.spare next.spare u.spare falls;
          idle = idle-few did on.idle;
        }

-- the turns that are recorded have room
pub room-kept : (did : Bool) (turns : List Turn) (t : Turn) (left before after : ℕ) → 0 < left → length turns + left ≤ before → before ≤ after → length (if did then turns ++ t ∷ [] else turns) + (if did then left - 1 else left) ≤ after
room-kept true turns t left before after some room grows = let longer = length-append turns (t ∷ []) in omega (arith, some, room, grows, longer)
room-kept false turns t left before after some room grows = omega (arith, room, grows)
