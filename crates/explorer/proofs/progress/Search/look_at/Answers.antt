use Rattle.std.proofs.Common.{◌≡◌, true, false, ◌++◌, ◌∷◌, [], sym, ap, subst, ◌∙◌}
use Rattle.std.specs.Prelude.{ℕ, List, OnOk, Result, Ok, Err}
use Rattle.ddm_types.specs.declared.turns.Turn.{Turn}
use Rattle.tree_model.specs.State.Values.{MachineValue}
use Rattle.tree_model.specs.Turns.Machine.{turn_of}
use Rattle.outcome_model.specs.Halted.{all_halted}
use Rattle.outcome_model.specs.Outcome.{outcome_of}
use Rattle.search_laws.specs.Search.{with_state}
use Rattle.search_model.specs.Explored.{MachineFound}
use Rattle.search_model.specs.Machines.{quiet_space}
use Rattle.state_keys.specs.Same.{same_state}
use Rattle.explorer.specs.Searching.{SearchState, noted, state_by, kept_by, searched_by}
use Rattle.explorer.proofs.TurnsLooked.{gone-state, end-looked, state-looked}
use Rattle.explorer.proofs.progress.Search.look_at.Goals as goal

-- where it is well, one fact gives another
on-ok : {T E P Q : Type 0} (r : Result T E) → OnOk r P → (P → Q) → OnOk r Q
on-ok (Ok x) holds gives = gives holds
on-ok (Err e) holds gives = tt

pub keep-requires-clause-reached : goal.keep-requires-clause-reached
keep-requires-clause-reached g c =
    c.in_ok-make.ensures.reached ∙ ap (λ (s : MachineValue). (turn_of c.args.turn s).machine) c.requires.at ∙ sym (gone-state (g.M.States.start c.args.states.now) c.args.schedule.now c.args.turn)
    ∙ ap (λ (n : MachineValue). state_by n (c.args.schedule.now ++ c.args.turn ∷ [])) (sym c.make.ensures.start)

pub returns-clause-searched : goal.returns-clause-searched
returns-clause-searched g c =
    let m = g.M.States.start c.args.states.now in
    let ts = c.args.schedule.now ++ c.args.turn ∷ [] in
    let there : g.M.States.reached c.make.new.self ≡ state_by m ts = c.in_ok-make.ensures.reached ∙ ap (λ (s : MachineValue). (turn_of c.args.turn s).machine) c.requires.at ∙ sym (gone-state m c.args.schedule.now c.args.turn) in
    let ended : all_halted (state_by m ts) ≡ true = ap all_halted (sym there) ∙ sym c.has_ended.ensures ∙ c.if-not-has_ended.false in
    let runs : c.args.self.now.full ≡ false = sym (ap (λ (s : SearchState). s.full) c.self.view_is) ∙ c.if-self.false in
    let line : ◌≡◌ {A = MachineFound} (record { outcome = c.in_ok-outcome.field-0.items; schedule = c.in_ok-gone_on.field-0.items }) (record { outcome = outcome_of (state_by m ts); schedule = ts })
    = ap (λ (o : List ℕ). record { outcome = o; schedule = c.in_ok-gone_on.field-0.items }) (c.in_ok-outcome.ensures ∙ ap outcome_of there)
    ∙ ap (λ (l : List Turn). record { outcome = outcome_of (state_by m ts); schedule = l }) c.in_ok-gone_on.ensures in
    on-ok c.note.result c.note.ensures (λ more.
    ap (λ (s : SearchState). searched_by m (record s { found = c.note.new.lines.items })) c.self.view_is
    ∙ ap (λ (fs : List MachineFound). searched_by m (record c.args.self.now { found = fs })) (more ∙ ap (λ (f : MachineFound). noted f c.self.inside.found.items) line ∙ ap (λ (s : SearchState). noted (record { outcome = outcome_of (state_by m ts); schedule = ts }) s.found) c.self.view_is)
    ∙ sym (end-looked c.args.most m ts c.args.self.now runs ended))

pub returns-then-not-has_ended-clause-searched : goal.returns-then-not-has_ended-clause-searched
returns-then-not-has_ended-clause-searched g c =
    let m = g.M.States.start c.args.states.now in
    let ts = c.args.schedule.now ++ c.args.turn ∷ [] in
    let there : g.M.States.reached c.make.new.self ≡ state_by m ts = c.in_ok-make.ensures.reached ∙ ap (λ (s : MachineValue). (turn_of c.args.turn s).machine) c.requires.at ∙ sym (gone-state m c.args.schedule.now c.args.turn) in
    let goes : all_halted (state_by m ts) ≡ false = ap all_halted (sym there) ∙ sym c.has_ended.ensures ∙ c.if-not-has_ended.true in
    let runs : c.args.self.now.full ≡ false = sym (ap (λ (s : SearchState). s.full) c.self.view_is) ∙ c.if-self.false in
    on-ok c.keep.result c.keep.ensures.searched (λ kept.
    subst (λ (n : MachineValue). searched_by n c.keep.new.self ≡ with_state (quiet_space same_state) c.args.most (kept_by n ts) (searched_by n c.args.self.now)) c.make.ensures.start kept
    ∙ sym (state-looked c.args.most m ts c.args.self.now runs goes))
