use Rattle.std.proofs.Common.{◌≡◌, ◌++◌, ◌∷◌, [], take, sym, ap, subst, ◌∙◌}
use Rattle.ddm_types.specs.declared.turns.Turn.{Turn}
use Rattle.tree_model.specs.State.Values.{MachineValue}
use Rattle.search_laws.specs.Search.{Kept, looked_at, looked_through}
use Rattle.search_model.specs.Machines.{quiet_space}
use Rattle.state_keys.specs.Same.{same_state}
use Rattle.explorer.specs.Searching.{TakesUp, kept_by, searched_by}
use Rattle.explorer.proofs.TurnsLooked.{gone-kept, through-more, take-next}
use Rattle.explorer.proofs.progress.Search.look_through.Goals as goal

pub loop-turn-preserved : goal.loop-turn-preserved
loop-turn-preserved g c =
    let m = g.M.States.start c.args.states.now in
    let i = c.loop-turn.invariant in
    let k = c.loop-turn.turn-index in
    let t = c.turn-item.result in
    let ts = c.args.schedule.now in
    let before = searched_by m c.args.self.now in
    let looked = subst (λ (n : MachineValue). searched_by n c.look_at.new.self ≡ looked_at (quiet_space same_state) c.args.most (kept_by n (ts ++ t ∷ [])) (searched_by n c.loop-turn.self)) i.start c.in_ok-look_at.ensures.searched in
    record {
      start = c.look_at.ensures.start ∙ i.start;
      at = c.look_at.ensures.at ∙ i.at;
      taking = subst (λ (n : MachineValue). TakesUp n ts c.look_at.new.self) i.start c.in_ok-look_at.ensures.taking;
      searched =
          looked ∙ ap (looked_at (quiet_space same_state) c.args.most (kept_by m (ts ++ t ∷ []))) i.searched
          ∙ ap (λ (e : Kept MachineValue Turn). looked_at (quiet_space same_state) c.args.most e (looked_through (quiet_space same_state) c.args.most (kept_by m ts) (take k c.args.turns.now) before)) (gone-kept m ts t)
          ∙ sym (through-more (quiet_space same_state) c.args.most (kept_by m ts) (take k c.args.turns.now) t before)
          ∙ ap (λ l. looked_through (quiet_space same_state) c.args.most (kept_by m ts) l before) (sym (take-next c.args.turns.now k t c.loop-turn-test.true c.turn-item.is));
    }
