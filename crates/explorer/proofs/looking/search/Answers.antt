use Rattle.std.proofs.Common.{◌≡◌, suc, ◌+◌, sym, ap, subst, ◌∙◌, arith}
use Rattle.tree_model.specs.State.Values.{MachineValue}
use Rattle.search_laws.specs.Search.{begun, next_taken_up, taken_up}
use Rattle.search_model.specs.Machines.{quiet_space}
use Rattle.state_keys.specs.Same.{same_state}
use Rattle.explorer.specs.Searching.{IsKept, searched_by}
use Rattle.explorer.proofs.TurnsLooked.{taken-more, all-taken}
use Rattle.explorer.proofs.Right.{search-right}
use Rattle.explorer.proofs.looking.search.Goals as goal

pub loop-taken-init : goal.loop-taken-init
loop-taken-init g c = record { start = c.begin.ensures.start; kept = c.in_ok-search.ensures.kept; searched = c.in_ok-search.ensures.begun c.args.most }

pub loop-taken-preserved : goal.loop-taken-preserved
loop-taken-preserved g c =
    let m = g.M.States.start c.args.states.now in
    let i = c.loop-taken.invariant in
    let k = c.loop-taken._taken in
    let further : suc k ≡ k + 1 = omega arith in
    let more = subst (λ (n : MachineValue). searched_by n c.take_up.new.self ≡ next_taken_up (quiet_space same_state) c.args.most (searched_by n c.loop-taken.search)) i.start c.in_ok-take_up.ensures.searched in
    record {
      start = c.take_up.ensures.start ∙ i.start;
      kept = subst (λ (n : MachineValue). IsKept n c.take_up.new.self) i.start c.in_ok-take_up.ensures.kept;
      searched =
          more ∙ ap (next_taken_up (quiet_space same_state) c.args.most) i.searched ∙ sym (taken-more (quiet_space same_state) c.args.most k (begun (quiet_space same_state) c.args.most m))
          ∙ ap (λ n. taken_up (quiet_space same_state) c.args.most n (begun (quiet_space same_state) c.args.most m)) further;
    }

pub returns-clause-searched : goal.returns-clause-searched
returns-clause-searched g c = c.loop-taken.invariant.searched ∙ all-taken (quiet_space same_state) c.args.most c.loop-taken._taken (g.M.States.start c.args.states.now) (omega (arith, c.loop-taken-test.false, c.loop-taken.auto._taken-end))

pub returns-clause-right : goal.returns-clause-right
returns-clause-right g c =
    search-right c.args.most (g.M.States.start c.args.states.now) (searched_by (g.M.States.start c.args.states.now) c.loop-taken.search)
    (c.loop-taken.invariant.searched ∙ all-taken (quiet_space same_state) c.args.most c.loop-taken._taken (g.M.States.start c.args.states.now) (omega (arith, c.loop-taken-test.false, c.loop-taken.auto._taken-end)))
