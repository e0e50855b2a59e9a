use Rattle.std.proofs.Common.{◌≡◌, ◌≤◌, length, List, ℕ, ap, sym, subst, ◌∙◌, arith}
use Rattle.std.proofs.lemmas.List.{length-map}
use Rattle.tree_config.specs.Levels.{widths_of}
use Rattle.schedule_log.specs.Seeding.{OneBus, buses_of, widths_in}
use Rattle.schedule_log.proofs.Draws.{widths_in_buses}
use Rattle.schedule_log.proofs.bus_draws.TreeDraws.new.Goals as goal

same : (c : goal.In_ok-all_bus_turns-in-None) → widths_in c.in_ok-all_bus_turns-in-None.field-0.items ≡ widths_of c.args.shape.now
same c = ap widths_in c.in_ok-all_bus_turns-in-None.ensures ∙ widths_in_buses (widths_of c.args.shape.now)

pub invariant_of-result : goal.invariant_of-result
invariant_of-result c =
    let list = c.in_ok-all_bus_turns-in-None.field-0.items in
    let count : length list ≡ length (widths_of c.args.shape.now) = sym (length-map list (λ (b : OneBus). b.children)) ∙ ap length (same c) in
    record {
      some = omega (arith, c.new-in-None.ensures, c.buses-buses.ensures.some);
      number = c.new-in-None.ensures ∙ c.buses-buses.ensures.buses ∙ sym count;
      each = c.in_ok-all_bus_turns-in-None.ensures ∙ ap (λ (ws : List ℕ). buses_of ws) (sym (same c));
    }

pub returns-in_ok-all_bus_turns-in-None-clause-widths : goal.returns-in_ok-all_bus_turns-in-None-clause-widths
returns-in_ok-all_bus_turns-in-None-clause-widths c = same c

pub returns-in_ok-all_bus_turns-in-None-clause-some : goal.returns-in_ok-all_bus_turns-in-None-clause-some
returns-in_ok-all_bus_turns-in-None-clause-some c = subst (λ n. 1 ≤ n) (c.buses-buses.ensures.buses ∙ sym (ap length (same c))) c.buses-buses.ensures.some
