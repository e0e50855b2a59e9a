use Rattle.std.proofs.Common.{◌≡◌, length, Some, subst, ◌∙◌, arith}
use Rattle.std.specs.Prelude.{slice_get}
use Rattle.explorer.specs.Searching.{SearchState}
use Rattle.exploring.proofs.SearchFindings.{first-next}
use Rattle.exploring.proofs.finding.next_turns.Goals as goal

pub returns : goal.returns
returns c m =
    let ts = c.in_ok-schedule.schedule.items in
    let v = c.args.search.now in
    let counted : c.len-2.result ≡ length ts = omega (arith, c.len-2.ensures, c.in_ok-schedule.schedule.ok.0) in
    let there : slice_get v.schedules v.next ≡ Some ts = subst (λ (u : SearchState). slice_get u.schedules u.next ≡ Some ts) c.search.view_is c.in_ok-schedule.ensures.turns in
    counted ∙ first-next m v.schedules v.next ts there
