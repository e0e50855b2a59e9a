use Rattle.std.proofs.Common.{◌≡◌, All, ap, subst, ◌∙◌}
use Rattle.schedule_log.specs.Seeding.{SeededView}
use Rattle.seed_draws.specs.TextModel.ReadBack.{IsTurnOf}
use Rattle.seed_draws.specs.TextModel.Schedule.{ShapeView}
use Rattle.seed_draws.specs.TextModel.Seeded.{seeded_turns}
use Rattle.recording_model.specs.LetBy.{skew_of}
use Rattle.seed_draws.specs.Parts.{DrawsView}
use Rattle.seed_draws.proofs.Draws.{begun, draws-known, draws-length}
use Rattle.seed_draws.proofs.drawing.SeedDraws.begin.Goals as goal

pub returns-clause-draws : goal.returns-clause-draws
returns-clause-draws c =
    let shape : ShapeView = c.args.self.now.shape in
    let same : c.self.inside.seeds.shape ≡ shape = ap (λ (v : DrawsView). v.shape) c.self.view_is in
    let skewed : c.self.inside.skewing.shape ≡ shape = c.self.invariant.0 ∙ same in
    let turns = ap (λ (v : SeededView). v.left) c.begin.ensures.turns ∙ ap (λ (s : ShapeView). seeded_turns s c.args.seed c.args.count) same in
    begun c.args.kind shape c.begin.new.self.shape c.begin-2.new.self c.args.seed c.args.count c.begin.new.self.left (ap (λ (v : SeededView). v.shape) c.begin.ensures.turns ∙ same)
    (c.begin-2.ensures.rates ∙ ap (λ (s : ShapeView). (skew_of s c.args.seed).rates) skewed) (c.begin-2.ensures.words ∙ ap (λ (s : ShapeView). (skew_of s c.args.seed).words) skewed) turns

pub returns-clause-known : goal.returns-clause-known
returns-clause-known c =
    let shape : ShapeView = c.args.self.now.shape in
    let same : c.self.inside.seeds.shape ≡ shape = ap (λ (v : DrawsView). v.shape) c.self.view_is in
    draws-known shape c.args.kind c.begin.new.self.shape c.begin-2.new.self c.begin.new.self.left (subst (λ (s : ShapeView). All (IsTurnOf s) c.begin.new.self.left) same c.begin.ensures.known)

pub returns-clause-count : goal.returns-clause-count
returns-clause-count c = draws-length c.args.kind c.begin.new.self.shape c.begin-2.new.self c.begin.new.self.left ∙ c.begin.ensures.count
