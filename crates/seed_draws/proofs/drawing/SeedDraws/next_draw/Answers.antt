use Rattle.std.proofs.Common.{◌≡◌, ◌+◌, ◌∷◌, ◌∙◌, List, ap, sym, length, arith}
use Rattle.std.specs.Prelude.{slice_index_or}
use Rattle.seed_draws.specs.DdmTypes.declared.turns.Turn.{Turn}
use Rattle.recording_model.specs.LetBy.{Draw}
use Rattle.seed_draws.specs.TextModel.Schedule.{ShapeView}
use Rattle.seed_draws.specs.Parts.{DrawsView, draws_left, turns_in_block}
use Rattle.seed_draws.proofs.Draws.{draws-length, one-taken, whole-written}
use Rattle.seed_draws.proofs.drawing.SeedDraws.next_draw.Goals as goal

pub fill-requires-clause-some : goal.fill-requires-clause-some
fill-requires-clause-some c =
    let s = c.self.inside in
    let counted = sym (draws-length s.kind s.seeds.shape s.skewing (turns_in_block s.next s.end s.block.items s.seeds.left)) ∙ ap (λ (v : DrawsView). length v.left) c.self.view_is in
    let same = ap (λ (b : List Turn). length (turns_in_block s.next s.end b s.seeds.left)) c.deref_mut.ensures.value in
    omega (arith, counted, same, c.requires)

pub fill-requires-clause-room : goal.fill-requires-clause-room
fill-requires-clause-room c = omega (arith, c.self.invariant.3, ap length c.deref_mut.ensures.value)

pub index-requires : goal.index-requires
index-requires c = omega (arith, c.fill.ensures.some, c.fill.ensures.inside, c.fill.auto.block, c.deref_mut.ensures.len)

pub returns-clause-draw : goal.returns-clause-draw
returns-clause-draw c =
    let s = c.self.inside in
    let block = c.fill.new.block in
    let next = c.fill.new.next in
    let end = c.fill.new.end in
    let seeds = c.fill.new.seeds in
    let was : length s.block.items ≡ s.block.len = omega (arith, c.deref_mut.ensures.len, ap length c.deref_mut.ensures.value) in
    let whole = whole-written block s.block.items s.block.len (c.fill.auto.block ∙ c.deref_mut.ensures.len) was in
    let turn = c.index.result.now in
    let later = turns_in_block (next + 1) end block seeds.left in
    let here : turn ≡ slice_index_or block next turn = c.index.ensures ∙ ap (λ (b : List Turn). slice_index_or b next turn) whole in
    let all : turns_in_block s.next s.end s.block.items s.seeds.left ≡ turn ∷ later =
    ap (λ (b : List Turn). turns_in_block s.next s.end b s.seeds.left) (sym c.deref_mut.ensures.value) ∙ sym c.fill.ensures.left
    ∙ one-taken next end block seeds.left turn c.fill.ensures.some c.fill.ensures.inside ∙ ap (λ (t : Turn). t ∷ later) (sym here) in
    let after = c.lets_by-let_by.new.skewing in
    let d : Draw = record { turn = turn; let_by = c.lets_by-let_by.result } in
    sym (ap (λ (v : DrawsView). v.left) c.self.view_is)
    ∙ ap (draws_left s.kind s.seeds.shape s.skewing) all
    ∙ ap (λ (shape : ShapeView). draws_left s.kind shape s.skewing (turn ∷ later)) (sym c.self.invariant.0)
    ∙ c.lets_by-let_by.ensures.draws later
    ∙ ap (λ (shape : ShapeView). d ∷ draws_left s.kind shape after later) (c.self.invariant.0 ∙ sym c.fill.ensures.shape)
    ∙ ap (λ (b : List Turn). d ∷ draws_left s.kind seeds.shape after (turns_in_block (next + 1) end b seeds.left)) (sym whole)

pub invariant_of-self : goal.invariant_of-self
invariant_of-self c =
    let s = c.self.inside in
    let was : length s.block.items ≡ s.block.len = omega (arith, c.deref_mut.ensures.len, ap length c.deref_mut.ensures.value) in
    let whole = whole-written c.fill.new.block s.block.items s.block.len (c.fill.auto.block ∙ c.deref_mut.ensures.len) was in (
      c.lets_by-let_by.ensures.shape ∙ c.self.invariant.0 ∙ sym c.fill.ensures.shape,
      omega (arith, c.fill.ensures.some),
      omega (arith, c.fill.ensures.inside, ap length whole),
      omega (arith, c.fill.ensures.some, c.fill.ensures.inside, ap length whole),
    )
