use Rattle.std.proofs.Common.{◌≡◌, ◌+◌, ◌<◌, ◌≤◌, ℕ, List, Bool, true, length, map, replicate, ap, subst, sym, ◌∙◌, arith}
use Rattle.std.specs.List.{AllByRecursion}
use Rattle.std.proofs.lemmas.List.{length-replicate}
use Rattle.explorer.specs.Losing.{flags_after, kept_at, places_from}
use Rattle.explorer.specs.Searching.{SearchState}
use Rattle.explorer.specs.declared.losing.Way.{Way}
use Rattle.explorer.proofs.Lefts.{flags-counted, places-within}
use Rattle.explorer.proofs.Ways.{all-lost}
use Rattle.explorer.proofs.losing.lost_states.Goals as goal

-- as many flags as states were taken up
flags-all : (ws : List Way) (n : ℕ) → length (flags_after n ws (replicate n true)) ≡ n
flags-all ws n = flags-counted ws n (replicate n true) ∙ length-replicate n true

pub numbers-requires : goal.numbers-requires
numbers-requires g c =
    let counted : length c.deref-2.result.now ≡ c.search.inside.next = ap length (c.deref-2.ensures.value ∙ c.in_ok-left.ensures) ∙ flags-all c.deref.result.now c.search.inside.next in
    let same : c.search.inside.next ≡ c.args.search.now.next = ap (λ (s : SearchState). s.next) c.search.view_is in
    omega (arith, counted, same, c.requires.kept.next, c.requires.kept.few)

pub returns-clause-lost : goal.returns-clause-lost
returns-clause-lost g c =
    let m = g.M.States.start c.args.states.now in
    let v = c.args.search.now in
    let ws = c.in_ok-ways.ways.items in
    let same : c.search.inside.next ≡ v.next = ap (λ (s : SearchState). s.next) c.search.view_is in
    ap (map (kept_at m v)) (c.in_ok-lost.ensures ∙ ap (places_from 0) (c.deref-2.ensures.value ∙ c.in_ok-left.ensures ∙ ap (λ (l : List Way). flags_after c.search.inside.next l (replicate c.search.inside.next true)) c.deref.ensures.value ∙ ap (λ n. flags_after n ws (replicate n true)) same))
    ∙ all-lost m v c.requires.kept ws c.in_ok-ways.ensures.ways

pub returns-clause-few : goal.returns-clause-few
returns-clause-few g c =
    let counted : length c.deref-2.result.now ≡ c.search.inside.next = ap length (c.deref-2.ensures.value ∙ c.in_ok-left.ensures) ∙ flags-all c.deref.result.now c.search.inside.next in
    let same : c.search.inside.next ≡ c.args.search.now.next = ap (λ (s : SearchState). s.next) c.search.view_is in
    subst (AllByRecursion (λ n. n < c.args.search.now.next)) (sym c.in_ok-lost.ensures) (places-within 0 c.args.search.now.next c.deref-2.result.now (omega (arith, counted, same)))
