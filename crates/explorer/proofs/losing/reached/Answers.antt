use Rattle.std.proofs.Common.{◌≡◌, ℕ, ◌<◌, ◌≤◌, false, List, length, ap, sym, ◌∙◌, arith}
use Rattle.std.specs.Prelude.{Option, None, Some}
use Rattle.outcome_model.specs.Halted.{all_halted}
use Rattle.search_store.specs.Known.{place_of}
use Rattle.state_keys.specs.Key.{state_key}
use Rattle.explorer.specs.Searching.{SearchState}
use Rattle.explorer.proofs.Ways.{keys-few, led-to-found, place-within}
use Rattle.explorer.proofs.losing.reached.Goals as goal

pub overflow_cast-result : goal.overflow_cast-result
overflow_cast-result g c =
    let m = g.M.States.start c.args.states.now in
    let there : place_of c.deref.result.now c.search.inside.known ≡ Some c.in-Some.number = sym c.find.ensures ∙ c.in-Some.is in
    let within : c.in-Some.number < length c.search.inside.known = place-within c.deref.result.now c.search.inside.known c.in-Some.number there in
    let few : length c.args.search.now.keys ≤ 1048576 = keys-few m c.args.search.now c.requires.kept in
    let same : length c.search.inside.known ≡ length c.args.search.now.keys = ap (λ (s : SearchState). length s.keys) c.search.view_is in
    omega (arith, within, few, same)

pub returns-in-Some : goal.returns-in-Some
returns-in-Some g c =
    let m = g.M.States.start c.args.states.now in
    let n = g.M.States.reached c.args.states.now in
    let goes : all_halted n ≡ false = sym c.has_ended.ensures ∙ c.if-has_ended.false in
    let words : c.deref.result.now ≡ state_key n = c.deref.ensures.value ∙ c.in_ok-words.ensures in
    led-to-found m c.args.search.now n c.requires.tell c.requires.kept c.requires.reached goes (Some c.in-Some.number)
    (sym c.in-Some.is ∙ c.find.ensures ∙ ap (λ k. place_of k c.search.inside.known) words ∙ ap (λ (s : SearchState). place_of (state_key n) s.keys) c.search.view_is)

pub returns : goal.returns
returns g c =
    let m = g.M.States.start c.args.states.now in
    let n = g.M.States.reached c.args.states.now in
    let goes : all_halted n ≡ false = sym c.has_ended.ensures ∙ c.if-has_ended.false in
    let words : c.deref.result.now ≡ state_key n = c.deref.ensures.value ∙ c.in_ok-words.ensures in
    led-to-found m c.args.search.now n c.requires.tell c.requires.kept c.requires.reached goes None
    (sym c.in-None.is ∙ c.find.ensures ∙ ap (λ k. place_of k c.search.inside.known) words ∙ ap (λ (s : SearchState). place_of (state_key n) s.keys) c.search.view_is)
