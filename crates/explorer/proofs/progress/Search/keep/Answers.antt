use Rattle.std.proofs.Common.{◌≡◌, ◌<◌, ◌≤◌, true, false, ◌++◌, ◌∷◌, [], length, sym, ap, subst, ◌∙◌, arith}
use Rattle.std.specs.Prelude.{nat_eq}
use Rattle.std.specs.List.{list_any}
use Rattle.std.specs.Cmp.Lexicographic.{pointwise}
use Rattle.std.proofs.lemmas.Option.{slice_get_within}
use Rattle.state_keys.specs.Key.{state_key}
use Rattle.explorer.specs.Searching.{SearchState, TakesUp, key_by, searched_by}
use Rattle.explorer.proofs.Keeping.{held, grown, grown-taking, seen, new-placed, none-placed}
use Rattle.explorer.proofs.progress.Search.keep.Goals as goal

pub returns-then-has-clause-searched : goal.returns-then-has-clause-searched
returns-then-has-clause-searched g c =
    let m = g.M.States.start c.args.states.now in
    let ts = c.args.schedule.now ++ c.args.turn ∷ [] in
    let has : list_any (pointwise nat_eq (key_by m ts)) c.args.self.now.keys ≡ true = held m ts c.args.self.now _ _ _ _ _ c.in_ok-words.ensures c.requires.reached c.deref.ensures.value c.has.ensures c.self.view_is ∙ c.if-has.true in
    sym (seen m c.args.most c.requires.tell ts c.args.self.now c.requires.taking.kept has)

pub add-requires-then-len-most : goal.add-requires-then-len-most
add-requires-then-len-most g c =
    subst (λ (s : SearchState). s.next < length s.schedules) (sym c.self.view_is) (slice_get_within c.args.self.now.schedules c.args.self.now.next c.args.schedule.now c.requires.taking.taken)

pub returns-in_ok-add-2-clause-taking : goal.returns-in_ok-add-2-clause-taking
returns-in_ok-add-2-clause-taking g c =
    let m = g.M.States.start c.args.states.now in
    let ts = c.args.schedule.now ++ c.args.turn ∷ [] in
    let has : list_any (pointwise nat_eq (key_by m ts)) c.args.self.now.keys ≡ false = held m ts c.args.self.now _ _ _ _ _ c.in_ok-words.ensures c.requires.reached c.deref.ensures.value c.has.ensures c.self.view_is ∙ c.if-has.false in
    let same = grown m c.args.schedule.now c.args.turn c.args.self.now _ _ _ _ c.self.view_is c.requires.taking.taken c.in_ok-add.ensures.added c.in_ok-add-2.ensures.added (c.in_ok-words.ensures ∙ ap state_key c.requires.reached) in
    let few : length c.args.self.now.schedules < 1048576 = omega (arith, c.requires.most, c.if-len-most.true, c.len.ensures, ap (λ (s : SearchState). length s.schedules) c.self.view_is) in
    subst (TakesUp m c.args.schedule.now) (sym same) (grown-taking m c.args.most c.requires.tell c.args.schedule.now c.args.turn c.args.self.now c.requires.taking has few)

pub returns-in_ok-add-2-clause-searched : goal.returns-in_ok-add-2-clause-searched
returns-in_ok-add-2-clause-searched g c =
    let m = g.M.States.start c.args.states.now in
    let ts = c.args.schedule.now ++ c.args.turn ∷ [] in
    let has : list_any (pointwise nat_eq (key_by m ts)) c.args.self.now.keys ≡ false = held m ts c.args.self.now _ _ _ _ _ c.in_ok-words.ensures c.requires.reached c.deref.ensures.value c.has.ensures c.self.view_is ∙ c.if-has.false in
    let same = grown m c.args.schedule.now c.args.turn c.args.self.now _ _ _ _ c.self.view_is c.requires.taking.taken c.in_ok-add.ensures.added c.in_ok-add-2.ensures.added (c.in_ok-words.ensures ∙ ap state_key c.requires.reached) in
    let few : length c.args.self.now.schedules < c.args.most = omega (arith, c.if-len-most.true, c.len.ensures, ap (λ (s : SearchState). length s.schedules) c.self.view_is) in
    ap (searched_by m) same ∙ sym (new-placed m c.args.most c.requires.tell ts c.args.self.now c.requires.taking.kept has few)

pub returns-else-len-most-clause-searched : goal.returns-else-len-most-clause-searched
returns-else-len-most-clause-searched g c =
    let m = g.M.States.start c.args.states.now in
    let ts = c.args.schedule.now ++ c.args.turn ∷ [] in
    let has : list_any (pointwise nat_eq (key_by m ts)) c.args.self.now.keys ≡ false = held m ts c.args.self.now _ _ _ _ _ c.in_ok-words.ensures c.requires.reached c.deref.ensures.value c.has.ensures c.self.view_is ∙ c.if-has.false in
    let none : c.args.most ≤ length c.args.self.now.schedules = omega (arith, c.if-len-most.false, c.len.ensures, ap (λ (s : SearchState). length s.schedules) c.self.view_is) in
    ap (λ (s : SearchState). searched_by m (record s { full = true })) c.self.view_is ∙ sym (none-placed m c.args.most c.requires.tell ts c.args.self.now c.requires.taking.kept has none)
