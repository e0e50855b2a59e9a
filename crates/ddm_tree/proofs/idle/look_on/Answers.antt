use Rattle.std.proofs.Common.{◌≡◌, ◌⊎◌, ℕ, Some, None, true, map, vec_items, sym, ap, ◌∙◌}
use Rattle.std.specs.Prelude.{slice_get}
use Rattle.std.proofs.lemmas.Bool.{ltb-true, ltb-false}
use Rattle.ddm_tree.specs.Quiet.{touches_child}
use Rattle.ddm_tree.proofs.ListedPaths.{listed-there}
use Rattle.ddm_tree.proofs.Resting.{noted-children, noted-pathless, noted-seen, noted-unlisted, unlisted-there}
use Rattle.ddm_tree.proofs.idle.look_on.Goals as goal

pub returns-in-Some-get-clause-noted : goal.returns-in-Some-get-clause-noted
returns-in-Some-get-clause-noted g c = λ d t entry named grants is.
    let here = c.in-Some-get.ensures.lookup in
    let listed : slice_get (map vec_items c.args.bus_paths.now) c.args.bus ≡ Some c.deref.result.now = listed-there vec_items c.args.bus_paths.now c.args.bus c.in-Some-get.path.now (ltb-true _ _ (sym here.0)) here.1 ∙ ap Some (sym c.deref.ensures.value) in
    let two : (i : ℕ) → touches_child i c.args.answer.now ≡ true → (c.in-Some.first ≡ Some i) ⊎ (c.in-Some.second ≡ Some i) = rw c.in-Some.is at c.two_touched.ensures in
    noted-children c.args.answer.now _ _ _ _ c.args.idle.now t c.args.bus named entry c.deref.result.now (λ i. (c.in-Some.first ≡ Some i) ⊎ (c.in-Some.second ≡ Some i)) c.look_two.new.idle grants two listed (rw is at c.look_two.ensures.seen d)

pub returns-in_default-clause-noted : goal.returns-in_default-clause-noted
returns-in_default-clause-noted g c = λ d t entry named grants is.
    let none : slice_get (map vec_items c.args.bus_paths.now) c.args.bus ≡ None = unlisted-there vec_items c.args.bus_paths.now c.args.bus (ltb-false _ _ (sym c.in_default.ensures.lookup.0)) in
    noted-pathless c.args.answer.now _ _ _ _ c.args.idle.now t c.args.bus named none

pub returns-in-Some-get-2-clause-noted : goal.returns-in-Some-get-2-clause-noted
returns-in-Some-get-2-clause-noted g c = λ d t entry named grants is.
    let here = c.in-Some-get-2.ensures.lookup in
    let listed : slice_get (map vec_items c.args.bus_leaves.now) c.args.bus ≡ Some c.deref-in-Some-get-2.result.now = listed-there vec_items c.args.bus_leaves.now c.args.bus c.in-Some-get-2.listed.now (ltb-true _ _ (sym here.0)) here.1 ∙ ap Some (sym c.deref-in-Some-get-2.ensures.value) in
    noted-seen c.args.answer.now _ _ _ _ c.args.idle.now t c.args.bus named entry c.deref-in-Some-get-2.result.now c.look_near.new.idle grants listed (rw is at c.look_near.ensures.seen d)

pub returns-in_default-get-clause-noted : goal.returns-in_default-get-clause-noted
returns-in_default-get-clause-noted g c = λ d t entry named grants is.
    let none : slice_get (map vec_items c.args.bus_leaves.now) c.args.bus ≡ None = unlisted-there vec_items c.args.bus_leaves.now c.args.bus (ltb-false _ _ (sym c.in_default-get.ensures.lookup.0)) in
    noted-unlisted c.args.answer.now _ _ _ _ c.args.idle.now t c.args.bus named none
