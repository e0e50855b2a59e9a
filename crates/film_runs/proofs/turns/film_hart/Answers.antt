use Rattle.std.proofs.Common.{◌≡◌, ◌∙◌, ◌+◌, ◌*◌, ℕ, List, Fits, rules, w64, ap, ap₂, subst, arith}
use Rattle.film.proofs.EachLeaf.{machine_ok}
use Rattle.film_runs.specs.AnyMachine.Any.{machine_state}
use Rattle.film_runs.specs.DdmText.Adds.{Adds}
use Rattle.film_runs.specs.DdmTypes.ItemTable.{item_count}
use Rattle.film_runs.proofs.HartTold.{hart_put, hart_room, leaf_now, now_there}
use Rattle.film_runs.proofs.turns.film_hart.Goals as goal

pub overflow_mul-from : goal.overflow_mul-from
overflow_mul-from c =
    let k = (machine_state c.args.machine.now).machine in
    let at : c.hart.inside.0 * (37 + c.len.result) ≡ c.args.hart * (37 + item_count k.items) = ap₂ (λ (a b : ℕ). a * (37 + b)) c.hart.view_is (c.len.ensures ∙ ap item_count c.items.ensures) in
    let room = hart_room c.args.hart c.requires.formed.0 c.args.reel.now.before k c.requires.came c.counts.ensures.shape (machine_ok k c.counts.ensures.rules) c.requires.formed.1 in
    let fits : Fits w64 c.len-parts.result = search rules in
    omega (arith, at, room, c.len-parts.ensures, fits)

pub take_hart-requires-clause-leaf : goal.take_hart-requires-clause-leaf
take_hart-requires-clause-leaf c = leaf_now c.args.hart c.args.reel.now.before (machine_state c.args.machine.now).machine c.requires.came c.counts.ensures.shape

pub put_changed-requires : goal.put_changed-requires
put_changed-requires c =
    let k = (machine_state c.args.machine.now).machine in
    let came = c.requires.came in
    let at : c.hart.inside.0 * (37 + c.len.result) ≡ c.args.hart * (37 + item_count k.items) = ap₂ (λ (a b : ℕ). a * (37 + b)) c.hart.view_is (c.len.ensures ∙ ap item_count c.items.ensures) in
    let is = c.in_ok-take_hart.ensures came.alone.now (now_there c.args.hart came.before k came.alone c.counts.ensures.shape) in
    (hart_put c.args.hart (c.hart.inside.0 * (37 + c.len.result)) c.requires.formed.0 c.args.reel.now.before c.take_hart.new.still k came c.counts.ensures.shape (machine_ok k c.counts.ensures.rules) c.requires.formed.1 at is).inside

pub returns-clause-text : goal.returns-clause-text
returns-clause-text c =
    let k = (machine_state c.args.machine.now).machine in
    let came = c.requires.came in
    let at : c.hart.inside.0 * (37 + c.len.result) ≡ c.args.hart * (37 + item_count k.items) = ap₂ (λ (a b : ℕ). a * (37 + b)) c.hart.view_is (c.len.ensures ∙ ap item_count c.items.ensures) in
    let is = c.in_ok-take_hart.ensures came.alone.now (now_there c.args.hart came.before k came.alone c.counts.ensures.shape) in
    let put = hart_put c.args.hart (c.hart.inside.0 * (37 + c.len.result)) c.requires.formed.0 c.args.reel.now.before c.take_hart.new.still k came c.counts.ensures.shape (machine_ok k c.counts.ensures.rules) c.requires.formed.1 at is in
    subst (λ (lines : List ℕ). Adds c.args.text.now.items c.put_changed.new.out.items lines) put.told c.in_ok-put_changed.ensures.text

pub returns-clause-before : goal.returns-clause-before
returns-clause-before c =
    let k = (machine_state c.args.machine.now).machine in
    let came = c.requires.came in
    let at : c.hart.inside.0 * (37 + c.len.result) ≡ c.args.hart * (37 + item_count k.items) = ap₂ (λ (a b : ℕ). a * (37 + b)) c.hart.view_is (c.len.ensures ∙ ap item_count c.items.ensures) in
    let is = c.in_ok-take_hart.ensures came.alone.now (now_there c.args.hart came.before k came.alone c.counts.ensures.shape) in
    c.in_ok-put_changed.ensures.still
    ∙ (hart_put c.args.hart (c.hart.inside.0 * (37 + c.len.result)) c.requires.formed.0 c.args.reel.now.before c.take_hart.new.still k came c.counts.ensures.shape (machine_ok k c.counts.ensures.rules) c.requires.formed.1 at is).put
