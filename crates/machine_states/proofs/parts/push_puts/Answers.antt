use Rattle.std.proofs.Common.{◌≡◌, ◌<◌, ◌≤◌, [], ◌∷◌, ◌++◌, flat_map, length, ap, ◌∙◌, arith, length-append, append_assoc}
use Rattle.std.proofs.lemmas.List.{take_all}
use Rattle.time_laws.specs.Forget.{put_by}
use Rattle.machine_states.proofs.Loops.{flat-place}
use Rattle.machine_states.proofs.Places.{got-at}
use Rattle.machine_states.proofs.Timeless.{put-one}
use Rattle.machine_states.proofs.parts.push_puts.Goals as goal

pub loop-place-init : goal.loop-place-init
loop-place-init c = (c.clear.ensures.items, omega (arith, ap length c.clear.ensures.items))

pub loop-place-preserved : goal.loop-place-preserved
loop-place-preserved c =
    let ops = c.args.ops.now.items in
    let k = c.loop-place.place in
    let inside : k < length ops = omega (arith, c.loop-place-test.true, c.len-place-end.ensures.length) in
    let there = got-at ops k c.get.result inside c.get.ensures in
    let one = put-one c.args.hart c.get.result in
    let size = ap length c.in_ok-push_put.ensures ∙ length-append c.loop-place.part.items (put_by c.args.hart c.get.result) in
    (c.in_ok-push_put.ensures ∙ flat-place (put_by c.args.hart) ops k c.get.result [] c.loop-place.part.items there c.loop-place.invariant.0, omega (arith, one, size, c.loop-place.invariant.1))

pub overflow_cast-len : goal.overflow_cast-len
overflow_cast-len c = omega (arith, c.len.ensures, c.loop-place.part.ok.0, c.loop-place.invariant.1, c.loop-place.auto.place-end, c.len-place-end.ensures.length, c.requires)

pub returns : goal.returns
returns c =
    let ops = c.args.ops.now.items in
    let bytes = flat_map (put_by c.args.hart) ops in
    let past : length ops ≤ c.loop-place.place = omega (arith, c.loop-place-test.false, c.len-place-end.ensures.length) in
    let all : c.loop-place.part.items ≡ bytes = c.loop-place.invariant.0 ∙ ap (flat_map (put_by c.args.hart)) (take_all c.loop-place.place ops past) in
    let count : c.len.result ≡ length bytes = c.len.ensures ∙ c.loop-place.part.ok.0 ∙ ap length all in
    c.in_ok-extend_from_slice.ensures.items ∙ ap (λ l. c.push.new.self.items ++ l) (c.deref.ensures.value ∙ all) ∙ ap (λ l. l ++ bytes) (c.in_ok-push.ensures.items ∙ ap (λ n. c.args.out.now.items ++ n ∷ []) count)
    ∙ append_assoc c.args.out.now.items (length bytes ∷ []) bytes
