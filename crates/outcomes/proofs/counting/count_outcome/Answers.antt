use Rattle.std.proofs.Common.{◌≡◌, ◌∙◌, ◌<◌, ◌≤◌, ◌++◌, ◌∷◌, [], ap, sym, subst, length, get_or, set, arith}
use Rattle.std.specs.List.{position_or_len}
use Rattle.std.proofs.lemmas.List.Elements.{All-get_or}
use Rattle.outcome_model.specs.Table.{OutcomeLine, is_outcome}
use Rattle.outcomes.proofs.Lines.{counted-found, counted-new, one_more}
use Rattle.outcomes.proofs.counting.count_outcome.Goals as goal

pub count-requires : goal.count-requires
count-requires c =
    let inside : c.place_of-place.result < length c.args.lines.now.items = omega (arith, c.if-place-len.true, c.len.ensures, c.args.lines.now.ok.0) in
    subst (λ (l : OutcomeLine). l.times < 18446744073709551615) (sym c.index_mut.ensures.value) (All-get_or (λ (l : OutcomeLine). l.times < 18446744073709551615) c.args.lines.now.items c.place_of-place.result c.index_mut.result.now inside c.requires)

pub returns-then-place-len-clause-counted : goal.returns-then-place-len-clause-counted
returns-then-place-len-clause-counted c =
    let ls = c.args.lines.now.items in
    let here = c.index_mut.result.now in
    let at : c.place_of-place.result ≡ position_or_len (is_outcome c.args.text.now) ls = c.place_of-place.ensures ∙ ap (position_or_len (is_outcome c.args.text.now)) c.deref.ensures.value in
    let inside : position_or_len (is_outcome c.args.text.now) ls < length ls = omega (arith, at, c.if-place-len.true, c.len.ensures, c.args.lines.now.ok.0) in
    let more : c.count.new.self ≡ one_more (get_or ls c.place_of-place.result here) = c.count.ensures ∙ ap one_more c.index_mut.ensures.value in
    ap (set ls c.place_of-place.result) more ∙ ap (λ n. set ls n (one_more (get_or ls n here))) at ∙ sym (counted-found c.args.seed c.args.text.now ls here inside)

pub returns-in_ok-push-clause-counted : goal.returns-in_ok-push-clause-counted
returns-in_ok-push-clause-counted c =
    let ls = c.args.lines.now.items in
    let at : c.place_of-place.result ≡ position_or_len (is_outcome c.args.text.now) ls = c.place_of-place.ensures ∙ ap (position_or_len (is_outcome c.args.text.now)) c.deref.ensures.value in
    let past : length ls ≤ position_or_len (is_outcome c.args.text.now) ls = omega (arith, at, c.if-place-len.false, c.len.ensures, c.args.lines.now.ok.0) in
    c.in_ok-push.ensures.items ∙ ap (λ l. ls ++ l ∷ []) c.in_ok-new.ensures ∙ sym (counted-new c.args.seed c.args.text.now ls past)
