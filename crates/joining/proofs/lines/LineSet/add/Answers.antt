use Rattle.std.proofs.Common.{◌≡◌, ◌∙◌, ◌<◌, ◌≤◌, ◌++◌, ◌∷◌, [], ℕ, List, ap, sym, subst, length, map, get_or, set, cond, false, arith}
use Rattle.std.specs.Prelude.{nat_eq}
use Rattle.std.specs.Global.{Vec}
use Rattle.std.specs.Cmp.Lexicographic.{pointwise}
use Rattle.std.specs.List.{list_any, position_or_len}
use Rattle.std.proofs.lemmas.List.{map-append}
use Rattle.joining.specs.OutcomeModel.Table.{is_outcome}
use Rattle.join_model.specs.Joined.{with_more}
use Rattle.joining.proofs.Places.{line-found, line-new, none-any, outcome_of, outcomes-set, place-found, place-none, same-length, same-place}
use Rattle.joining.proofs.lines.LineSet.add.Goals as goal

abbrev bytes_of : Vec ℕ → List ℕ
bytes_of v = v.items

pub returns-in-Some-clause-lines : goal.returns-in-Some-clause-lines
returns-in-Some-clause-lines c =
    let l = c.args.line.now in
    let ls = c.args.self.now.lines.items in
    let keys = c.args.self.now.places.keys in
    let here = c.index_mut.result.now in
    let text : c.as_slice.result.now ≡ l.outcome = c.as_slice.ensures.value ∙ ap outcome_of c.line.view_is in
    let found = place-found (λ (k : Vec ℕ). pointwise nat_eq c.as_slice.result.now k.items) keys c.in-Some.place c.in-Some.ensures.index in
    let at : position_or_len (is_outcome l.outcome) ls ≡ c.in-Some.place = sym (same-place bytes_of l.outcome keys ls c.requires.alike) ∙ ap (λ o. position_or_len (λ (k : Vec ℕ). pointwise nat_eq o k.items) keys) (sym text) ∙ found.0 in
    let inside : position_or_len (is_outcome l.outcome) ls < length ls = omega (arith, at, found.1, same-length bytes_of keys ls c.requires.alike) in
    let more : c.add.new.self ≡ with_more l (get_or ls c.in-Some.place here) = c.add.ensures ∙ ap (with_more l) c.index_mut.ensures.value in
    ap (set ls c.in-Some.place) more ∙ ap (λ n. set ls n (with_more l (get_or ls n here))) (sym at) ∙ sym (line-found l ls here inside)

pub returns-in-Some-clause-alike : goal.returns-in-Some-clause-alike
returns-in-Some-clause-alike c =
    let l = c.args.line.now in
    let ls = c.args.self.now.lines.items in
    let here = c.index_mut.result.now in
    let more : c.add.new.self ≡ with_more l (get_or ls c.in-Some.place here) = c.add.ensures ∙ ap (with_more l) c.index_mut.ensures.value in
    c.requires.alike ∙ sym (ap (λ k. map outcome_of (set ls c.in-Some.place k)) more ∙ outcomes-set l ls c.in-Some.place here)

pub returns-in_ok-push-in-None-clause-lines : goal.returns-in_ok-push-in-None-clause-lines
returns-in_ok-push-in-None-clause-lines c =
    let l = c.args.line.now in
    let ls = c.args.self.now.lines.items in
    let keys = c.args.self.now.places.keys in
    let text : c.as_slice.result.now ≡ l.outcome = c.as_slice.ensures.value ∙ ap outcome_of c.line.view_is in
    let none = place-none (λ (k : Vec ℕ). pointwise nat_eq c.as_slice.result.now k.items) keys c.in-None.ensures.index in
    let at : position_or_len (λ (k : Vec ℕ). pointwise nat_eq c.as_slice.result.now k.items) keys ≡ position_or_len (is_outcome l.outcome) ls = ap (λ o. position_or_len (λ (k : Vec ℕ). pointwise nat_eq o k.items) keys) text ∙ same-place bytes_of l.outcome keys ls c.requires.alike in
    let past : length ls ≤ position_or_len (is_outcome l.outcome) ls = omega (arith, at, none, same-length bytes_of keys ls c.requires.alike) in
    c.in_ok-push-in-None.ensures.items ∙ ap (λ k. ls ++ k ∷ []) c.in_ok-copy-in-None.ensures ∙ sym (line-new l ls past)

pub returns-in_ok-push-in-None-clause-alike : goal.returns-in_ok-push-in-None-clause-alike
returns-in_ok-push-in-None-clause-alike c =
    let l = c.args.line.now in
    let ls = c.args.self.now.lines.items in
    let keys = c.args.self.now.places.keys in
    let v = c.in_ok-from_slice-in-None.field-0 in
    let own : v.items ≡ c.as_slice.result.now = c.in_ok-from_slice-in-None.ensures.items ∙ c.deref.ensures.value ∙ sym c.as_slice.ensures.value in
    let text : v.items ≡ l.outcome = own ∙ c.as_slice.ensures.value ∙ ap outcome_of c.line.view_is in
    let past : length keys ≤ position_or_len (λ (k : Vec ℕ). pointwise nat_eq v.items k.items) keys = subst (λ o. length keys ≤ position_or_len (λ (k : Vec ℕ). pointwise nat_eq o k.items) keys) (sym own) (place-none (λ (k : Vec ℕ). pointwise nat_eq c.as_slice.result.now k.items) keys c.in-None.ensures.index) in
    let none : list_any (λ (k : Vec ℕ). pointwise nat_eq v.items k.items) keys ≡ false = none-any (λ (k : Vec ℕ). pointwise nat_eq v.items k.items) keys past in
    let kept : c.insert.new.self.keys ≡ keys ++ v ∷ [] = c.in_ok-insert-in-None.ensures.keys ∙ ap (λ b. cond b keys (keys ++ v ∷ [])) none in
    let pushed : c.push.new.self.items ≡ ls ++ l ∷ [] = c.in_ok-push-in-None.ensures.items ∙ ap (λ k. ls ++ k ∷ []) c.in_ok-copy-in-None.ensures in
    ap (map bytes_of) kept ∙ map-append bytes_of keys (v ∷ []) ∙ ap (λ os. os ++ v.items ∷ []) c.requires.alike ∙ ap (λ o. map outcome_of ls ++ o ∷ []) text
    ∙ sym (ap (map outcome_of) pushed ∙ map-append outcome_of ls (l ∷ []))
