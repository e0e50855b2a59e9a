-- Parts that are put in place of others one after the other, and the lines of those that changed.
-- Letters: ps are the parts of a still, now the same with the first of qs put there, x and y parts.
use Rattle.std.proofs.Common.{◌≡◌, ℕ, suc, ◌+◌, ◌<◌, ◌≤◌, List, [], ◌∷◌, ◌++◌, drop, take, length, slice_set, bytes_eq, cond, sym, ap, ap₂, ◌∙◌, append_assoc, length-append, arith}
use Rattle.std.proofs.Math.Seq.{drop-cons, get_or-append_seam, set-append_seam}
use Rattle.std.proofs.lemmas.List.{get_or-drop, length-take-le, length-drop, set-get_or, take_more}
use Rattle.film_model.specs.Part.{Part, changed, part_line}
use Rattle.film_parts.proofs.PartLines.{changed_next, nth, with_line}
use Rattle.film_parts.specs.DdmText.Adds.{Adds}
use Rattle.film_parts.specs.Spans.{no_part}

pub part_stays : (ps qs : List Part) (place at : ℕ) → nth ps place ≡ nth qs at → ps ≡ slice_set ps place (nth qs at)
part_stays ps qs place at same = sym (set-get_or ps place no_part) ∙ ap (slice_set ps place) same

module _ (from at : ℕ) (ps qs now : List Part) (inside : from + length qs ≤ length ps) (below : at < length qs) (is : now ≡ take from ps ++ (take at qs ++ drop (from + at) ps)) where
  front : List Part
  front = take from ps ++ take at qs

  front_count : length front ≡ from + at
  unfolding front
  front_count =
      let a = length-append (take from ps) (take at qs) in
      let b : length (take from ps) ≡ from = length-take-le from ps (omega (arith, inside)) in
      let c : length (take at qs) ≡ at = length-take-le at qs (omega (arith, below)) in
      omega (arith, a, b, c)

  now_is : now ≡ front ++ (nth ps (from + at) ∷ drop (suc (from + at)) ps)
  unfolding front
  now_is =
      is ∙ sym (append_assoc (take from ps) (take at qs) (drop (from + at) ps))
      ∙ ap (λ (rest : List Part). (take from ps ++ take at qs) ++ rest) (drop-cons ps (from + at) no_part (omega (arith, inside, below)))

  pub there : nth now (from + at) ≡ nth ps (from + at)
  there = ap₂ (λ (xs : List Part) (i : ℕ). nth xs i) now_is (sym front_count) ∙ get_or-append_seam front (nth ps (from + at)) (drop (suc (from + at)) ps) no_part

  pub put_there : slice_set now (from + at) (nth qs at) ≡ take from ps ++ (take (at + 1) qs ++ drop (from + (at + 1)) ps)
  unfolding front
  put_there =
      let next : suc (from + at) ≡ from + (at + 1) = omega arith in
      ap₂ (λ (xs : List Part) (i : ℕ). slice_set xs i (nth qs at)) now_is (sym front_count)
      ∙ set-append_seam front (nth ps (from + at)) (drop (suc (from + at)) ps) (nth qs at)
      ∙ append_assoc (take from ps) (take at qs) (nth qs at ∷ drop (suc (from + at)) ps)
      ∙ ap (λ (rest : List Part). take from ps ++ rest)
      (sym (append_assoc (take at qs) (nth qs at ∷ []) (drop (suc (from + at)) ps)) ∙ ap₂ (λ (xs : List Part) (n : ℕ). xs ++ drop n ps) (sym (take_more qs at no_part below)) next)

  pub line_put : (out old after : List ℕ) → out ++ changed (drop at (drop from ps)) (drop at qs) ≡ old ++ changed (drop from ps) qs
      → Adds out after (cond (bytes_eq (nth now (from + at)).value (nth qs at).value) [] (part_line (nth qs at)))
      → after ++ changed (drop (at + 1) (drop from ps)) (drop (at + 1) qs) ≡ old ++ changed (drop from ps) qs
  line_put out old after so_far added =
      let behind : at < length (drop from ps) = omega (arith, inside, below, length-drop from ps) in
      let same : nth now (from + at) ≡ nth (drop from ps) at = there ∙ sym (get_or-drop from ps at no_part) in
      with_line old out after
      (cond (bytes_eq (nth now (from + at)).value (nth qs at).value) [] (part_line (nth qs at)))
      (changed (drop at (drop from ps)) (drop at qs)) (changed (drop (at + 1) (drop from ps)) (drop (at + 1) qs)) (changed (drop from ps) qs) so_far
      (changed_next (drop from ps) qs at behind below ∙ ap (λ (p : Part). cond (bytes_eq p.value (nth qs at).value) [] (part_line (nth qs at)) ++ changed (drop (at + 1) (drop from ps)) (drop (at + 1) qs)) (sym same)) added
