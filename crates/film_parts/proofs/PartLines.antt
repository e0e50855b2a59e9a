-- The lines of the parts from one on: that of the first of them, if it has one, and those of the rest.
-- Letters: p and q are parts.
use Rattle.std.proofs.Common.{◌≡◌, ℕ, zero, suc, ◌+◌, ◌<◌, Bool, true, false, cond, List, [], ◌∷◌, ◌++◌, drop, length, filter, bytes_eq, get_or, refl, sym, ap, subst, ◌∙◌, append_assoc, append-nil, ◌≤◌, min, arith}
use Rattle.std.proofs.lemmas.List.{drop_all}
use Rattle.std.specs.Prelude.{flat_map}
use Rattle.film_model.specs.Part.{Part, part_line, has_value, valued, changes, changed}
use Rattle.film_parts.specs.DdmText.Adds.{Adds}
use Rattle.film_parts.specs.Spans.{no_part}

abbrev pub nth : List Part → ℕ → Part
nth ps i = get_or ps i no_part

-- ---- those that have a value

kept_line : (b : Bool) (p : Part) (ps : List Part) → flat_map part_line (cond b (p ∷ ps) ps) ≡ cond b (part_line p) [] ++ flat_map part_line ps
kept_line true p ps = refl
kept_line false p ps = refl

valued_after : (ps : List Part) (i : ℕ) → i < length ps → valued (drop i ps) ≡ cond (has_value (nth ps i)) (part_line (nth ps i)) [] ++ valued (drop (suc i) ps)
unfolding valued
valued_after [] i inside = absurd (omega arith)
valued_after (p ∷ ps) zero inside = kept_line (has_value p) p (filter has_value ps)
valued_after (p ∷ ps) (suc i) inside = valued_after ps i (omega arith)

pub valued_next : (ps : List Part) (i : ℕ) → i < length ps → valued (drop i ps) ≡ cond (has_value (nth ps i)) (part_line (nth ps i)) [] ++ valued (drop (i + 1) ps)
valued_next ps i inside = subst (λ n. valued (drop i ps) ≡ cond (has_value (nth ps i)) (part_line (nth ps i)) [] ++ valued (drop n ps)) {x = suc i} {y = i + 1} (omega arith) (valued_after ps i inside)

-- ---- those that a turn changed

nothing_changed : (ps : List Part) → changes ps [] ≡ []
nothing_changed [] = refl
nothing_changed (p ∷ ps) = refl

passed_line : (b : Bool) (p : Part) (ps : List Part) → flat_map part_line (cond b ps (p ∷ ps)) ≡ cond b [] (part_line p) ++ flat_map part_line ps
passed_line true p ps = refl
passed_line false p ps = refl

changed_after : (ps qs : List Part) (i : ℕ) → i < length ps → i < length qs → changed (drop i ps) (drop i qs) ≡ cond (bytes_eq (nth ps i).value (nth qs i).value) [] (part_line (nth qs i)) ++ changed (drop (suc i) ps) (drop (suc i) qs)
unfolding changed
changed_after ps [] i before inside = absurd (omega arith)
changed_after [] (q ∷ qs) i before inside = absurd (omega arith)
changed_after (p ∷ ps) (q ∷ qs) zero before inside = passed_line (bytes_eq p.value q.value) q (changes ps qs)
changed_after (p ∷ ps) (q ∷ qs) (suc i) before inside = changed_after ps qs i (omega arith) (omega arith)

pub changed_next : (ps qs : List Part) (i : ℕ) → i < length ps → i < length qs → changed (drop i ps) (drop i qs) ≡ cond (bytes_eq (nth ps i).value (nth qs i).value) [] (part_line (nth qs i)) ++ changed (drop (i + 1) ps) (drop (i + 1) qs)
changed_next ps qs i before inside =
    subst (λ n. changed (drop i ps) (drop i qs) ≡ cond (bytes_eq (nth ps i).value (nth qs i).value) [] (part_line (nth qs i)) ++ changed (drop n ps) (drop n qs)) {x = suc i} {y = i + 1} (omega arith) (changed_after ps qs i before inside)

-- ---- a text that grew by the next line, if there is one

pub with_line : (old now after line left next whole : List ℕ) → now ++ left ≡ old ++ whole → left ≡ line ++ next → Adds now after line → after ++ next ≡ old ++ whole
with_line old now after line left next whole so_far cut added =
    ap (λ t. t ++ next) added.is ∙ append_assoc now line next ∙ ap (λ t. now ++ t) (sym cut) ∙ so_far

pub at_end : (old now left whole : List ℕ) → now ++ left ≡ old ++ whole → left ≡ [] → Adds old now whole
at_end old now left whole so_far none = record { is = sym (append-nil now) ∙ ap (λ t. now ++ t) (sym none) ∙ so_far }

pub valued_end : (ps : List Part) (i : ℕ) → length ps ≤ i → valued (drop i ps) ≡ []
unfolding valued
valued_end ps i past = ap (λ (qs : List Part). flat_map part_line (filter has_value qs)) (drop_all i ps past)

pub changed_end : (ps qs : List Part) (i : ℕ) → min (length ps) (length qs) ≤ i → changed (drop i ps) (drop i qs) ≡ []
unfolding changed
changed_end [] [] i past = ap (λ (rs : List Part). flat_map part_line (changes rs (drop i []))) (drop_all i [] (omega arith))
changed_end [] (q ∷ qs) i past = ap (λ (rs : List Part). flat_map part_line (changes rs (drop i (q ∷ qs)))) (drop_all i [] (omega arith))
changed_end (p ∷ ps) [] i past = ap (λ (rs : List Part). flat_map part_line (changes (drop i (p ∷ ps)) rs)) (drop_all i [] (omega arith)) ∙ ap (flat_map part_line) (nothing_changed (drop i (p ∷ ps)))
changed_end (p ∷ ps) (q ∷ qs) zero past = absurd (omega arith)
changed_end (p ∷ ps) (q ∷ qs) (suc i) past = changed_end ps qs i (omega arith)
