-- What is gathered of the children of a bus, one child more at a time.
-- Letters: cs are the faces of children, c is one more.
use Rattle.std.proofs.Common.{◌≡◌, ◌∙◌, ap, sym, refl, ℕ, zero, suc, ◌+◌, Bool, true, false, cond, not, ◌&&◌, ◌||◌, nat_eq, List, [], ◌∷◌, ◌++◌, length, add-zero, zero-add, arith}
use Rattle.std.specs.List.{list_all, list_any}
use Rattle.std.proofs.Math.Dec.{eqb-suc-suc, eqb-suc-zero, eqb-zero-suc}
use Rattle.std.proofs.lemmas.List.{length-append}
use Rattle.bus_judging.specs.TreeModel.State.Lists.{all_from}
use Rattle.bus_judging.specs.TreeModel.State.Values.{Note, no_note, local, up_read, up_erase}
use Rattle.bus_judging.specs.TreeModel.State.Directory.{is_reader, is_eraser}
use Rattle.tree_rules.specs.Bus.Faces.{ChildFace}
use Rattle.tree_rules.specs.Bus.Item.{holds_it, holds_exclusive, one_holds, gives_none, gives_one, one_gives, giver_holds, reader_is_granted, reader_is_noted, eraser_is_noted, eraser_is_granted, may_erase, child_passes}
use Rattle.bus_judging.specs.Children.{ChildrenFacts, facts_among, with_child}
use Rattle.bus_judging.proofs.Gathered.{all-more, any-more, and-assoc}

holds-more : (cs : List ChildFace) (c : ChildFace) → one_holds (cs ++ c ∷ []) ≡ cond (holds_it c) (not (list_any holds_it cs)) (one_holds cs)
holds-more [] c = by_test (holds_it c)
  where
    by_test : (h : Bool) → cond h (not (list_any holds_it [])) (one_holds []) ≡ cond h true false
    by_test true = refl
    by_test false = refl
holds-more (b ∷ cs) c = ap (λ a. cond (holds_it b) (not a) (one_holds (cs ++ c ∷ []))) (any-more holds_it cs c) ∙ (ap (λ o. cond (holds_it b) (not (list_any holds_it cs || holds_it c)) o) (holds-more cs c) ∙ by_tests (holds_it b) (holds_it c) (list_any holds_it cs))
  where
    by_tests : (g h a : Bool) → cond g (not (a || h)) (cond h (not a) (one_holds cs)) ≡ cond h (not (g || a)) (cond g (not a) (one_holds cs))
    by_tests true true true = refl
    by_tests true true false = refl
    by_tests true false true = refl
    by_tests true false false = refl
    by_tests false true a = refl
    by_tests false false a = refl

gives-more : (cs : List ChildFace) (c : ChildFace) → one_gives (cs ++ c ∷ []) ≡ cond (gives_none c) (one_gives cs) (gives_one c && list_all gives_none cs)
gives-more [] c = by_test (gives_none c) (gives_one c)
  where
    by_test : (h g : Bool) → cond h (one_gives []) (g && list_all gives_none []) ≡ cond h false (g && true)
    by_test true g = refl
    by_test false g = refl
gives-more (b ∷ cs) c = ap (λ a. cond (gives_none b) (one_gives (cs ++ c ∷ [])) (gives_one b && a)) (all-more gives_none cs c) ∙ (ap (λ o. cond (gives_none b) o (gives_one b && (list_all gives_none cs && gives_none c))) (gives-more cs c) ∙ by_tests (gives_none b) (gives_none c) (gives_one b) (gives_one c) (list_all gives_none cs))
  where
    by_tests : (n m g h a : Bool) → cond n (cond m (one_gives cs) (h && a)) (g && (a && m)) ≡ cond m (cond n (one_gives cs) (g && a)) (h && (n && a))
    by_tests true true g h a = refl
    by_tests true false g h a = refl
    by_tests false true true h true = refl
    by_tests false true true h false = refl
    by_tests false true false h a = refl
    by_tests false false true true true = refl
    by_tests false false true true false = refl
    by_tests false false true false true = refl
    by_tests false false true false false = refl
    by_tests false false false true a = refl
    by_tests false false false false a = refl

and-true : (b : Bool) → (b && true) ≡ b
and-true true = refl
and-true false = refl

from-more : (t : ℕ → ChildFace → Bool) (i : ℕ) (cs : List ChildFace) (c : ChildFace) → all_from t i (cs ++ c ∷ []) ≡ (all_from t i cs && t (i + length cs) c)
from-more t i [] c = and-true (t i c) ∙ ap (λ n. t n c) (sym (add-zero i))
from-more t i (b ∷ cs) c =
    let next : i + 1 + length cs ≡ i + suc (length cs) = omega arith in
    ap (λ a. t i b && a) (from-more t (i + 1) cs c ∙ ap (λ n. all_from t (i + 1) cs && t n c) next) ∙ and-assoc (t i b) (all_from t (i + 1) cs) (t (i + suc (length cs)) c)

passes-more : (t : ChildFace → Bool) (d : ℕ) (cs : List ChildFace) (c : ChildFace) → child_passes t d (cs ++ c ∷ []) ≡ cond (nat_eq (length cs) d) (t c) (child_passes t d cs)
passes-more t zero [] c = refl
passes-more t (suc d) [] c = rw (eqb-zero-suc d) refl
passes-more t zero (b ∷ cs) c = rw (eqb-suc-zero (length cs)) refl
passes-more t (suc d) (b ∷ cs) c = rw (eqb-suc-suc (length cs) d) (passes-more t d cs c)

eraser-more : (note : Note) (cs : List ChildFace) (c : ChildFace) → eraser_is_granted note (cs ++ c ∷ []) ≡ cond (is_eraser note (length cs)) (may_erase c) (eraser_is_granted note cs)
eraser-more no_note cs c = refl
eraser-more (local first joined) cs c = refl
eraser-more (up_read first joined) cs c = refl
eraser-more (up_erase d) cs c = passes-more may_erase d cs c

-- the rules for all of them, from child 0 on
from-start : (t : ℕ → ChildFace → Bool) (cs : List ChildFace) (c : ChildFace) → all_from t 0 (cs ++ c ∷ []) ≡ (all_from t 0 cs && t (length cs) c)
from-start t cs c = from-more t 0 cs c ∙ ap (λ n. all_from t 0 cs && t n c) (zero-add (length cs))

same-facts : (count : ℕ) (held sole exclusive one_gift no_gift givers readers eraser reads erases : Bool) (f : ChildrenFacts)
    → f.count ≡ count → f.held ≡ held → f.sole ≡ sole → f.exclusive ≡ exclusive → f.one_gift ≡ one_gift → f.no_gift ≡ no_gift → f.givers ≡ givers
    → f.readers ≡ readers → f.eraser ≡ eraser → f.reads ≡ reads → f.erases ≡ erases
    → f ≡ record { count = count; held = held; sole = sole; exclusive = exclusive; one_gift = one_gift; no_gift = no_gift; givers = givers; readers = readers; eraser = eraser; reads = reads; erases = erases }
same-facts count held sole exclusive one_gift no_gift givers readers eraser reads erases f a b c d e g h i j k l = rw (← a, ← b, ← c, ← d, ← e, ← g, ← h, ← i, ← j, ← k, ← l) refl

-- what is gathered of one child more is what is gathered of all
pub one_child_more : (note : Note) (cs : List ChildFace) (c : ChildFace) → with_child (is_reader note (length cs)) (is_eraser note (length cs)) c (facts_among note cs) ≡ facts_among note (cs ++ c ∷ [])
one_child_more note cs c =
    sym (same-facts _ _ _ _ _ _ _ _ _ _ _ (facts_among note (cs ++ c ∷ [])) (length-append cs (c ∷ [])) (any-more holds_it cs c) (holds-more cs c) (any-more holds_exclusive cs c)
    (gives-more cs c) (all-more gives_none cs c) (all-more giver_holds cs c) (from-start (reader_is_granted note) cs c) (eraser-more note cs c)
    (from-start (reader_is_noted note) cs c) (from-start (eraser_is_noted note) cs c))
