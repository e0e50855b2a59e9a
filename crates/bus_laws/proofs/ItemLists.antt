-- What a list has of one item: after an element is added or taken, and of another item.
use Rattle.std.proofs.Common.{◌≡◌, ◌≢◌, ℕ, zero, suc, Bool, true, false, List, [], ◌∷◌, ◌++◌, map, Some, refl, sym, ap, subst, ◌∙◌}
use Rattle.std.specs.Prelude.{not, nat_eq, filter, slice_get}
use Rattle.std.specs.List.{list_all}
use Rattle.std.specs.Cmp.Derive.{both_true}
use Rattle.std.proofs.lemmas.Bool.{eqb-true, eq-eqb, ne_eqb}
use Rattle.std.proofs.lemmas.List.{map-append}
use Rattle.bus_laws.specs.DdmTypes.declared.answers.TxKind.{TxKind}
use Rattle.bus_laws.specs.TreeModel.State.Lists.{first_of, rest_of, has_some, without_first, names_item}
use Rattle.bus_laws.specs.TreeModel.State.Kinds.{is_kind}
use Rattle.bus_laws.specs.TreeModel.State.Values.{RequestValue, CopyValue, DownValue}
use Rattle.bus_laws.specs.TreeModel.State.Leaf.{is_request, is_copy, copy_item, copy_words, words_of_item}
use Rattle.bus_laws.specs.TreeModel.State.Directory.{entry_item, entry_kind, queue_of, queue_kinds, request_item, request_kind, request_kinds, struck}
use Rattle.bus_laws.proofs.Lists.{filter-pushed_same, filter-pushed_other}

pub nat_eq-same : (x : ℕ) → nat_eq x x ≡ true
nat_eq-same x = eq-eqb x x refl

module _ {X Y : Type 0} (item : X → ℕ) (look : X → Y) where
  -- what is seen of those of the item
  abbrev seen_of : ℕ → List X → List Y
  seen_of x xs = map look (filter (names_item item x) xs)

  seen-pushed : (x : ℕ) (xs : List X) (v : X) → item v ≡ x → seen_of x (xs ++ v ∷ []) ≡ seen_of x xs ++ look v ∷ []
  seen-pushed x xs v e = ap (map look) (filter-pushed_same (names_item item x) xs v (eq-eqb x (item v) (sym e))) ∙ map-append look (filter (names_item item x) xs) (v ∷ [])

  seen-pushed_other : (y : ℕ) (xs : List X) (v : X) → y ≢ item v → seen_of y (xs ++ v ∷ []) ≡ seen_of y xs
  seen-pushed_other y xs v ne = ap (map look) (filter-pushed_other (names_item item y) xs v (ne_eqb y (item v) ne))

  seen-front : (v : X) (xs : List X) → seen_of (item v) (v ∷ xs) ≡ look v ∷ seen_of (item v) xs
  seen-front v xs = rw (nat_eq-same (item v)) refl

  seen-front_other : (y : ℕ) (v : X) (xs : List X) → y ≢ item v → seen_of y (v ∷ xs) ≡ seen_of y xs
  seen-front_other y v xs ne = rw (ne_eqb y (item v) ne) refl

-- ---- the queue

pub queue-pushed : (x : ℕ) (down : List DownValue) (e : DownValue) → e.item ≡ x → queue_kinds x (down ++ e ∷ []) ≡ queue_kinds x down ++ e.kind ∷ []
unfolding queue_of
queue-pushed x down e is = seen-pushed entry_item entry_kind x down e is

pub queue-pushed_other : (y : ℕ) (down : List DownValue) (e : DownValue) → y ≢ e.item → queue_kinds y (down ++ e ∷ []) ≡ queue_kinds y down
unfolding queue_of
queue-pushed_other y down e ne = seen-pushed_other entry_item entry_kind y down e ne

pub queue-front : (e : DownValue) (rest : List DownValue) → queue_kinds e.item (e ∷ rest) ≡ e.kind ∷ queue_kinds e.item rest
unfolding queue_of
queue-front e rest = seen-front entry_item entry_kind e rest

pub queue-front_other : (y : ℕ) (e : DownValue) (rest : List DownValue) → y ≢ e.item → queue_kinds y (e ∷ rest) ≡ queue_kinds y rest
unfolding queue_of
queue-front_other y e rest ne = seen-front_other entry_item entry_kind y e rest ne

-- ---- the requests

pub kinds-pushed : (x : ℕ) (rs : List RequestValue) (r : RequestValue) → r.item ≡ x → request_kinds x (rs ++ r ∷ []) ≡ request_kinds x rs ++ r.kind ∷ []
unfolding request_kinds
kinds-pushed x rs r is = seen-pushed request_item request_kind x rs r is

pub kinds-pushed_other : (y : ℕ) (rs : List RequestValue) (r : RequestValue) → y ≢ r.item → request_kinds y (rs ++ r ∷ []) ≡ request_kinds y rs
unfolding request_kinds
kinds-pushed_other y rs r ne = seen-pushed_other request_item request_kind y rs r ne

pub kinds-first : (rs : List RequestValue) (r : RequestValue) → first_of rs ≡ Some r → request_kinds r.item rs ≡ r.kind ∷ request_kinds r.item (rest_of rs)
unfolding request_kinds
kinds-first [] r first = cc
kinds-first (q ∷ rs) r first =
    let same : q ≡ r = cc in
    ap (λ (p : RequestValue). map request_kind (filter (names_item request_item r.item) (p ∷ rs))) same ∙ seen-front request_item request_kind r rs

pub kinds-first_other : (y : ℕ) (rs : List RequestValue) (r : RequestValue) → first_of rs ≡ Some r → y ≢ r.item → request_kinds y (rest_of rs) ≡ request_kinds y rs
unfolding request_kinds
kinds-first_other y [] r first ne = refl
kinds-first_other y (q ∷ rs) r first ne =
    let same : q ≡ r = cc in
    sym (seen-front_other request_item request_kind y q rs (λ e. ne (e ∙ ap request_item same)))

struck-step : (kind : TxKind) (x : ℕ) (r : RequestValue) (rs : List RequestValue) (k n : Bool) → is_kind kind r.kind ≡ k → nat_eq x r.item ≡ n → map request_kind (filter (names_item request_item x) (without_first (is_request kind x) rs)) ≡ without_first (is_kind kind) (map request_kind (filter (names_item request_item x) rs)) → map request_kind (filter (names_item request_item x) (without_first (is_request kind x) (r ∷ rs))) ≡ without_first (is_kind kind) (map request_kind (filter (names_item request_item x) (r ∷ rs)))
struck-step kind x r rs true true ek en rest = rw (ek, en) (rw ek refl)
struck-step kind x r rs true false ek en rest = rw (ek, en) (rw en rest)
struck-step kind x r rs false true ek en rest = rw (ek, en) (rw ek (ap (λ ks. r.kind ∷ ks) rest))
struck-step kind x r rs false false ek en rest = rw (ek, en) rest

pub kinds-struck : (kind : TxKind) (x : ℕ) (rs : List RequestValue) → request_kinds x (struck kind x rs) ≡ without_first (is_kind kind) (request_kinds x rs)
unfolding request_kinds struck
kinds-struck kind x [] = refl
kinds-struck kind x (r ∷ rs) = struck-step kind x r rs (is_kind kind r.kind) (nat_eq x r.item) refl refl (kinds-struck kind x rs)

kept-step : (y : ℕ) (r : RequestValue) (qs bs : List RequestValue) (m : Bool) → nat_eq y r.item ≡ m → map request_kind (filter (names_item request_item y) qs) ≡ map request_kind (filter (names_item request_item y) bs) → map request_kind (filter (names_item request_item y) (r ∷ qs)) ≡ map request_kind (filter (names_item request_item y) (r ∷ bs))
kept-step y r qs bs true e rest = rw e (ap (λ ks. r.kind ∷ ks) rest)
kept-step y r qs bs false e rest = rw e rest

struck-step_other : (kind : TxKind) (x y : ℕ) (r : RequestValue) (rs : List RequestValue) (k n : Bool) → is_kind kind r.kind ≡ k → nat_eq x r.item ≡ n → y ≢ x → map request_kind (filter (names_item request_item y) (without_first (is_request kind x) rs)) ≡ map request_kind (filter (names_item request_item y) rs) → map request_kind (filter (names_item request_item y) (without_first (is_request kind x) (r ∷ rs))) ≡ map request_kind (filter (names_item request_item y) (r ∷ rs))
struck-step_other kind x y r rs true true ek en ne rest = rw (ek, en) (sym (seen-front_other request_item request_kind y r rs (λ e. ne (e ∙ sym (eqb-true x r.item en)))))
struck-step_other kind x y r rs true false ek en ne rest = rw (ek, en) (kept-step y r (without_first (is_request kind x) rs) rs (nat_eq y r.item) refl rest)
struck-step_other kind x y r rs false n ek en ne rest = rw ek (kept-step y r (without_first (is_request kind x) rs) rs (nat_eq y r.item) refl rest)

pub kinds-struck_other : (kind : TxKind) (x y : ℕ) (rs : List RequestValue) → y ≢ x → request_kinds y (struck kind x rs) ≡ request_kinds y rs
unfolding request_kinds struck
kinds-struck_other kind x y [] ne = refl
kinds-struck_other kind x y (r ∷ rs) ne = struck-step_other kind x y r rs (is_kind kind r.kind) (nat_eq x r.item) refl refl ne (kinds-struck_other kind x y rs ne)

-- ---- copies

pub words-pushed : (x : ℕ) (cs : List CopyValue) (c : CopyValue) → c.item ≡ x → words_of_item x (cs ++ c ∷ []) ≡ words_of_item x cs ++ c.words ∷ []
unfolding words_of_item
words-pushed x cs c is = seen-pushed copy_item copy_words x cs c is

pub words-pushed_other : (y : ℕ) (cs : List CopyValue) (c : CopyValue) → y ≢ c.item → words_of_item y (cs ++ c ∷ []) ≡ words_of_item y cs
unfolding words_of_item
words-pushed_other y cs c ne = seen-pushed_other copy_item copy_words y cs c ne

pub words-first : (cs : List CopyValue) (c : CopyValue) → first_of cs ≡ Some c → words_of_item c.item cs ≡ c.words ∷ words_of_item c.item (rest_of cs)
unfolding words_of_item
words-first [] c first = cc
words-first (q ∷ cs) c first =
    let same : q ≡ c = cc in
    ap (λ (p : CopyValue). map copy_words (filter (names_item copy_item c.item) (p ∷ cs))) same ∙ seen-front copy_item copy_words c cs

pub words-first_other : (y : ℕ) (cs : List CopyValue) (c : CopyValue) → first_of cs ≡ Some c → y ≢ c.item → words_of_item y (rest_of cs) ≡ words_of_item y cs
unfolding words_of_item
words-first_other y [] c first ne = refl
words-first_other y (q ∷ cs) c first ne =
    let same : q ≡ c = cc in
    sym (seen-front_other copy_item copy_words y q cs (λ e. ne (e ∙ ap copy_item same)))

gone-step : (x : ℕ) (c : CopyValue) (cs : List CopyValue) (n : Bool) → nat_eq x c.item ≡ n → filter (names_item copy_item x) (filter (λ c. not (is_copy x c)) cs) ≡ [] → filter (names_item copy_item x) (filter (λ c. not (is_copy x c)) (c ∷ cs)) ≡ []
gone-step x c cs true e rest = rw e rest
gone-step x c cs false e rest = rw e (rw e rest)

none-left : (x : ℕ) (cs : List CopyValue) → filter (names_item copy_item x) (filter (λ c. not (is_copy x c)) cs) ≡ []
none-left x [] = refl
none-left x (c ∷ cs) = gone-step x c cs (nat_eq x c.item) refl (none-left x cs)

pub words-without : (x : ℕ) (cs : List CopyValue) → words_of_item x (filter (λ c. not (is_copy x c)) cs) ≡ []
unfolding words_of_item
words-without x cs = ap (map copy_words) (none-left x cs)

without-step : (x y : ℕ) (c : CopyValue) (cs : List CopyValue) (n m : Bool) → nat_eq x c.item ≡ n → nat_eq y c.item ≡ m → y ≢ x → filter (names_item copy_item y) (filter (λ c. not (is_copy x c)) cs) ≡ filter (names_item copy_item y) cs → filter (names_item copy_item y) (filter (λ c. not (is_copy x c)) (c ∷ cs)) ≡ filter (names_item copy_item y) (c ∷ cs)
without-step x y c cs true true en em ne rest = absurd (ne (eqb-true y c.item em ∙ sym (eqb-true x c.item en)))
without-step x y c cs true false en em ne rest = rw (en, em) rest
without-step x y c cs false true en em ne rest = rw en (rw em (ap (λ cs. c ∷ cs) rest))
without-step x y c cs false false en em ne rest = rw en (rw em rest)

others-left : (x y : ℕ) (cs : List CopyValue) → y ≢ x → filter (names_item copy_item y) (filter (λ c. not (is_copy x c)) cs) ≡ filter (names_item copy_item y) cs
others-left x y [] ne = refl
others-left x y (c ∷ cs) ne = without-step x y c cs (nat_eq x c.item) (nat_eq y c.item) refl refl ne (others-left x y cs ne)

pub words-without_other : (x y : ℕ) (cs : List CopyValue) → y ≢ x → words_of_item y (filter (λ c. not (is_copy x c)) cs) ≡ words_of_item y cs
unfolding words_of_item
words-without_other x y cs ne = ap (map copy_words) (others-left x y cs ne)

-- where there is none, each is of another item
absent-step : (x : ℕ) (c : CopyValue) (cs : List CopyValue) (n : Bool) → nat_eq x c.item ≡ n → has_some (map copy_words (filter (names_item copy_item x) (c ∷ cs))) ≡ false → (not n ≡ true) × (has_some (map copy_words (filter (names_item copy_item x) cs)) ≡ false)
absent-step x c cs true e none = let h : true ≡ false = rw e at none in cc
absent-step x c cs false e none = (refl, rw e at none)

pub words-absent : (x : ℕ) (cs : List CopyValue) → has_some (words_of_item x cs) ≡ false → list_all (λ (c : CopyValue). not (nat_eq x c.item)) cs ≡ true
unfolding words_of_item
words-absent x [] none = refl
words-absent x (c ∷ cs) none =
    let step = absent-step x c cs (nat_eq x c.item) refl none in
    both_true step.0 (words-absent x cs step.1)

-- a copy of a list is one of its item
got-step : (c e : CopyValue) (cs : List CopyValue) (b : Bool) → nat_eq e.item c.item ≡ b → has_some (map copy_words (filter (names_item copy_item e.item) cs)) ≡ true → has_some (map copy_words (filter (names_item copy_item e.item) (c ∷ cs))) ≡ true
got-step c e cs true is rest = rw is refl
got-step c e cs false is rest = rw is rest

pub words-got : (cs : List CopyValue) (k : ℕ) (e : CopyValue) → slice_get cs k ≡ Some e → has_some (words_of_item e.item cs) ≡ true
unfolding words_of_item
words-got [] k e got = cc
words-got (c ∷ cs) zero e got =
    let same : c ≡ e = cc in
    subst (λ (f : CopyValue). has_some (map copy_words (filter (names_item copy_item f.item) (c ∷ cs))) ≡ true) same (rw (nat_eq-same c.item) refl)
words-got (c ∷ cs) (suc k) e got = got-step c e cs (nat_eq e.item c.item) refl (words-got cs k e got)
