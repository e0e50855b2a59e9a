-- The kinds of an item's entries in a list, while a loop goes over the list.
use Rattle.std.proofs.Common.{◌≡◌, ◌<◌, ℕ, zero, suc, ◌+◌, ◌++◌, Bool, true, false, cond, nat_eq, List, [], ◌∷◌, length, take, map, filter, Some, refl, sym, ap, ◌∙◌, arith, add-one}
use Rattle.std.specs.Prelude.{slice_get, if◌then◌else◌}
use Rattle.std.specs.List.{list_any}
use Rattle.directory.specs.DdmTypes.declared.answers.TxKind.{TxKind}
use Rattle.directory.specs.TreeModel.State.Lists.{has_some, names_item}
use Rattle.directory.specs.TreeModel.State.Values.{DownValue}
use Rattle.directory.specs.TreeModel.State.Directory.{entry_item, entry_kind, queue_of, queue_kinds, request_item, request_kind, request_kinds}
use Rattle.bus_judging.specs.Parent.{RequestFacts, request_facts}
use Rattle.bus_judging.specs.Queue.{QueueFacts, facts_of}
use Rattle.directory.specs.DirParts.{request_of}
use Rattle.directory.proofs.Lists.{has_some-passing}

module _ {X : Type 0} (f : X → TxKind) (p : X → Bool) where
  -- the kinds of those that pass
  abbrev pub passing : List X → List TxKind
  passing es = map f (filter p es)

  pub pushed : (es : List X) (e : X) → passing (es ++ e ∷ []) ≡ (if p e then passing es ++ f e ∷ [] else passing es)
  pushed [] e = by_test (p e)
    where
      by_test : (b : Bool) → map f (cond b (e ∷ []) []) ≡ (if b then f e ∷ [] else [])
      by_test true = refl
      by_test false = refl
  pushed (d ∷ es) e = by_test (p d) (p e) (pushed es e)
    where
      by_test : (b c : Bool) → passing (es ++ e ∷ []) ≡ (if c then passing es ++ f e ∷ [] else passing es) → map f (cond b (d ∷ filter p (es ++ e ∷ [])) (filter p (es ++ e ∷ []))) ≡ (if c then map f (cond b (d ∷ filter p es) (filter p es)) ++ f e ∷ [] else map f (cond b (d ∷ filter p es) (filter p es)))
      by_test true true h = ap (λ ks. f d ∷ ks) h
      by_test true false h = ap (λ ks. f d ∷ ks) h
      by_test false c h = h

  pub entry-at : (i : ℕ) (es : List X) → i < length es → (e : X) × (slice_get es i ≡ Some e) × (take (suc i) es ≡ take i es ++ e ∷ [])
  entry-at i [] l = absurd (omega (arith, l))
  entry-at zero (e ∷ es) l = (e, refl, refl)
  entry-at (suc i) (d ∷ es) l =
      let rest = entry-at i es (omega (arith, l)) in
      (rest.0, rest.1, ap (λ ds. d ∷ ds) rest.2)

  -- one place further
  pub further : {F : Type 0} (facts : List TxKind → F) (i : ℕ) (es : List X) (before next : F) → i < length es → before ≡ facts (passing (take i es))
      → ((e : X) (q : List TxKind) → slice_get es i ≡ Some e → before ≡ facts q → next ≡ facts (if p e then q ++ f e ∷ [] else q)) → next ≡ facts (passing (take (i + 1) es))
  further facts i es before next inside is told =
      let here = entry-at i es inside in
      rw (add-one i, here.2) (told here.0 (passing (take i es)) here.1 is ∙ ap facts (sym (pushed (take i es) here.0)))

  -- none where none is of the item
  pub none-passing : (es : List X) → list_any p es ≡ false → passing es ≡ []
  none-passing es none = by_length (passing es) (has_some-passing f p es ∙ none)
    where
      by_length : (ks : List TxKind) → has_some ks ≡ false → ks ≡ []
      by_length [] h = refl
      by_length (k ∷ ks) h = cc

-- ---- the down list

pub kinds-further : (x i : ℕ) (down : List DownValue) (before next : QueueFacts) → i < length down → before ≡ facts_of (queue_kinds x (take i down))
    → ((e : DownValue) (q : List TxKind) → slice_get down i ≡ Some e → before ≡ facts_of q → next ≡ facts_of (if nat_eq x e.item then q ++ e.kind ∷ [] else q)) → next ≡ facts_of (queue_kinds x (take (i + 1) down))
unfolding queue_of
kinds-further x i down before next inside is told = further entry_kind (names_item entry_item x) facts_of i down before next inside is told

pub no-kinds : (x : ℕ) (down : List DownValue) → list_any (names_item entry_item x) down ≡ false → queue_kinds x down ≡ []
unfolding queue_of
no-kinds x down none = none-passing entry_kind (names_item entry_item x) down none

-- ---- requests

abbrev pub pair_kind : TxKind × ℕ → TxKind
pair_kind r = r.0

abbrev pub pair_item : TxKind × ℕ → ℕ
pair_item r = r.1

pub requests-kinds : (x : ℕ) (l : List (TxKind × ℕ)) → request_kinds x (map request_of l) ≡ passing pair_kind (names_item pair_item x) l
unfolding request_kinds
requests-kinds x [] = refl
requests-kinds x (r ∷ rs) = by_test (nat_eq x r.1) (requests-kinds x rs)
  where
    by_test : (b : Bool) → map request_kind (filter (names_item request_item x) (map request_of rs)) ≡ passing pair_kind (names_item pair_item x) rs → map request_kind (cond b (request_of r ∷ filter (names_item request_item x) (map request_of rs)) (filter (names_item request_item x) (map request_of rs))) ≡ map pair_kind (cond b (r ∷ filter (names_item pair_item x) rs) (filter (names_item pair_item x) rs))
    by_test true e = ap (λ ks. r.0 ∷ ks) e
    by_test false e = e

pub requests-further : (x i : ℕ) (l : List (TxKind × ℕ)) (before next : RequestFacts) → i < length l → before ≡ request_facts (passing pair_kind (names_item pair_item x) (take i l))
    → ((r : TxKind × ℕ) (rs : List TxKind) → slice_get l i ≡ Some r → before ≡ request_facts rs → next ≡ request_facts (if nat_eq x r.1 then rs ++ r.0 ∷ [] else rs)) → next ≡ request_facts (passing pair_kind (names_item pair_item x) (take (i + 1) l))
requests-further x i l before next inside is told = further pair_kind (names_item pair_item x) request_facts i l before next inside is told
