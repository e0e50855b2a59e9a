-- The last data or inject of an item in a down list, while a loop goes over the list.
use Rattle.std.proofs.Common.{◌≡◌, ◌<◌, ℕ, zero, suc, ◌+◌, ◌++◌, Bool, true, false, cond, ◌&&◌, nat_eq, List, [], ◌∷◌, length, take, filter, Option, Some, None, option_map, refl, sym, ap, ◌∙◌, arith, add-one, zero-add}
use Rattle.std.specs.Prelude.{slice_get, if◌then◌else◌}
use Rattle.std.proofs.lemmas.List.{append-nil, length-take-le}
use Rattle.std.proofs.lemmas.List.Elements.{filter-append}
use Rattle.directory.specs.TreeModel.State.Lists.{names_item}
use Rattle.directory.specs.TreeModel.State.Kinds.{brings_copy}
use Rattle.directory.specs.TreeModel.State.Values.{DownValue}
use Rattle.directory.specs.TreeModel.State.Directory.{entry_item, queue_of}
use Rattle.directory.specs.TreeModel.Turns.Found.{last_place, last_words, down_place, queue_words}

-- a copy and its place are those of the last one in this part of the list
pub record IsLast (x : ℕ) (es : List DownValue) (last : Option (ℕ × List ℕ)) : Type 0 where
  pub place : option_map (λ c. c.0) last ≡ down_place x 0 es
  pub words : option_map (λ c. c.1) last ≡ queue_words (queue_of x es)

module _ (x : ℕ) where
  abbrev brings : DownValue → Bool
  brings e = nat_eq x e.item && brings_copy e.kind

  later-place : (b : Bool) (k z : ℕ) → last_place b k (Some z) ≡ Some z
  later-place true k z = refl
  later-place false k z = refl

  later-words : (b : Bool) (words later : List ℕ) → last_words b words (Some later) ≡ Some later
  later-words true words later = refl
  later-words false words later = refl

  place-pushed : (k : ℕ) (es : List DownValue) (e : DownValue) → down_place x k (es ++ e ∷ []) ≡ (if brings e then Some (k + length es) else down_place x k es)
  place-pushed k [] e = by_test (brings e)
    where
      by_test : (b : Bool) → last_place b k None ≡ (if b then Some (k + 0) else None)
      by_test true = ap Some (omega arith)
      by_test false = refl
  place-pushed k (f ∷ es) e = ap (last_place (brings f) k) (place-pushed (k + 1) es e) ∙ by_test (brings e)
    where
      by_test : (b : Bool) → last_place (brings f) k (if b then Some (k + 1 + length es) else down_place x (k + 1) es) ≡ (if b then Some (k + suc (length es)) else last_place (brings f) k (down_place x (k + 1) es))
      by_test true = later-place (brings f) k (k + 1 + length es) ∙ ap Some (omega arith)
      by_test false = refl

  queue-pushed : (es : List DownValue) (e : DownValue) → queue_words (es ++ e ∷ []) ≡ (if brings_copy e.kind then Some e.words else queue_words es)
  queue-pushed [] e = by_test (brings_copy e.kind)
    where
      by_test : (b : Bool) → last_words b e.words None ≡ (if b then Some e.words else None)
      by_test true = refl
      by_test false = refl
  queue-pushed (f ∷ es) e = ap (last_words (brings_copy f.kind) f.words) (queue-pushed es e) ∙ by_test (brings_copy e.kind)
    where
      by_test : (b : Bool) → last_words (brings_copy f.kind) f.words (if b then Some e.words else queue_words es) ≡ (if b then Some e.words else last_words (brings_copy f.kind) f.words (queue_words es))
      by_test true = later-words (brings_copy f.kind) f.words e.words
      by_test false = refl

  words-pushed : (es : List DownValue) (e : DownValue) → queue_words (queue_of x (es ++ e ∷ [])) ≡ (if brings e then Some e.words else queue_words (queue_of x es))
  unfolding queue_of
  words-pushed es e = ap queue_words (filter-append (names_item entry_item x) es (e ∷ [])) ∙ by_test (nat_eq x e.item)
    where
      by_test : (b : Bool) → queue_words (filter (names_item entry_item x) es ++ cond b (e ∷ []) []) ≡ (if b && brings_copy e.kind then Some e.words else queue_words (filter (names_item entry_item x) es))
      by_test true = queue-pushed (filter (names_item entry_item x) es) e
      by_test false = ap queue_words (append-nil (filter (names_item entry_item x) es))

  pushed : (es : List DownValue) (e : DownValue) (i : ℕ) (before : Option (ℕ × List ℕ)) → length es ≡ i → IsLast x es before → IsLast x (es ++ e ∷ []) (if brings e then Some (i, e.words) else before)
  pushed es e i before size last = by_test (brings e) (place-pushed 0 es e) (words-pushed es e)
    where
      by_test : (b : Bool) → down_place x 0 (es ++ e ∷ []) ≡ (if b then Some (0 + length es) else down_place x 0 es) → queue_words (queue_of x (es ++ e ∷ [])) ≡ (if b then Some e.words else queue_words (queue_of x es)) → IsLast x (es ++ e ∷ []) (if b then Some (i, e.words) else before)
      by_test true place words = record { place = ap Some (sym size ∙ sym (zero-add (length es))) ∙ sym place; words = sym words }
      by_test false place words = record { place = last.place ∙ sym place; words = last.words ∙ sym words }

-- one place further
pub last-further : (x i : ℕ) (down : List DownValue) (before next : Option (ℕ × List ℕ)) → i < length down → IsLast x (take i down) before
    → ((e : DownValue) → slice_get down i ≡ Some e → next ≡ (if nat_eq x e.item && brings_copy e.kind then Some (i, e.words) else before)) → IsLast x (take (i + 1) down) next
last-further x i down before next inside last told =
    let here = entry-at i down inside in
    let size : length (take i down) ≡ i = length-take-le i down (omega (arith, inside)) in
    rw (add-one, here.2, told here.0 here.1) (pushed x (take i down) here.0 i before size last)
  where
    entry-at : (i : ℕ) (es : List DownValue) → i < length es → (e : DownValue) × (slice_get es i ≡ Some e) × (take (suc i) es ≡ take i es ++ e ∷ [])
    entry-at i [] l = absurd (omega (arith, l))
    entry-at zero (e ∷ es) l = (e, refl, refl)
    entry-at (suc i) (f ∷ es) l =
        let rest = entry-at i es (omega (arith, l)) in
        (rest.0, rest.1, ap (λ ds. f ∷ ds) rest.2)
