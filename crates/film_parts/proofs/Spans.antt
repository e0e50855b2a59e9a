-- Parts stay what they are where more text is put after theirs.
-- Letters: s is where a part is.
use Rattle.std.proofs.Common.{◌≡◌, ℕ, zero, suc, ◌+◌, ◌-◌, ◌≤◌, Bool, true, ◌&&◌, nat_le, List, [], ◌∷◌, ◌++◌, drop, take, map, length, slice_set, refl, ap, ap₂, ◌∙◌, length-append, length-drop, append_assoc, take_at, drop_at, take_all, arith}
use Rattle.std.specs.List.{list_all}
use Rattle.std.proofs.lemmas.Bool.{leb-true, le-leb, and_parts}
use Rattle.std.proofs.lemmas.List.{take-append-le, drop-append-le, map-append}
use Rattle.std.proofs.lemmas.List.Folds.{list_all-append}
use Rattle.film_model.specs.Part.{Part}
use Rattle.film_parts.specs.declared.still.PartSpan.{PartSpan}
use Rattle.film_parts.specs.Spans.{between, part_at, is_within}

-- what lies in a text lies in the longer one
between-more : (start end : ℕ) (text more : List ℕ) → start ≤ end → end ≤ length text → between start end (text ++ more) ≡ between start end text
between-more start end text more order inside =
    ap (take (end - start)) (drop-append-le start text more (omega arith))
    ∙ take-append-le (end - start) (drop start text) more (omega (arith, length-drop start text))

part-more : (s : PartSpan) (text more : List ℕ) → is_within (length text) s ≡ true → part_at (text ++ more) s ≡ part_at text s
part-more s text more within =
    let first = and_parts (nat_le s.key s.value) (nat_le s.value s.end && nat_le s.end (length text)) within in
    let rest = and_parts (nat_le s.value s.end) (nat_le s.end (length text)) first.1 in
    let a : s.key ≤ s.value = leb-true s.key s.value first.0 in
    let b : s.value ≤ s.end = leb-true s.value s.end rest.0 in
    let c : s.end ≤ length text = leb-true s.end (length text) rest.1 in
    ap₂ (λ (key : List ℕ) (value : List ℕ). (let p : Part = record { key = key; value = value } in p))
    (between-more s.key s.value text more a (omega arith)) (between-more s.value s.end text more b c)

pub parts-more : (ss : List PartSpan) (text more : List ℕ) → list_all (is_within (length text)) ss ≡ true → map (part_at (text ++ more)) ss ≡ map (part_at text) ss
parts-more [] text more within = refl
parts-more (s ∷ ss) text more within =
    let both = and_parts (is_within (length text) s) (list_all (is_within (length text)) ss) within in
    ap₂ (λ (p : Part) (ps : List Part). p ∷ ps) (part-more s text more both.0) (parts-more ss text more both.1)

span-more : (s : PartSpan) (size more : ℕ) → is_within size s ≡ true → is_within (size + more) s ≡ true
span-more s size more within =
    let first = and_parts (nat_le s.key s.value) (nat_le s.value s.end && nat_le s.end size) within in
    let rest = and_parts (nat_le s.value s.end) (nat_le s.end size) first.1 in
    let c : s.end ≤ size = leb-true s.end size rest.1 in
    rw (first.0, rest.0, le-leb s.end (size + more) (omega arith)) refl

spans-longer : (ss : List PartSpan) (size more : ℕ) → list_all (is_within size) ss ≡ true → list_all (is_within (size + more)) ss ≡ true
spans-longer [] size more within = refl
spans-longer (s ∷ ss) size more within =
    let both = and_parts (is_within size s) (list_all (is_within size) ss) within in
    rw (span-more s size more both.0, spans-longer ss size more both.1) refl

pub spans-more : (ss : List PartSpan) (text more : List ℕ) → list_all (is_within (length text)) ss ≡ true → list_all (is_within (length (text ++ more))) ss ≡ true
spans-more ss text more within = rw (length-append text more) (spans-longer ss (length text) (length more) within)

-- the part that is put after the others
abbrev pub new_span : List ℕ → List ℕ → List ℕ → PartSpan
new_span text key value = record { key = length text; value = length (text ++ key); end = length (text ++ key ++ value) }

new-key : (text key value : List ℕ) → between (length text) (length (text ++ key)) (text ++ key ++ value) ≡ key
new-key text key value =
    ap (λ n. take n (drop (length text) (text ++ key ++ value))) (omega (arith, length-append text key))
    ∙ ap (λ (t : List ℕ). take (length key) (drop (length text) t)) (append_assoc text key value)
    ∙ ap (take (length key)) (drop_at text (key ++ value) (length text) refl) ∙ take_at key value (length key) refl

new-value : (text key value : List ℕ) → between (length (text ++ key)) (length (text ++ key ++ value)) (text ++ key ++ value) ≡ value
new-value text key value =
    ap (λ n. take n (drop (length (text ++ key)) (text ++ key ++ value))) (omega (arith, length-append (text ++ key) value))
    ∙ ap (take (length value)) (drop_at (text ++ key) value (length (text ++ key)) refl) ∙ take_all (length value) value (omega arith)

pub parts-pushed : (ss : List PartSpan) (text key value : List ℕ) → list_all (is_within (length text)) ss ≡ true → map (part_at (text ++ key ++ value)) (ss ++ new_span text key value ∷ []) ≡ map (part_at text) ss ++ record { key = key; value = value } ∷ []
parts-pushed ss text key value within =
    map-append (part_at (text ++ key ++ value)) ss (new_span text key value ∷ [])
    ∙ ap₂ (λ (ps : List Part) (p : Part). ps ++ p ∷ [])
    (ap (λ (t : List ℕ). map (part_at t) ss) (append_assoc text key value) ∙ parts-more ss text (key ++ value) within)
    (ap₂ (λ (k : List ℕ) (v : List ℕ). (let p : Part = record { key = k; value = v } in p)) (new-key text key value) (new-value text key value))

new-within : (text key value : List ℕ) → is_within (length (text ++ key ++ value)) (new_span text key value) ≡ true
new-within text key value =
    rw (
      le-leb (length text) (length (text ++ key)) (omega (arith, length-append text key)),
      le-leb (length (text ++ key)) (length (text ++ key ++ value)) (omega (arith, length-append (text ++ key) value)),
      le-leb (length (text ++ key ++ value)) (length (text ++ key ++ value)) (omega arith),
    ) refl

pub spans-pushed : (ss : List PartSpan) (text key value : List ℕ) → list_all (is_within (length text)) ss ≡ true → list_all (is_within (length (text ++ key ++ value))) (ss ++ new_span text key value ∷ []) ≡ true
spans-pushed ss text key value within =
    list_all-append (is_within (length (text ++ key ++ value))) ss (new_span text key value ∷ [])
    ∙ rw (spans-more ss (text ++ key) value (spans-more ss text key within), new-within text key value) refl

-- ---- a part that is put in place of one

map-set : {X Y : Type 0} (f : X → Y) (xs : List X) (i : ℕ) (x : X) → map f (slice_set xs i x) ≡ slice_set (map f xs) i (f x)
map-set f [] i x = refl
map-set f (y ∷ ys) zero x = refl
map-set f (y ∷ ys) (suc i) x = ap (λ (zs : List _). f y ∷ zs) (map-set f ys i x)

all-set : {X : Type 0} (test : X → Bool) (xs : List X) (i : ℕ) (x : X) → list_all test xs ≡ true → test x ≡ true → list_all test (slice_set xs i x) ≡ true
all-set test [] i x all one = all
all-set test (y ∷ ys) zero x all one = rw (one, (and_parts (test y) (list_all test ys) all).1) refl
all-set test (y ∷ ys) (suc i) x all one = let both = and_parts (test y) (list_all test ys) all in rw (both.0, all-set test ys i x both.1 one) refl

pub parts-put : (ss : List PartSpan) (place : ℕ) (text key value : List ℕ) → list_all (is_within (length text)) ss ≡ true →
    map (part_at (text ++ key ++ value)) (slice_set ss place (new_span text key value)) ≡ slice_set (map (part_at text) ss) place (record { key = key; value = value })
parts-put ss place text key value within =
    map-set (part_at (text ++ key ++ value)) ss place (new_span text key value)
    ∙ ap₂ (λ (ps : List Part) (p : Part). slice_set ps place p)
    (ap (λ (t : List ℕ). map (part_at t) ss) (append_assoc text key value) ∙ parts-more ss text (key ++ value) within)
    (ap₂ (λ (k : List ℕ) (v : List ℕ). (let p : Part = record { key = k; value = v } in p)) (new-key text key value) (new-value text key value))

pub spans-put : (ss : List PartSpan) (place : ℕ) (text key value : List ℕ) → list_all (is_within (length text)) ss ≡ true → list_all (is_within (length (text ++ key ++ value))) (slice_set ss place (new_span text key value)) ≡ true
spans-put ss place text key value within =
    all-set (is_within (length (text ++ key ++ value))) ss place (new_span text key value) (spans-more ss (text ++ key) value (spans-more ss text key within)) (new-within text key value)
