-- The pieces of a word, one byte more at a time: what has been read of a piece, and what is left.
use Rattle.std.proofs.Common.{◌≡◌, ◌≢◌, ℕ, ◌+◌, ◌-◌, ◌<◌, ◌≤◌, List, [], ◌∷◌, ◌++◌, length, take, drop, get_or, refl, sym, ap, ◌∙◌, append_assoc, arith, length-drop}
use Rattle.std.specs.Prelude.{Bool, true, false, Option, Some, None}
use Rattle.std.specs.List.{onto_first, slice_split}
use Rattle.std.specs.Option.{option_and_then, option_map}
use Rattle.std.proofs.lemmas.Bool.Decides.{nat_tests}
use Rattle.std.proofs.lemmas.List.{append-nil, drop_all, drop_more, get_or-drop, take_all, take_more}
use Rattle.std.proofs.lemmas.List.Splits.{slice_split-cons_yes, slice_split-cons_no}
use Rattle.litmus_files.specs.Places.{is_comma, next_leaf, places_from, places_in}

-- bytes in front of the first piece
abbrev pub with_front : List ℕ → List (List ℕ) → List (List ℕ)
with_front front [] = front ∷ []
with_front front (p ∷ ps) = (front ++ p) ∷ ps

front_more : (front : List ℕ) (b : ℕ) (ps : List (List ℕ)) → with_front front (onto_first b ps) ≡ with_front (front ++ b ∷ []) ps
front_more front b [] = refl
front_more front b (p ∷ ps) = ap (λ (q : List ℕ). q ∷ ps) (sym (append_assoc front (b ∷ []) p))

first_in_front : (b : ℕ) (ps : List (List ℕ)) → with_front [] (onto_first b ps) ≡ onto_first b ps
first_in_front b [] = refl
first_in_front b (p ∷ ps) = refl

none_in_front : (word : List ℕ) → with_front [] (slice_split is_comma word) ≡ slice_split is_comma word
none_in_front [] = refl
none_in_front (b ∷ bs) = by_test (is_comma b) refl where
  by_test : (c : Bool) → is_comma b ≡ c → with_front [] (slice_split is_comma (b ∷ bs)) ≡ slice_split is_comma (b ∷ bs)
  by_test true is = rw (slice_split-cons_yes is_comma b bs is) refl
  by_test false is = rw (slice_split-cons_no is_comma b bs is) (first_in_front b (slice_split is_comma bs))

-- what has been read of the piece that began at a byte
abbrev pub piece_at : List ℕ → ℕ → ℕ → List ℕ
piece_at word begun at = take (at - begun) (drop begun word)

-- this piece and those after it
abbrev pub pieces_left : List ℕ → ℕ → ℕ → List (List ℕ)
pieces_left word begun at = with_front (piece_at word begun at) (slice_split is_comma (drop at word))

abbrev more : List ℕ → ℕ → List ℕ
more leaves leaf = leaves ++ leaf ∷ []

pub all_left : (word : List ℕ) → places_in word ≡ places_from [] (pieces_left word 0 0)
unfolding places_in
all_left word = ap (places_from []) (sym (none_in_front word))

at_comma : (word : List ℕ) (begun at d : ℕ) → at < length word → get_or word at d ≡ 44
    → pieces_left word begun at ≡ piece_at word begun at ∷ slice_split is_comma (drop (at + 1) word)
at_comma word begun at d inside comma =
    let is : is_comma (get_or word at d) ≡ true = rw comma refl in
    rw (drop_more word at d inside, slice_split-cons_yes is_comma (get_or word at d) (drop (at + 1) word) is, append-nil (piece_at word begun at)) refl

begun_again : (word : List ℕ) (at : ℕ) → pieces_left word (at + 1) (at + 1) ≡ slice_split is_comma (drop (at + 1) word)
begun_again word at =
    let none : at + 1 - (at + 1) ≡ 0 = omega arith in
    rw none (none_in_front (drop (at + 1) word))

by_next : (leaves : List ℕ) (next : Option ℕ) (others : List ℕ) (ps : List (List ℕ)) → option_map (more leaves) next ≡ Some others
    → option_and_then (λ leaf. places_from (more leaves leaf) ps) next ≡ places_from others ps
by_next leaves None others ps some = absurd (cc)
by_next leaves (Some leaf) others ps some =
    let same : more leaves leaf ≡ others = cc in
    ap (λ (ls : List ℕ). places_from ls ps) same

by_none : (leaves : List ℕ) (next : Option ℕ) (ps : List (List ℕ)) → option_map (more leaves) next ≡ None
    → option_and_then (λ leaf. places_from (more leaves leaf) ps) next ≡ None
by_none leaves None ps none = refl
by_none leaves (Some leaf) ps none = absurd (cc)

by_last : (leaves : List ℕ) (next : Option ℕ) → option_and_then (λ leaf. places_from (more leaves leaf) []) next ≡ option_map (more leaves) next
unfolding places_from
by_last leaves None = refl
by_last leaves (Some leaf) = refl

pub piece_ends : (word leaves : List ℕ) (begun at d : ℕ) (others : List ℕ) → at < length word → get_or word at d ≡ 44
    → option_map (λ leaf. leaves ++ leaf ∷ []) (next_leaf leaves (take (at - begun) (drop begun word))) ≡ Some others
    → places_from leaves (pieces_left word begun at) ≡ places_from others (pieces_left word (at + 1) (at + 1))
unfolding places_from
piece_ends word leaves begun at d others inside comma some =
    rw (at_comma word begun at d inside comma, begun_again word at)
    (by_next leaves (next_leaf leaves (piece_at word begun at)) others (slice_split is_comma (drop (at + 1) word)) some)

pub piece_fails : (word leaves : List ℕ) (begun at d : ℕ) → at < length word → get_or word at d ≡ 44
    → option_map (λ leaf. leaves ++ leaf ∷ []) (next_leaf leaves (take (at - begun) (drop begun word))) ≡ None
    → places_from leaves (pieces_left word begun at) ≡ None
unfolding places_from
piece_fails word leaves begun at d inside comma none =
    rw (at_comma word begun at d inside comma)
    (by_none leaves (next_leaf leaves (piece_at word begun at)) (slice_split is_comma (drop (at + 1) word)) none)

piece_more : (word : List ℕ) (begun at d : ℕ) → begun ≤ at → at < length word → piece_at word begun (at + 1) ≡ piece_at word begun at ++ get_or word at d ∷ []
piece_more word begun at d before inside =
    let behind : at + 1 - begun ≡ at - begun + 1 = omega (arith, before) in
    let long = length-drop begun word in
    let within : at - begun < length (drop begun word) = omega (arith, long, before, inside) in
    let whole : begun + (at - begun) ≡ at = omega (arith, before) in
    let there : get_or (drop begun word) (at - begun) d ≡ get_or word at d = get_or-drop begun word (at - begun) d ∙ ap (λ k. get_or word k d) whole in
    rw (behind, take_more (drop begun word) (at - begun) d within, there) refl

pub piece_goes_on : (word leaves : List ℕ) (begun at d : ℕ) → begun ≤ at → at < length word → get_or word at d ≢ 44
    → places_from leaves (pieces_left word begun at) ≡ places_from leaves (pieces_left word begun (at + 1))
piece_goes_on word leaves begun at d before inside other =
    let is : is_comma (get_or word at d) ≡ false = grind (arith, nat_tests) in
    let here : pieces_left word begun at ≡ pieces_left word begun (at + 1) =
    rw (drop_more word at d inside, slice_split-cons_no is_comma (get_or word at d) (drop (at + 1) word) is, piece_more word begun at d before inside)
    (front_more (piece_at word begun at) (get_or word at d) (slice_split is_comma (drop (at + 1) word))) in
    ap (places_from leaves) here

pub last_piece : (word leaves : List ℕ) (begun at : ℕ) → length word ≤ at → begun ≤ at
    → places_from leaves (pieces_left word begun at)
    ≡ option_map (λ leaf. leaves ++ leaf ∷ []) (next_leaf leaves (take (length word - begun) (drop begun word)))
unfolding places_from
last_piece word leaves begun at past before =
    let long = length-drop begun word in
    let whole = take_all (at - begun) (drop begun word) (omega (arith, long, past)) in
    let same = take_all (length word - begun) (drop begun word) (omega (arith, long)) in
    rw (drop_all at word past, whole, same, append-nil (drop begun word)) (by_last leaves (next_leaf leaves (drop begun word)))

-- One byte more of a piece.
pub ruleset piece_steps = (piece_ends, piece_fails, piece_goes_on, last_piece)
