-- The words of what the harts have put out tell it.
-- Letters: a and b are bytes of one hart, xs and ys those of several.
use Rattle.std.specs.Prelude.{◌≡◌, ℕ, List, [], ◌∷◌, ◌++◌, length, take, flat_map, refl}
use Rattle.std.proofs.Common.{ap, sym, ◌∙◌}
use Rattle.std.proofs.lemmas.List.{append_cancel_left}
use Rattle.std.proofs.Math.Seq.{take-append_seam}
use Rattle.std.proofs.Math.Nat.{suc_inj}
use Rattle.time_laws.proofs.BlindBus.{cons-head, cons-tail}
use Rattle.state_keys.specs.Key.{put_words}

-- as many of one as of the other begin a list, and then they are the same
same-beginnings : (a b more rest : List ℕ) → length a ≡ length b → a ++ more ≡ b ++ rest → a ≡ b
same-beginnings a b more rest count same = sym (take-append_seam a more) ∙ ap (take (length a)) same ∙ ap (λ k. take k (b ++ rest)) count ∙ take-append_seam b rest

one-told : (a b more rest : List ℕ) → put_words a ++ more ≡ put_words b ++ rest → (a ≡ b) × (more ≡ rest)
one-told a b more rest same =
    let count : length a ≡ length b = cons-head (length a) (length b) (a ++ more) (b ++ rest) same in
    let behind : a ++ more ≡ b ++ rest = cons-tail (length a) (length b) (a ++ more) (b ++ rest) same in
    let is = same-beginnings a b more rest count behind in
    (is, append_cancel_left a more rest (behind ∙ ap (λ c. c ++ rest) (sym is)))

pub puts-told : (xs ys : List (List ℕ)) → length xs ≡ length ys → flat_map put_words xs ≡ flat_map put_words ys → xs ≡ ys
puts-told [] [] count same = refl
puts-told [] (b ∷ ys) count same = cc
puts-told (a ∷ xs) [] count same = cc
puts-told (a ∷ xs) (b ∷ ys) count same =
    let one = one-told a b (flat_map put_words xs) (flat_map put_words ys) same in
    ap (λ c. c ∷ xs) one.0 ∙ ap (λ cs. b ∷ cs) (puts-told xs ys (suc_inj count) one.1)
