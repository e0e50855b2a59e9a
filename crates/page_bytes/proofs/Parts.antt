-- A text that grows part by part.
use Rattle.std.proofs.Common.{◌≡◌, ℕ, zero, suc, ◌+◌, ◌-◌, ◌<◌, ◌≤◌, Some, List, [], ◌∷◌, ◌++◌, drop, length, flat_map, refl, sym, ap, subst, ◌∙◌, append_assoc, append-nil, arith}
use Rattle.std.specs.Prelude.{slice_get}
use Rattle.std.proofs.lemmas.List.{drop_all}
use Rattle.page_bytes.specs.DdmText.Adds.{Adds}

-- the bytes of parts
abbrev pub joined : List (List ℕ) → List ℕ
joined parts = flat_map (λ part. part) parts

joined_after : (parts : List (List ℕ)) (k : ℕ) (part : List ℕ) → Some part ≡ slice_get parts k → joined (drop k parts) ≡ part ++ joined (drop (suc k) parts)
joined_after [] zero part is = cc
joined_after [] (suc k) part is = cc
joined_after (p ∷ parts) zero part is = let same : p ≡ part = cc in ap (λ (text : List ℕ). text ++ joined parts) same
joined_after (p ∷ parts) (suc k) part is = joined_after parts k part is

pub is_part : (parts : List (List ℕ)) (k : ℕ) (part : List ℕ) → Some part ≡ slice_get parts k → k < length parts
is_part [] zero part is = absurd (cc is)
is_part [] (suc k) part is = absurd (cc is)
is_part (p ∷ parts) zero part is = omega arith
is_part (p ∷ parts) (suc k) part is = let more = is_part parts k part is in omega (arith, more)

pub with_part : (parts : List (List ℕ)) (k : ℕ) (part old now after : List ℕ) → Some part ≡ slice_get parts k → now ++ joined (drop k parts) ≡ old ++ joined parts → after ≡ now ++ part
    → after ++ joined (drop (k + 1) parts) ≡ old ++ joined parts
with_part parts k part old now after is so_far added =
    let next : suc k ≡ k + 1 = omega arith in
    ap (λ (n : ℕ). after ++ joined (drop n parts)) (sym next) ∙ ap (λ (text : List ℕ). text ++ joined (drop (suc k) parts)) added ∙ append_assoc now part (joined (drop (suc k) parts))
    ∙ ap (λ (text : List ℕ). now ++ text) (sym (joined_after parts k part is)) ∙ so_far

pub with_all : (parts : List (List ℕ)) (k : ℕ) (old now : List ℕ) → length parts ≤ k → now ++ joined (drop k parts) ≡ old ++ joined parts → Adds old now (joined parts)
with_all parts k old now past so_far = record { is = sym (append-nil now) ∙ ap (λ (ps : List (List ℕ)). now ++ joined ps) (sym (drop_all k parts past)) ∙ so_far }
