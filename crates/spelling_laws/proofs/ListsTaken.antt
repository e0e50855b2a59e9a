-- Stamps, copies, requests and entries of down lists that are spelled are read again.
use Rattle.std.specs.Prelude.{◌≡◌, ℕ, Bool, true, false, nat_eq, nat_lt, ◌||◌, List, [], ◌∷◌, ◌++◌, length, Ok, refl}
use Rattle.std.specs.List.{list_all}
use Rattle.std.proofs.Common.{sym, ap, ◌∙◌}
use Rattle.std.proofs.lemmas.Bool.{eqb-true, and_parts, and_from}
use Rattle.spelling_laws.specs.DdmTypes.declared.keys.Stamp.{Stamp}
use Rattle.spelling_laws.specs.TreeModel.State.Kinds.{kind_number, brings_copy, goes_up}
use Rattle.spelling_laws.specs.TreeModel.State.Values.{RequestValue, CopyValue, DownValue}
use Rattle.spelling_laws.specs.TreeRules.Bus.Own.{are_zero}
use Rattle.spelling_laws.specs.TreeRules.Order.Time.{stamp_ends}
use Rattle.spelling_laws.specs.StateReading.Parts as reading
use Rattle.spelling_laws.specs.StateReading.Parts.{item_words, kind_of, read_copy, read_request, read_down}
use Rattle.spelling_laws.specs.StateWords.Numbers.{stamp_words}
use Rattle.spelling_laws.specs.StateWords.Parts.{item_and_words, request_words, down_words}
use Rattle.value_laws.specs.Values.{comes_down}
use Rattle.spelling_laws.proofs.Codes.{kind-fits, kind-back, asked-fits, asked-back}
use Rattle.spelling_laws.proofs.OpsTaken.{if-zero, end-fits}
use Rattle.spelling_laws.proofs.Steps.{is_below, is_from_1, is_if}
use Rattle.spelling_laws.proofs.Taken.{Takes, take, take-part, take-word, taken-all, words-taken}

pub stamp-taken : (level : ℕ) (stamp : Stamp) → stamp_ends level stamp ≡ true → Takes (reading.stamp_words level) (stamp_words stamp) stamp
stamp-taken level stamp ends k at ws rest s =
    let ns = stamp.s0 ∷ stamp.s1 ∷ stamp.s2 ∷ stamp.s3 ∷ [] in
    take-word (is_if (nat_lt 0 level)) k ws _ _ stamp.s0 (end-fits level 0 ns ends) (stamp.s1 ∷ stamp.s2 ∷ stamp.s3 ∷ []) at rest s (λ k1 ws1 s1.
    take-word (is_if (nat_lt 1 level)) k1 ws1 _ _ stamp.s1 (end-fits level 1 ns ends) (stamp.s2 ∷ stamp.s3 ∷ []) at rest s1 (λ k2 ws2 s2.
    take-word (is_if (nat_lt 2 level)) k2 ws2 _ _ stamp.s2 (end-fits level 2 ns ends) (stamp.s3 ∷ []) at rest s2 (λ k3 ws3 s3.
    take-word (is_if (nat_lt 3 level)) k3 ws3 _ _ stamp.s3 (end-fits level 3 ns ends) [] at rest s3 (λ k4 ws4 s4. taken-all stamp k4 at ws4 rest s4))))

words-pass : (has : Bool) (us : List ℕ) → (has ≡ false → are_zero us ≡ true) → list_all (is_if has) us ≡ true
words-pass has [] zero = refl
words-pass has (u ∷ us) zero =
    and_from _ _ (if-zero has u (λ none. sym (eqb-true 0 u ((and_parts (nat_eq 0 u) (are_zero us) (zero none)).0))))
    (words-pass has us (λ none. (and_parts (nat_eq 0 u) (are_zero us) (zero none)).1))

pub item-words-taken : (has : Bool) (width : ℕ) (us : List ℕ) → length us ≡ width → (has ≡ false → are_zero us ≡ true) → Takes (item_words has width) us us
item-words-taken has width us size zero = words-taken (is_if has) width us size (words-pass has us zero)

pub copy-taken : (width : ℕ) (ok : ℕ → List CopyValue → Bool) (cs : List CopyValue) (c : CopyValue) → ok c.item cs ≡ true → length c.words ≡ width → Takes (read_copy width ok cs) (item_and_words c) (cs ++ c ∷ [])
copy-taken width ok cs c pass size k at ws rest s =
    take-word (λ x. ok x cs) k ws _ _ c.item pass c.words at rest s (λ k1 ws1 s1.
    take (item_words true width k1 ws1) _ _ (record { value = c.words; at = at; rest = rest }) (item-words-taken true width c.words size (λ none. cc) k1 at ws1 rest s1) refl)

pub request-taken : (n : ℕ) (rs : List RequestValue) (r : RequestValue) → goes_up r.kind ≡ true → nat_lt r.item n ≡ true → Takes (read_request n rs) (request_words r) (rs ++ r ∷ [])
request-taken n rs r up below k at ws rest s =
    take-word (λ w. nat_eq w 1 || nat_eq w 3) k ws _ _ (kind_number r.kind) (asked-fits r.kind up) (r.item ∷ []) at rest s (λ k1 ws1 s1.
    take-word (is_below n) k1 ws1 _ _ r.item below [] at rest s1 (λ k2 ws2 s2.
    taken-all _ k2 at ws2 rest s2 ∙ ap (λ kind. Ok (record { value = rs ++ record { kind = kind; item = r.item } ∷ []; at = at; rest = rest })) (asked-back r.kind up)))

pub down-taken : (n level width : ℕ) (es : List DownValue) (e : DownValue) → comes_down e.kind ≡ true → nat_lt e.item n ≡ true → stamp_ends level e.stamp ≡ true → length e.words ≡ width → (brings_copy e.kind ≡ false → are_zero e.words ≡ true)
    → Takes (read_down n level width es) (down_words e) (es ++ e ∷ [])
down-taken n level width es e down below ends size zero k at ws rest s =
    let kind = kind-back e.kind down in
    take-word (is_from_1 5) k ws _ _ (kind_number e.kind) (kind-fits e.kind down) (e.item ∷ stamp_words e.stamp ++ e.words) at rest s (λ k1 ws1 s1.
    take-word (is_below n) k1 ws1 _ _ e.item below (stamp_words e.stamp ++ e.words) at rest s1 (λ k2 ws2 s2.
    take-part (reading.stamp_words level) k2 ws2 _ _ (stamp_words e.stamp) e.stamp (stamp-taken level e.stamp ends) e.words at rest s2 (λ k3 ws3 s3.
    take (item_words (brings_copy (kind_of (kind_number e.kind))) width k3 ws3) _ _ (record { value = e.words; at = at; rest = rest })
    (item-words-taken (brings_copy (kind_of (kind_number e.kind))) width e.words size (λ none. zero (ap brings_copy (sym kind) ∙ none)) k3 at ws3 rest s3)
    (ap (λ kind. Ok (record { value = es ++ record { kind = kind; item = e.item; words = e.words; stamp = e.stamp } ∷ []; at = at; rest = rest })) kind))))
