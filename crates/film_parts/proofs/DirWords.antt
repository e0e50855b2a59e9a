-- The words of a directory, cut into those of its parts; and the parts that they tell.
-- Letters: d is a directory.
use Rattle.std.proofs.Common.{◌≡◌, ◌≤◌, ℕ, zero, suc, List, [], ◌∷◌, ◌++◌, codes, slice_set, refl, sym, ap, ap₂, subst, ◌∙◌, append_assoc, arith}
use Rattle.std.specs.List.{AllByRecursion}
use Rattle.film_parts.specs.DdmText.Adds.{Adds}
use Rattle.film_parts.specs.DdmTypes.Keys.{stamp_at, stamp_numbers}
use Rattle.film_parts.specs.DdmTypes.declared.keys.Stamp.{Stamp}
use Rattle.film_parts.specs.Forms.{IsWide}
use Rattle.film_parts.specs.Records.{dir_list_words}
use Rattle.film_parts.specs.StateWords.Numbers.{stamp_words}
use Rattle.film_parts.specs.StateWords.Parts.{counted, dir_words, down_words, item_and_words, records, request_words}
use Rattle.film_parts.specs.TreeModel.State.Directory.{is_top}
use Rattle.film_parts.specs.TreeModel.State.Values.{DirValue, DownValue}
use Rattle.film_parts.specs.ValueLaws.Values.{DownHasForm}
use Rattle.film_model.specs.Directory.{count_text, dir_list_parts, dir_part, dir_parts, down_text}
use Rattle.film_model.specs.Leaf.{copy_text, request_text}
use Rattle.film_model.specs.Part.{Part, key_of, listed, numbered, stamp_text}
use Rattle.film_parts.proofs.LeafWords.{four_told}

pub set_at : (level : ℕ) (s : Stamp) (n : ℕ) → level ≤ 3 → slice_set (stamp_words s) level n ≡ stamp_words (stamp_at s level n)
set_at zero s n few = refl
set_at (suc zero) s n few = refl
set_at (suc (suc zero)) s n few = refl
set_at (suc (suc (suc zero))) s n few = refl
set_at (suc (suc (suc (suc level)))) s n few = absurd (omega arith)

pub all_wide : (width most : ℕ) (es : List DownValue) → AllByRecursion (DownHasForm width most) es → AllByRecursion (IsWide width) es
all_wide width most [] form = tt
all_wide width most (e ∷ es) form = (form.0.words.count, all_wide width most es form.1)

five_cut : (a b c e f : List ℕ) → a ++ b ++ c ++ e ++ f ≡ a ++ (b ++ (c ++ (e ++ f)))
five_cut a b c e f = append_assoc (a ++ b ++ c) e f ∙ append_assoc (a ++ b) c (e ++ f) ∙ append_assoc a b (c ++ (e ++ f))

six_cut : (s r a b c e f : List ℕ) → s ++ r ++ a ++ b ++ c ++ e ++ f ≡ s ++ (r ++ (a ++ b ++ c ++ e ++ f))
six_cut s r a b c e f =
    append_assoc (s ++ r ++ a ++ b ++ c) e f ∙ append_assoc (s ++ r ++ a ++ b) c (e ++ f) ∙ append_assoc (s ++ r ++ a) b (c ++ (e ++ f)) ∙ append_assoc (s ++ r) a (b ++ (c ++ (e ++ f)))
    ∙ append_assoc s r (a ++ (b ++ (c ++ (e ++ f)))) ∙ ap (λ (ws : List ℕ). s ++ (r ++ ws)) (sym (five_cut a b c e f))

pub dir_cut : (d : DirValue) → dir_words d ≡ d.count ∷ stamp_words d.epoch ++ (records (is_top d) d.items ++ dir_list_words d)
unfolding dir_words
dir_cut d =
    let s : List ℕ = stamp_words d.epoch in
    let r : List ℕ = records (is_top d) d.items in
    let a : List ℕ = counted down_words d.down in
    let b : List ℕ = counted request_words d.requests in
    let c : List ℕ = counted item_and_words d.replies in
    let e : List ℕ = counted item_and_words d.parked in
    let f : List ℕ = d.reserved ∷ [] in
    ap (λ (ws : List ℕ). d.count ∷ ws) (six_cut s r a b c e f)

pub lists_cut : (d : DirValue) → dir_list_words d ≡ counted down_words d.down ++ (counted request_words d.requests ++ (counted item_and_words d.replies ++ (counted item_and_words d.parked ++ d.reserved ∷ [])))
lists_cut d = five_cut (counted down_words d.down) (counted request_words d.requests) (counted item_and_words d.replies) (counted item_and_words d.parked) (d.reserved ∷ [])

-- five parts, one after the other
pub five_told : (s0 s1 s2 s3 s4 s5 : List Part) (a b c d e : Part) → s1 ≡ s0 ++ a ∷ [] → s2 ≡ s1 ++ b ∷ [] → s3 ≡ s2 ++ c ∷ [] → s4 ≡ s3 ++ d ∷ [] → s5 ≡ s4 ++ e ∷ [] → s5 ≡ s0 ++ a ∷ b ∷ c ∷ d ∷ e ∷ []
five_told s0 s1 s2 s3 s4 s5 a b c d e first second third fourth fifth =
    fifth ∙ ap (λ (s : List Part). s ++ e ∷ []) (four_told s0 s1 s2 s3 s4 a b c d first second third fourth) ∙ append_assoc s0 (a ∷ b ∷ c ∷ d ∷ []) (e ∷ [])

pub count_told : {a b : List ℕ} {n kept : ℕ} → n ≡ kept → Adds a b (count_text n) → Adds a b (count_text kept)
count_told {a} {b} same added = subst (λ (k : ℕ). Adds a b (count_text k)) same added

-- ---- the parts of a directory, by its bus and its level

abbrev pub time_at : ℕ → ℕ → DirValue → Part
time_at bus level d = record { key = key_of (codes "time") bus; value = stamp_text (stamp_numbers level (stamp_at d.epoch level d.count)) }

abbrev pub dir_lists_at : ℕ → ℕ → DirValue → List Part
dir_lists_at bus level d =
    record { key = key_of (codes "down") bus; value = listed (down_text level) d.down }
    ∷ record { key = key_of (codes "requests") bus; value = listed request_text d.requests }
    ∷ record { key = key_of (codes "replies") bus; value = listed copy_text d.replies }
    ∷ record { key = key_of (codes "parked") bus; value = listed copy_text d.parked }
    ∷ record { key = key_of (codes "kept") bus; value = count_text d.reserved }
    ∷ []

pub lists_of_dir : (old new : List Part) (d : DirValue) (bus level : ℕ) → d.bus ≡ bus → d.level ≡ level → new ≡ old ++ dir_lists_at bus level d → new ≡ old ++ dir_list_parts d
lists_of_dir old new d bus level bus_is level_is told = told ∙ ap₂ (λ (b l : ℕ). old ++ dir_lists_at b l d) (sym bus_is) (sym level_is)

pub dir_told : (s0 s1 s2 s3 : List Part) (children : ℕ) (d : DirValue) (bus level : ℕ) → d.bus ≡ bus → d.level ≡ level → s1 ≡ s0 ++ time_at bus level d ∷ [] → s2 ≡ s1 ++ numbered (dir_part bus children) 0 d.items
    → s3 ≡ s2 ++ dir_list_parts d → s3 ≡ s0 ++ dir_parts children d
unfolding dir_parts
dir_told s0 s1 s2 s3 children d bus level bus_is level_is first second third =
    let items : List Part = numbered (dir_part bus children) 0 d.items in
    third ∙ ap (λ (s : List Part). s ++ dir_list_parts d) (second ∙ ap (λ (s : List Part). s ++ items) first ∙ append_assoc s0 (time_at bus level d ∷ []) items)
    ∙ append_assoc s0 (time_at bus level d ∷ items) (dir_list_parts d)
    ∙ ap₂ (λ (b l : ℕ). s0 ++ ((time_at b l d ∷ numbered (dir_part b children) 0 d.items) ++ dir_list_parts d)) (sym bus_is) (sym level_is)
