-- The words of a leaf, cut into those of its parts; and the parts that they tell.
-- Letters: v is a leaf, w0 are words, P what holds of elements.
use Rattle.std.proofs.Common.{◌≡◌, ℕ, List, [], ◌∷◌, ◌++◌, Option, Some, None, get_or, zero, suc, drop, flat_map, slice_index, codes, refl, sym, ap, ap₂, ◌∙◌, append_assoc, append-nil}
use Rattle.std.specs.Prelude.{⊤, filter_map, option_map}
use Rattle.std.specs.List.{AllByRecursion, cons_option, range_with_len}
use Rattle.film_parts.specs.Forms.{IsWideStanding}
use Rattle.film_parts.specs.StateWords.Numbers.{reserved_word, slot_words}
use Rattle.film_parts.specs.StateWords.Parts.{buffer_words, counted, item_and_words, leaf_words, standing, standing_at, standing_in, standing_of, standing_words}
use Rattle.film_parts.specs.TreeModel.State.Leaf.{item_in_way, way_at}
use Rattle.film_parts.specs.TreeModel.State.Values.{LeafValue, RequestValue, WayValue}
use Rattle.film_parts.specs.ValueLaws.Values.{WayHasForm}
use Rattle.text_model.specs.FlatModel.Hart.{HartValue}
use Rattle.film_parts.specs.DdmText.Hex.{hex8}
use Rattle.film_model.specs.Leaf.{buffer_text, copy_text, hart_parts, leaf_list_parts, register_part, reservation_text, slot_text, stopped_text}
use Rattle.film_model.specs.Part.{Part, key_of, listed, numbered}

-- ---- how many words the entries in ways have

module _ {X : Type 0} (P : X → Type 0) where
  all_append : (xs ys : List X) → AllByRecursion P xs → AllByRecursion P ys → AllByRecursion P (xs ++ ys)
  all_append [] ys here later = later
  all_append (x ∷ xs) ys here later = (here.0, all_append xs ys here.1 later)

  all_flat : {Y : Type 0} (f : Y → List X) (ys : List Y) → ((y : Y) → AllByRecursion P (f y)) → AllByRecursion P (flat_map f ys)
  all_flat f [] each = tt
  all_flat f (y ∷ ys) each = all_append (f y) (flat_map f ys) (each y) (all_flat f ys each)

  -- of what an option has
  abbrev pub Has : Option X → Type 0
  Has None = ⊤
  Has (Some x) = P x

  all_consed : (o : Option X) (xs : List X) → Has o → AllByRecursion P xs → AllByRecursion P (cons_option o xs)
  all_consed None xs has later = later
  all_consed (Some x) xs has later = (has, later)

  all_mapped : {Y : Type 0} (f : Y → Option X) (ys : List Y) → ((y : Y) → Has (f y)) → AllByRecursion P (filter_map f ys)
  all_mapped f [] each = tt
  all_mapped f (y ∷ ys) each = all_consed (f y) (filter_map f ys) (each y) (all_mapped f ys each)

way_wide : (width : ℕ) (ways : List (Option WayValue)) (x : ℕ) → AllByRecursion (WayHasForm width) ways → WayHasForm width (get_or ways x None)
way_wide width [] x all = tt
way_wide width (way ∷ ways) zero all = all.0
way_wide width (way ∷ ways) (suc x) all = way_wide width ways x all.1

entry_wide : (width x : ℕ) (way : Option WayValue) → WayHasForm width way → Has (IsWideStanding width) (option_map (λ e. record { item = x; entry = e }) way)
entry_wide width x None form = tt
entry_wide width x (Some e) form = form.count

one_wide : (width sets : ℕ) (ways : List (Option WayValue)) (o : Option ℕ) → AllByRecursion (WayHasForm width) ways → Has (IsWideStanding width) (standing_of sets ways o)
one_wide width sets ways None all = tt
one_wide width sets ways (Some x) all = entry_wide width x (way_at x ways) (way_wide width ways x all)

pub standing_wide : (width sets : ℕ) (ways : List (Option WayValue)) (way_count : ℕ) → AllByRecursion (WayHasForm width) ways → AllByRecursion (IsWideStanding width) (standing sets ways way_count)
unfolding standing standing_in standing_at
standing_wide width sets ways way_count all =
    all_flat (IsWideStanding width) (standing_in sets ways way_count) (range_with_len 0 sets)
    (λ set. all_mapped (IsWideStanding width) (standing_at sets ways set) (range_with_len 0 way_count) (λ way. one_wide width sets ways (item_in_way sets set way ways) all))

-- ---- the words in their order

two_words : (slot : Option RequestValue) → slot_words slot ≡ slice_index (slot_words slot) 0 ∷ slice_index (slot_words slot) 1 ∷ []
two_words None = refl
two_words (Some r) = refl

-- a reservation and a slot, and what is after them
module _ (w0 rest : List ℕ) (reserved : ℕ) (slot : Option RequestValue) (is : w0 ≡ reserved ∷ slot_words slot ++ rest) where
  spelled : w0 ≡ reserved ∷ slice_index (slot_words slot) 0 ∷ slice_index (slot_words slot) 1 ∷ rest
  spelled = is ∙ ap (λ (ws : List ℕ). reserved ∷ ws ++ rest) (two_words slot)

  pub reserved_is : slice_index w0 0 ≡ reserved
  reserved_is = ap (λ (ws : List ℕ). slice_index ws 0) spelled

  pub slot_is : slice_index (drop 1 w0) 0 ∷ slice_index (drop 1 (drop 1 w0)) 0 ∷ [] ≡ slot_words slot
  slot_is = ap (λ (ws : List ℕ). slice_index (drop 1 ws) 0 ∷ slice_index (drop 1 (drop 1 ws)) 0 ∷ []) spelled ∙ sym (two_words slot)

  pub behind_slot : drop 1 (drop 1 (drop 1 w0)) ≡ rest
  behind_slot = ap (λ (ws : List ℕ). drop 1 (drop 1 (drop 1 ws))) spelled

-- what is after the slot of a leaf
abbrev pub list_words : LeafValue → List ℕ
list_words v = counted standing_words (standing v.sizes.sets v.ways v.sizes.way_count) ++ (counted buffer_words v.buffer ++ (counted item_and_words v.replies ++ []))

pub leaf_cut : (v : LeafValue) → leaf_words v ≡ reserved_word v.reservation ∷ slot_words v.slot ++ list_words v
unfolding leaf_words
leaf_cut v =
    let a : List ℕ = counted standing_words (standing v.sizes.sets v.ways v.sizes.way_count) in
    let b : List ℕ = counted buffer_words v.buffer in
    let c : List ℕ = counted item_and_words v.replies in
    ap (λ (ws : List ℕ). reserved_word v.reservation ∷ ws)
    (append_assoc (slot_words v.slot ++ a) b c ∙ append_assoc (slot_words v.slot) a (b ++ c) ∙ ap (λ (ws : List ℕ). slot_words v.slot ++ (a ++ (b ++ ws))) (sym (append-nil c)))

-- ---- parts that were written

pub told_part : (old new : List Part) (k v key value : List ℕ) → new ≡ old ++ record { key = k; value = v } ∷ [] → k ≡ key → v ≡ value → new ≡ old ++ record { key = key; value = value } ∷ []
told_part old new k v key value is keys values = rw (sym keys, sym values) is

-- four, one after the other
pub four_told : (s0 s1 s2 s3 s4 : List Part) (a b c d : Part) → s1 ≡ s0 ++ a ∷ [] → s2 ≡ s1 ++ b ∷ [] → s3 ≡ s2 ++ c ∷ [] → s4 ≡ s3 ++ d ∷ [] → s4 ≡ s0 ++ a ∷ b ∷ c ∷ d ∷ []
four_told s0 s1 s2 s3 s4 a b c d first second third fourth =
    fourth ∙ ap (λ (s : List Part). s ++ d ∷ []) (third ∙ ap (λ (s : List Part). s ++ c ∷ []) (second ∙ ap (λ (s : List Part). s ++ b ∷ []) first))
    ∙ append_assoc ((s0 ++ a ∷ []) ++ b ∷ []) (c ∷ []) (d ∷ []) ∙ append_assoc (s0 ++ a ∷ []) (b ∷ []) (c ∷ d ∷ []) ∙ append_assoc s0 (a ∷ []) (b ∷ c ∷ d ∷ [])

-- two, and then more
pub two_told : (s0 s1 s2 s3 : List Part) (a b : Part) (ps : List Part) → s1 ≡ s0 ++ a ∷ [] → s2 ≡ s1 ++ b ∷ [] → s3 ≡ s2 ++ ps → s3 ≡ s0 ++ a ∷ b ∷ ps
two_told s0 s1 s2 s3 a b ps first second third =
    third ∙ ap (λ (s : List Part). s ++ ps) (second ∙ ap (λ (s : List Part). s ++ b ∷ []) first) ∙ append_assoc (s0 ++ a ∷ []) (b ∷ []) ps ∙ append_assoc s0 (a ∷ []) (b ∷ ps)

-- ---- the parts of a leaf, by its number

abbrev pub hart_at : ℕ → HartValue → List Part
hart_at leaf h =
    record { key = key_of (codes "pc") leaf; value = codes " " ++ hex8 h.pc }
    ∷ record { key = key_of (codes "halt") leaf; value = stopped_text h.halt }
    ∷ numbered (register_part leaf) 1 (drop 1 h.registers)

pub hart_of_leaf : (old new : List Part) (v : LeafValue) (leaf : ℕ) (h : HartValue) → v.number ≡ leaf → v.hart ≡ h → new ≡ old ++ hart_at leaf h → new ≡ old ++ hart_parts v
hart_of_leaf old new v leaf h number hart told = told ∙ ap₂ (λ (n : ℕ) (x : HartValue). old ++ hart_at n x) (sym number) (sym hart)

abbrev pub lists_at : ℕ → LeafValue → List Part
lists_at leaf v =
    record { key = key_of (codes "buffer") leaf; value = listed buffer_text v.buffer }
    ∷ record { key = key_of (codes "slot") leaf; value = slot_text v.slot }
    ∷ record { key = key_of (codes "leafreplies") leaf; value = listed copy_text v.replies }
    ∷ record { key = key_of (codes "reserved") leaf; value = reservation_text v.reservation }
    ∷ []

pub lists_of_leaf : (old new : List Part) (v : LeafValue) (leaf : ℕ) → v.number ≡ leaf → new ≡ old ++ lists_at leaf v → new ≡ old ++ leaf_list_parts v
lists_of_leaf old new v leaf number told = told ∙ ap (λ (n : ℕ). old ++ lists_at n v) (sym number)
