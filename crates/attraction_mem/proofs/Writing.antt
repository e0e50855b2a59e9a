-- What the calls that change a memory leave.
use Rattle.std.proofs.Common.{◌≡◌, ℕ, ◌+◌, ◌*◌, ◌%◌, ◌<◌, List, [], length, get_or, set, Option, Some, None, refl, sym, ◌∙◌, ap, subst, arith}
use Rattle.std.proofs.lemmas.Nat.{div-mul-add, mod-mul-add}
use Rattle.std.proofs.lemmas.List.{get_or-set_same}
use Rattle.std.proofs.Math.ListN.{length-set}
use Rattle.ddm_types.specs.declared.sizes.LeafState.{LeafState}
use Rattle.attraction_mem.specs.Memory.{entry_of, with_entry, without_entry, with_state, with_words, changed_state, changed_words, IsFree}
use Rattle.attraction_mem.specs.Places.{memory_of, HasTag, IsKept}
use Rattle.attraction_mem.proofs.Holding.{IsWritten, written-set, written-same}
use Rattle.attraction_mem.proofs.Changing.{IsAlone, alone_free, alone_tagged, kept_put, kept_free, memory_put, memory_free}
use Rattle.attraction_mem.proofs.Standing.{untagged, entry_of_found}
use Rattle.attraction_mem.proofs.Reading.{taken_by}

module _ {ways sets : ℕ} {tags : List (Option (ℕ × LeafState))} {words : List (List ℕ)} (kept : IsKept ways sets tags words) where
  -- a free way is a free place
  pub free_place : (o : Option (ℕ × LeafState)) (row way : ℕ) → way < ways → get_or tags (row * ways + way) None ≡ o → IsFree (memory_of ways sets tags words) row way → get_or tags (row * ways + way) None ≡ None
  free_place None row way within is free = is
  free_place (Some t) row way within is free = let taken = taken_by kept (Some t) row way within is refl in absurd (free taken.0 taken.1)

  alone_in : (item way : ℕ) → way < ways → entry_of (memory_of ways sets tags words) item ≡ None → IsFree (memory_of ways sets tags words) (item % (memory_of ways sets tags words).sets) way → IsAlone tags (item % sets * ways + way) item
  unfolding memory_of
  alone_in item way within absent free =
      alone_free tags (item % sets * ways + way) item (free_place (get_or tags (item % sets * ways + way) None) (item % sets) way within refl free) (untagged kept item absent)

  pub placed_kept : (item way p : ℕ) (s : LeafState) (w : List ℕ) → p ≡ item % sets * ways + way → p < length tags → way < ways → entry_of (memory_of ways sets tags words) item ≡ None → IsFree (memory_of ways sets tags words) (item % (memory_of ways sets tags words).sets) way → IsKept ways sets (set tags p (Some (item, s))) (set words p w)
  placed_kept item way p s w is inside within absent free =
      kept_put ways sets tags (set tags p (Some (item, s))) words (set words p w) p item kept (rw is (alone_in item way within absent free)) s (written-set None tags p (Some (item, s)) inside) (length-set words p w) (rw is (sym (div-mul-add (item % sets) ways way within)))

  pub placed_is : (item way p : ℕ) (s : LeafState) (w : List ℕ) → p ≡ item % sets * ways + way → p < length tags → way < ways → entry_of (memory_of ways sets tags words) item ≡ None → IsFree (memory_of ways sets tags words) (item % (memory_of ways sets tags words).sets) way → memory_of ways sets (set tags p (Some (item, s))) (set words p w) ≡ with_entry (memory_of ways sets tags words) item way s w
  placed_is item way p s w is inside within absent free =
      let inside_words : p < length words = omega (arith, kept.word_places) in
      let at_way : p % ways ≡ way = ap (λ k. k % ways) is ∙ mod-mul-add (item % sets) ways way within in
      memory_put ways sets tags (set tags p (Some (item, s))) words (set words p w) p item kept (rw is (alone_in item way within absent free)) s w (written-set None tags p (Some (item, s)) inside) (written-set [] words p w inside_words) ∙ ap (λ k. with_entry (memory_of ways sets tags words) item k s w) at_way

  module _ (item p : ℕ) (s : LeafState) (tag : HasTag tags p item s) (inside : p < length tags) where
    alone : IsAlone tags p item
    alone = alone_tagged tags p item s kept.once tag

    pub restated_kept : (t : LeafState) → IsKept ways sets (set tags p (Some (item, t))) words
    restated_kept t = kept_put ways sets tags (set tags p (Some (item, t))) words words p item kept alone t (written-set None tags p (Some (item, t)) inside) refl (kept.own p item s tag)

    pub restated_is : (t : LeafState) → memory_of ways sets (set tags p (Some (item, t))) words ≡ with_state (memory_of ways sets tags words) item t
    restated_is t =
        memory_put ways sets tags (set tags p (Some (item, t))) words words p item kept alone t (get_or words p []) (written-set None tags p (Some (item, t)) inside) (written-same [] words p)
        ∙ ap (changed_state (memory_of ways sets tags words) item t) (sym (entry_of_found kept p item s tag))

    pub reworded_kept : (w : List ℕ) → IsKept ways sets tags (set words p w)
    reworded_kept w = kept_put ways sets tags tags words (set words p w) p item kept alone s (subst (λ o. IsWritten None tags tags p o) tag (written-same None tags p)) (length-set words p w) (kept.own p item s tag)

    pub reworded_is : (w : List ℕ) → memory_of ways sets tags (set words p w) ≡ with_words (memory_of ways sets tags words) item w
    reworded_is w =
        let inside_words : p < length words = omega (arith, kept.word_places) in
        memory_put ways sets tags tags words (set words p w) p item kept alone s w (subst (λ o. IsWritten None tags tags p o) tag (written-same None tags p)) (written-set [] words p w inside_words)
        ∙ ap (changed_words (memory_of ways sets tags words) item w) (sym (entry_of_found kept p item s tag))

    pub removed_kept : IsKept ways sets (set tags p None) words
    removed_kept = kept_free ways sets tags (set tags p None) words words p item kept alone (written-set None tags p None inside)

    pub removed_is : memory_of ways sets (set tags p None) words ≡ without_entry (memory_of ways sets tags words) item
    removed_is = memory_free ways sets tags (set tags p None) words words p item kept alone (written-set None tags p None inside)

-- another state and other words of an entry
module _ {ways sets : ℕ} {tags : List (Option (ℕ × LeafState))} {words : List (List ℕ)} (kept : IsKept ways sets tags words) (item p : ℕ) (s : LeafState) (tag : HasTag tags p item s) (inside : p < length tags) (t : LeafState) (w : List ℕ) where
  there : HasTag (set tags p (Some (item, t))) p item t
  there = get_or-set_same tags p (Some (item, t)) None inside

  within : p < length (set tags p (Some (item, t)))
  within = omega (arith, length-set tags p (Some (item, t)))

  pub changed_kept : IsKept ways sets (set tags p (Some (item, t))) (set words p w)
  changed_kept = reworded_kept (restated_kept kept item p s tag inside t) item p t there within w

  pub changed_is : memory_of ways sets (set tags p (Some (item, t))) (set words p w) ≡ with_words (with_state (memory_of ways sets tags words) item t) item w
  changed_is = reworded_is (restated_kept kept item p s tag inside t) item p t there within w ∙ ap (λ m. with_words m item w) (restated_is kept item p s tag inside t)
