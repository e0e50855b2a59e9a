-- A parent that a turn of its bus changes for one item, change by change: it keeps what it keeps by itself, its face of the item
-- is changed so, and of every other item it is seen as before.
use Rattle.std.proofs.Common.{◌≡◌, ◌≢◌, ℕ, ◌+◌, ◌<◌, Bool, true, false, List, [], ◌∷◌, ◌++◌, length, refl, sym, ap, subst, ◌∙◌, arith, length-append}
use Rattle.std.specs.Prelude.{not}
use Rattle.std.specs.List.{list_all}
use Rattle.std.proofs.lemmas.List.{length-set}
use Rattle.bus_laws.specs.DdmTypes.declared.answers.TxKind.{TxKind}
use Rattle.bus_laws.specs.DdmTypes.declared.sizes.Hold.{Hold}
use Rattle.bus_laws.specs.DdmTypes.declared.keys.Stamp.{Stamp}
use Rattle.bus_laws.specs.TreeModel.State.Lists.{rest_of, has_some}
use Rattle.bus_laws.specs.TreeModel.State.Kinds.{brings_copy}
use Rattle.bus_laws.specs.TreeModel.State.Values.{DownValue, Note, DirItem, DirValue}
use Rattle.bus_laws.specs.TreeModel.State.Leaf.{is_copy, copy_item, words_of_item}
use Rattle.bus_laws.specs.TreeModel.State.Directory.{queue_kinds, dir_item, with_item, with_hold, with_note, with_answering, down_full, requests_full, replies_full, pushed_down, pushed_request, pushed_reply, with_parked, without_parked, place_released, counted, front_taken}
use Rattle.bus_laws.proofs.TreeModel.DirRooms.{pushed-fits, without_copy-length, down-place, requests-place, replies-place}
use Rattle.tree_rules.specs.Bus.Faces.{ParentFace, parent_face}
use Rattle.tree_rules.specs.Bus.Own.{are_zero, copy_fits, down_fits, request_fits, note_fits, item_fits}
use Rattle.bus_laws.proofs.Lists.{pass-set, pass-pushed, pass-behind, pass-filter, distinct-filter, distinct-pushed}
use Rattle.bus_laws.proofs.ItemLists.{queue-pushed, queue-pushed_other, queue-front, queue-front_other, kinds-pushed, kinds-pushed_other, words-pushed, words-pushed_other, words-without, words-without_other, words-absent}
use Rattle.bus_laws.proofs.BusChanged.{IsSameOf, parent-is}
use Rattle.bus_laws.proofs.DirParts.{DirParts, item-same, item-other, note-at, entry-fits, lt-test}

-- p became q, whose face of the item is f
pub record IsModified (n kids x : ℕ) (p q : DirValue) (f : ParentFace) : Type 0 where
  pub parts : DirParts n kids q
  pub face : parent_face x q ≡ f
  pub others : (y : ℕ) → y ≢ x → IsSameOf y p q

module _ (n kids x : ℕ) (within : x < n) (p : DirValue) where
  pub as-it-was : DirParts n kids p → IsModified n kids x p p (parent_face x p)
  as-it-was parts = record { parts = parts; face = refl; others = λ y ne. record { item = refl; queue = refl; requests = refl; parked = refl; replies = refl } }

  module _ (q : DirValue) (f : ParentFace) (m : IsModified n kids x p q f) where
    there : x < length q.items
    there = subst (λ k. x < k) (sym m.parts.within.items) within

    -- ---- what it keeps of the item

    item-set : (i : DirItem) → note_fits kids i.note ≡ true → DirParts n kids (with_item x i q)
    item-set i fits = record {
      within = record { items = length-set q.items x i ∙ m.parts.within.items; down = m.parts.within.down; requests = m.parts.within.requests; replies = m.parts.within.replies; parked = m.parts.within.parked };
      notes = pass-set (item_fits kids) q.items x i m.parts.notes fits;
      down = m.parts.down;
      requests = m.parts.requests;
      replies = m.parts.replies;
      parked = m.parts.parked;
      once = m.parts.once;
    }

    item-others : (i : DirItem) (y : ℕ) → y ≢ x → IsSameOf y p (with_item x i q)
    item-others i y ne = let s = m.others y ne in record { item = item-other x y i q ne ∙ s.item; queue = s.queue; requests = s.requests; parked = s.parked; replies = s.replies }

    pub noted : (note : Note) → note_fits kids note ≡ true → IsModified n kids x p (with_note x note q) (record f { note = note })
    noted note fits = record {
      parts = item-set (record (dir_item x q) { note = note }) fits;
      face = parent-is x (with_note x note q) (record (dir_item x q) { note = note }) _ _ _ (item-same x _ q there) refl refl refl ∙ ap (λ (g : ParentFace). (let h : ParentFace = record g { note = note } in h)) m.face;
      others = item-others (record (dir_item x q) { note = note });
    }

    pub held : (hold : Hold) → IsModified n kids x p (with_hold x hold q) (record f { hold = hold })
    held hold = record {
      parts = item-set (record (dir_item x q) { hold = hold }) (note-at n kids x q m.parts);
      face = parent-is x (with_hold x hold q) (record (dir_item x q) { hold = hold }) _ _ _ (item-same x _ q there) refl refl refl ∙ ap (λ (g : ParentFace). (let h : ParentFace = record g { hold = hold } in h)) m.face;
      others = item-others (record (dir_item x q) { hold = hold });
    }

    pub answers : (b : Bool) → IsModified n kids x p (with_answering x b q) (record f { answering = b })
    answers b = record {
      parts = item-set (record (dir_item x q) { answering = b }) (note-at n kids x q m.parts);
      face = parent-is x (with_answering x b q) (record (dir_item x q) { answering = b }) _ _ _ (item-same x _ q there) refl refl refl ∙ ap (λ (g : ParentFace). (let h : ParentFace = record g { answering = b } in h)) m.face;
      others = item-others (record (dir_item x q) { answering = b });
    }

    -- ---- its lists

    pub pushes_down : (kind : TxKind) (words : List ℕ) (s : Stamp) → down_full q ≡ false → (brings_copy kind ≡ false → are_zero words ≡ true) → IsModified n kids x p (pushed_down kind x words s q) (record f { queue = f.queue ++ kind ∷ [] })
    pushes_down kind words s room bare = record {
      parts = record {
        within = record { items = m.parts.within.items; down = pushed-fits q.down _ _ (down-place q room); requests = m.parts.within.requests; replies = m.parts.within.replies; parked = m.parts.within.parked };
        notes = m.parts.notes;
        down = pass-pushed (down_fits n) q.down _ m.parts.down (entry-fits n x kind words s within bare);
        requests = m.parts.requests;
        replies = m.parts.replies;
        parked = m.parts.parked;
        once = m.parts.once;
      };
      face = parent-is x (pushed_down kind x words s q) (dir_item x q) _ _ _ refl (queue-pushed x q.down _ refl) refl refl ∙ ap (λ (g : ParentFace). (let h : ParentFace = record g { queue = g.queue ++ kind ∷ [] } in h)) m.face;
      others = λ y ne. let s = m.others y ne in record { item = s.item; queue = queue-pushed_other y q.down _ ne ∙ s.queue; requests = s.requests; parked = s.parked; replies = s.replies };
    }

    pub pushes_request : (kind : TxKind) → requests_full q ≡ false → IsModified n kids x p (pushed_request kind x q) (record f { requests = f.requests ++ kind ∷ [] })
    pushes_request kind room = record {
      parts = record {
        within = record { items = m.parts.within.items; down = m.parts.within.down; requests = pushed-fits q.requests _ _ (requests-place q room); replies = m.parts.within.replies; parked = m.parts.within.parked };
        notes = m.parts.notes;
        down = m.parts.down;
        requests = pass-pushed (request_fits n) q.requests _ m.parts.requests (lt-test x n within);
        replies = m.parts.replies;
        parked = m.parts.parked;
        once = m.parts.once;
      };
      face = parent-is x (pushed_request kind x q) (dir_item x q) _ _ _ refl refl (kinds-pushed x q.requests _ refl) refl ∙ ap (λ (g : ParentFace). (let h : ParentFace = record g { requests = g.requests ++ kind ∷ [] } in h)) m.face;
      others = λ y ne. let s = m.others y ne in record { item = s.item; queue = s.queue; requests = kinds-pushed_other y q.requests _ ne ∙ s.requests; parked = s.parked; replies = s.replies };
    }

    pub pushes_reply : (words : List ℕ) → replies_full q ≡ false → IsModified n kids x p (pushed_reply x words q) f
    pushes_reply words room = record {
      parts = record {
        within = record { items = m.parts.within.items; down = m.parts.within.down; requests = m.parts.within.requests; replies = pushed-fits q.replies _ _ (replies-place q room); parked = m.parts.within.parked };
        notes = m.parts.notes;
        down = m.parts.down;
        requests = m.parts.requests;
        replies = pass-pushed (copy_fits n) q.replies _ m.parts.replies (lt-test x n within);
        parked = m.parts.parked;
        once = m.parts.once;
      };
      face = m.face;
      others = λ y ne. let s = m.others y ne in record { item = s.item; queue = s.queue; requests = s.requests; parked = s.parked; replies = words-pushed_other y q.replies _ ne ∙ s.replies };
    }

    pub takes_count : IsModified n kids x p (counted q) f
    takes_count = record {
      parts = record {
        within = record { items = m.parts.within.items; down = m.parts.within.down; requests = m.parts.within.requests; replies = m.parts.within.replies; parked = m.parts.within.parked };
        notes = m.parts.notes;
        down = m.parts.down;
        requests = m.parts.requests;
        replies = m.parts.replies;
        parked = m.parts.parked;
        once = m.parts.once;
      };
      face = m.face;
      others = λ y ne. let s = m.others y ne in record { item = s.item; queue = s.queue; requests = s.requests; parked = s.parked; replies = s.replies };
    }

    pub takes_front : (e : DownValue) (rest : List DownValue) → q.down ≡ e ∷ rest → e.item ≡ x → IsModified n kids x p (front_taken e.stamp rest q) (record f { queue = rest_of f.queue })
    takes_front e rest front is = record {
      parts = record {
        within = record { items = m.parts.within.items; down = omega (arith, m.parts.within.down, ap length front); requests = m.parts.within.requests; replies = m.parts.within.replies; parked = m.parts.within.parked };
        notes = m.parts.notes;
        down = pass-behind (down_fits n) e rest (subst (λ down. list_all (down_fits n) down ≡ true) front m.parts.down);
        requests = m.parts.requests;
        replies = m.parts.replies;
        parked = m.parts.parked;
        once = m.parts.once;
      };
      face = parent-is x (front_taken e.stamp rest q) (dir_item x q) _ _ _ refl (ap rest_of (sym (subst (λ i. queue_kinds i q.down ≡ e.kind ∷ queue_kinds i rest) is (ap (queue_kinds e.item) front ∙ queue-front e rest)))) refl refl ∙ ap (λ (g : ParentFace). (let h : ParentFace = record g { queue = rest_of g.queue } in h)) m.face;
      others = λ y ne. let s = m.others y ne in record { item = s.item; queue = sym (queue-front_other y e rest (λ same. ne (same ∙ is))) ∙ (ap (queue_kinds y) (sym front) ∙ s.queue); requests = s.requests; parked = s.parked; replies = s.replies };
    }

    -- ---- its parking

    pub parks : (words : List ℕ) → f.parked ≡ false → length q.parked + q.reserved < q.sizes.parking_room → IsModified n kids x p (with_parked x words q) (record f { parked = true })
    parks words free room = record {
      parts = record {
        within = record { items = m.parts.within.items; down = m.parts.within.down; requests = m.parts.within.requests; replies = m.parts.within.replies; parked = omega (arith, length-append q.parked (record { item = x; words = words } ∷ []), room) };
        notes = m.parts.notes;
        down = m.parts.down;
        requests = m.parts.requests;
        replies = m.parts.replies;
        parked = pass-pushed (copy_fits n) q.parked _ m.parts.parked (lt-test x n within);
        once = distinct-pushed copy_item q.parked (record { item = x; words = words }) m.parts.once (words-absent x q.parked (ap (λ (g : ParentFace). g.parked) m.face ∙ free));
      };
      face = parent-is x (with_parked x words q) (dir_item x q) _ _ _ refl refl refl (ap has_some (words-pushed x q.parked _ refl) ∙ some-pushed (words_of_item x q.parked) words) ∙ ap (λ (g : ParentFace). (let h : ParentFace = record g { parked = true } in h)) m.face;
      others = λ y ne. let s = m.others y ne in record { item = s.item; queue = s.queue; requests = s.requests; parked = words-pushed_other y q.parked _ ne ∙ s.parked; replies = s.replies };
    } where
      some-pushed : {X : Type 0} (xs : List X) (v : X) → has_some (xs ++ v ∷ []) ≡ true
      some-pushed [] v = refl
      some-pushed (x ∷ xs) v = refl

    pub unparks : IsModified n kids x p (without_parked x q) (record f { parked = false })
    unparks = record {
      parts = record {
        within = record { items = m.parts.within.items; down = m.parts.within.down; requests = m.parts.within.requests; replies = m.parts.within.replies; parked = omega (arith, without_copy-length x q.parked, m.parts.within.parked) };
        notes = m.parts.notes;
        down = m.parts.down;
        requests = m.parts.requests;
        replies = m.parts.replies;
        parked = pass-filter (copy_fits n) (λ c. not (is_copy x c)) q.parked m.parts.parked;
        once = distinct-filter copy_item (λ c. not (is_copy x c)) q.parked m.parts.once;
      };
      face = parent-is x (without_parked x q) (dir_item x q) _ _ _ refl refl refl (ap has_some (words-without x q.parked)) ∙ ap (λ (g : ParentFace). (let h : ParentFace = record g { parked = false } in h)) m.face;
      others = λ y ne. let s = m.others y ne in record { item = s.item; queue = s.queue; requests = s.requests; parked = words-without_other x y q.parked ne ∙ s.parked; replies = s.replies };
    }

    pub releases : IsModified n kids x p (place_released q) f
    releases = record {
      parts = record {
        within = record { items = m.parts.within.items; down = m.parts.within.down; requests = m.parts.within.requests; replies = m.parts.within.replies; parked = omega (arith, m.parts.within.parked) };
        notes = m.parts.notes;
        down = m.parts.down;
        requests = m.parts.requests;
        replies = m.parts.replies;
        parked = m.parts.parked;
        once = m.parts.once;
      };
      face = m.face;
      others = λ y ne. let s = m.others y ne in record { item = s.item; queue = s.queue; requests = s.requests; parked = s.parked; replies = s.replies };
    }
