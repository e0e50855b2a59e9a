-- A directory that is spelled is read again, into one of its bus, level and sizes.
use Rattle.std.specs.Prelude.{◌≡◌, ℕ, ◌+◌, ◌-◌, ◌≤◌, Bool, true, false, not, nat_eq, nat_lt, nat_le, List, [], ◌∷◌, ◌++◌, length, map, refl}
use Rattle.std.specs.List.{AllByRecursion, list_all, list_any}
use Rattle.std.proofs.Common.{ap, ◌∙◌, subst, arith, append_assoc}
use Rattle.std.proofs.lemmas.Bool.{eqb-true, le-leb, leb-true, and_parts, and_from, or_parts, not-true, not_from_false}
use Rattle.spelling_laws.specs.TreeModel.State.Kinds.{brings_copy}
use Rattle.spelling_laws.specs.TreeModel.State.Values.{RequestValue, CopyValue, DownValue, DirItem, DirValue}
use Rattle.spelling_laws.specs.TreeModel.State.Leaf.{copy_item, is_copy}
use Rattle.spelling_laws.specs.TreeModel.State.Directory.{is_top}
use Rattle.spelling_laws.specs.TreeModel.State.Shape.{are_distinct}
use Rattle.spelling_laws.specs.TreeRules.Bus.Item.{implies}
use Rattle.spelling_laws.specs.TreeRules.Bus.Own.{are_zero, copy_fits, down_fits, request_fits, item_fits, IsDirOk, dir_lists, notes_fit, down_entries, dir_requests, dir_replies, parked_fit, parked_once}
use Rattle.spelling_laws.specs.TreeRules.Order.Time.{stamp_ends}
use Rattle.spelling_laws.specs.StateReading.Parts as reading
use Rattle.spelling_laws.specs.StateReading.Parts.{most_counted, listed, read_records, read_down, read_request, read_copy, read_dir}
use Rattle.spelling_laws.specs.StateWords.Numbers.{stamp_words}
use Rattle.spelling_laws.specs.StateWords.Parts.{counted, dir_words, down_words, request_words, item_and_words, records}
use Rattle.value_laws.specs.Values.{DirHasForm, DownHasForm, RequestHasForm, CopyHasForm}
use Rattle.state_judging.proofs.Lists.{same-test}
use Rattle.spelling_laws.proofs.Dir.{any_item, other_item}
use Rattle.spelling_laws.proofs.Grouped.{seven-grouped}
use Rattle.spelling_laws.proofs.ListsTaken.{stamp-taken, copy-taken, request-taken, down-taken}
use Rattle.spelling_laws.proofs.RecordsTaken.{suits_top, ItemSuits, items-taken}
use Rattle.spelling_laws.proofs.Steps.{is_count, is_to, spells-as}
use Rattle.spelling_laws.proofs.Taken.{Takes, AllTaken, take-part, take-word, taken-all, list-taken}

-- ---- the entries of lists

abbrev pub has_ending_stamp : ℕ → DownValue → Bool
has_ending_stamp level e = stamp_ends level e.stamp

implied : (a b : Bool) → implies a b ≡ true → a ≡ true → b ≡ true
unfolding implies
implied true b e is = e
implied false b e is = cc

module _ (n width : ℕ) where
  pub copies-taken : (es cs : List CopyValue) → list_all (copy_fits n) cs ≡ true → AllByRecursion (CopyHasForm width) cs → AllTaken item_and_words (read_copy width (any_item n)) es cs
  copies-taken es [] fit form = tt
  copies-taken es (c ∷ cs) fit form =
      let p = and_parts (copy_fits n c) (list_all (copy_fits n) cs) fit in
      (copy-taken width (any_item n) es c p.0 form.0.count, copies-taken (es ++ c ∷ []) cs p.1 form.1)

  -- of different items
  before-differs : (x : ℕ) (es cs : List CopyValue) (c : CopyValue) → c.item ≡ x → are_distinct (map copy_item (es ++ c ∷ cs)) ≡ true → list_any (is_copy x) es ≡ false
  before-differs x [] cs c is differ = refl
  before-differs x (e ∷ es) cs c is differ =
      let p = and_parts (not (list_any (nat_eq e.item) (map copy_item (es ++ c ∷ cs)))) (are_distinct (map copy_item (es ++ c ∷ cs))) differ in
      let here : nat_eq x e.item ≡ false = same-test x e.item ∙ among (not-true _ p.0) in
      rw here (before-differs x es cs c is p.1)
    where
      among : list_any (nat_eq e.item) (map copy_item (es ++ c ∷ cs)) ≡ false → nat_eq e.item x ≡ false
      among none = subst (λ y. nat_eq e.item y ≡ false) is (found es none)
        where
          found : (es : List CopyValue) → list_any (nat_eq e.item) (map copy_item (es ++ c ∷ cs)) ≡ false → nat_eq e.item c.item ≡ false
          found [] none = (or_parts (nat_eq e.item c.item) (list_any (nat_eq e.item) (map copy_item cs)) none).0
          found (f ∷ es) none = found es ((or_parts (nat_eq e.item f.item) (list_any (nat_eq e.item) (map copy_item (es ++ c ∷ cs))) none).1)

  pub parked-taken : (es cs : List CopyValue) → list_all (copy_fits n) cs ≡ true → AllByRecursion (CopyHasForm width) cs → are_distinct (map copy_item (es ++ cs)) ≡ true → AllTaken item_and_words (read_copy width (other_item n)) es cs
  parked-taken es [] fit form differ = tt
  parked-taken es (c ∷ cs) fit form differ =
      let p = and_parts (copy_fits n c) (list_all (copy_fits n) cs) fit in
      let other = before-differs c.item es cs c refl differ in
      let more : are_distinct (map copy_item ((es ++ c ∷ []) ++ cs)) ≡ true = ap (λ l. are_distinct (map copy_item l)) (append_assoc es (c ∷ []) cs) ∙ differ in
      (copy-taken width (other_item n) es c (and_from _ _ p.0 (not_from_false _ other)) form.0.count, parked-taken (es ++ c ∷ []) cs p.1 form.1 more)

  pub requests-taken : (es rs : List RequestValue) → list_all (request_fits n) rs ≡ true → AllByRecursion RequestHasForm rs → AllTaken request_words (read_request n) es rs
  requests-taken es [] fit form = tt
  requests-taken es (r ∷ rs) fit form =
      let p = and_parts (request_fits n r) (list_all (request_fits n) rs) fit in
      (request-taken n es r form.0 p.0, requests-taken (es ++ r ∷ []) rs p.1 form.1)

  pub downs-taken : (level most : ℕ) (es ds : List DownValue) → list_all (down_fits n) ds ≡ true → AllByRecursion (DownHasForm width most) ds → list_all (has_ending_stamp level) ds ≡ true → AllTaken down_words (read_down n level width) es ds
  downs-taken level most es [] fit form ends = tt
  downs-taken level most es (e ∷ ds) fit form ends =
      let p = and_parts (down_fits n e) (list_all (down_fits n) ds) fit in
      let q = and_parts (nat_lt e.item n) (implies (not (brings_copy e.kind)) (are_zero e.words)) p.0 in
      let r = and_parts (has_ending_stamp level e) (list_all (has_ending_stamp level) ds) ends in
      (down-taken n level width es e form.0.kind q.0 r.0 form.0.words.count (λ none. implied (not (brings_copy e.kind)) (are_zero e.words) q.1 (not_from_false _ none)), downs-taken level most (es ++ e ∷ []) ds p.1 form.1 r.1)

-- ---- a directory over so many children

pub record DirSpelled (n kids : ℕ) (d : DirValue) : Type 0 where
  pub ok : IsDirOk n kids d
  pub form : DirHasForm d.sizes.width most_counted d
  pub items : list_all (suits_top (is_top d)) d.items ≡ true
  pub epoch : stamp_ends d.level d.epoch ≡ true
  pub stamps : list_all (has_ending_stamp d.level) d.down ≡ true

both-suit : (kids : ℕ) (top : Bool) (n : ℕ) (items : List DirItem) → list_all (item_fits kids) items ≡ true → list_all (suits_top top) items ≡ true → list_all (ItemSuits n kids top) items ≡ true
both-suit kids top n [] fit suit = refl
both-suit kids top n (i ∷ items) fit suit =
    let p = and_parts (item_fits kids i) (list_all (item_fits kids) items) fit in
    let q = and_parts (suits_top top i) (list_all (suits_top top) items) suit in
    and_from _ _ (and_from _ _ p.0 q.0) (both-suit kids top n items p.1 q.1)

module _ (n kids : ℕ) (d : DirValue) (spelled : DirSpelled n kids d) where
  framed-taken : (e : DirValue) → Takes (read_dir n kids (record e { bus = d.bus; level = d.level; sizes = d.sizes })) (dir_words d) d
  unfolding read_dir dir_words
  framed-taken e k at ws rest s =
      let ok = spelled.ok in
      let form = spelled.form in
      let lists = and_parts (nat_eq (length d.items) n) _ (ok.each dir_lists) in
      let l1 = and_parts (nat_le (length d.down) d.sizes.down_room) _ lists.1 in
      let l2 = and_parts (nat_le (length d.requests) d.sizes.request_room) _ l1.1 in
      let l3 = and_parts (nat_le (length d.replies) d.sizes.reply_room) (nat_le (length d.parked + d.reserved) d.sizes.parking_room) l2.1 in
      let room : length d.parked + d.reserved ≤ d.sizes.parking_room = leb-true _ _ l3.1 in
      let items = items-taken n kids (is_top d) d.items (eqb-true _ _ lists.0) (both-suit kids (is_top d) n d.items (ok.each notes_fit) spelled.items) in
      let parked_end : List ℕ = d.reserved ∷ [] in
      let replies_end = counted item_and_words d.parked ++ parked_end in
      let requests_end = counted item_and_words d.replies ++ replies_end in
      let down_end = counted request_words d.requests ++ requests_end in
      let items_end = counted down_words d.down ++ down_end in
      let epoch_end = records (is_top d) d.items ++ items_end in
      take-word is_count k ws _ _ d.count (le-leb _ _ form.count) (stamp_words d.epoch ++ epoch_end) at rest
      (spells-as (ap (λ l. d.count ∷ l) (seven-grouped (stamp_words d.epoch) (records (is_top d) d.items) (counted down_words d.down) (counted request_words d.requests) (counted item_and_words d.replies) (counted item_and_words d.parked) parked_end)) s) (λ k1 ws1 s1.
      take-part (reading.stamp_words d.level) k1 ws1 _ _ (stamp_words d.epoch) d.epoch (stamp-taken d.level d.epoch spelled.epoch) epoch_end at rest s1 (λ k2 ws2 s2.
      take-part (read_records n kids (is_top d)) k2 ws2 _ _ (records (is_top d) d.items) (record { last = items.last; items = d.items }) items.takes items_end at rest s2 (λ k3 ws3 s3.
      take-part (listed d.sizes.down_room (read_down n d.level d.sizes.width)) k3 ws3 _ _ (counted down_words d.down) d.down
      (list-taken down_words (read_down n d.level d.sizes.width) d.sizes.down_room d.down (leb-true _ _ l1.0) (downs-taken n d.sizes.width d.level most_counted [] d.down (ok.each down_entries) form.down spelled.stamps)) down_end at rest s3 (λ k4 ws4 s4.
      take-part (listed d.sizes.request_room (read_request n)) k4 ws4 _ _ (counted request_words d.requests) d.requests
      (list-taken request_words (read_request n) d.sizes.request_room d.requests (leb-true _ _ l2.0) (requests-taken n d.sizes.width [] d.requests (ok.each dir_requests) form.requests)) requests_end at rest s4 (λ k5 ws5 s5.
      take-part (listed d.sizes.reply_room (read_copy d.sizes.width (any_item n))) k5 ws5 _ _ (counted item_and_words d.replies) d.replies
      (list-taken item_and_words (read_copy d.sizes.width (any_item n)) d.sizes.reply_room d.replies (leb-true _ _ l3.0) (copies-taken n d.sizes.width [] d.replies (ok.each dir_replies) form.replies)) replies_end at rest s5 (λ k6 ws6 s6.
      take-part (listed d.sizes.parking_room (read_copy d.sizes.width (other_item n))) k6 ws6 _ _ (counted item_and_words d.parked) d.parked
      (list-taken item_and_words (read_copy d.sizes.width (other_item n)) d.sizes.parking_room d.parked (omega (arith, room)) (parked-taken n d.sizes.width [] d.parked (ok.each parked_fit) form.parked (ok.each parked_once))) parked_end at rest s6 (λ k7 ws7 s7.
      take-word (is_to (d.sizes.parking_room - length d.parked)) k7 ws7 _ _ d.reserved (le-leb _ _ (omega (arith, room))) [] at rest s7 (λ k8 ws8 s8. taken-all _ k8 at ws8 rest s8))))))))

  pub dir-taken : (e : DirValue) → d.bus ≡ e.bus → d.level ≡ e.level → d.sizes ≡ e.sizes → Takes (read_dir n kids e) (dir_words d) d
  dir-taken e bus level sizes =
      let same : record e { bus = d.bus; level = d.level; sizes = d.sizes } ≡ e = rw (bus, level, sizes) refl in
      subst (λ e. Takes (read_dir n kids e) (dir_words d) d) same (framed-taken e)
