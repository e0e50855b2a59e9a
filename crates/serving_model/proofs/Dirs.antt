-- A directory of which one item is under way and nothing else: what it keeps of that item, and its lists.
-- Letters: d is a directory, x the item, i what is kept of it, e an entry, n how many items there are.
use Rattle.std.proofs.Common.{◌≡◌, ◌≢◌, ℕ, ◌<◌, Bool, true, false, List, [], length, None, refl, sym, ap, subst, ◌∙◌, arith, get_or-set_same, get_or-set_other}
use Rattle.std.specs.Prelude.{not, ◌&&◌, nat_lt, nat_le, is_none, slice_index_or, slice_set}
use Rattle.std.specs.List.{list_all}
use native.Mathlib.Decide.{ℕ_discrete}
use Rattle.std.proofs.lemmas.Bool.{and_parts, eqb-true}
use Rattle.std.proofs.lemmas.Bool.Decides.{nat_tests}
use Rattle.std.proofs.lemmas.List.{length-set}
use Rattle.serving_model.specs.DdmTypes.declared.sizes.Hold.{Hold}
use Rattle.serving_model.specs.TreeModel.State.Lists.{has_some}
use Rattle.serving_model.specs.TreeModel.State.Values.{RequestValue, CopyValue, DownValue, Note, no_note, local, up_read, up_erase, DirItem, absent_item, DirSizes, DirValue}
use Rattle.serving_model.specs.TreeModel.State.Directory.{dir_hold, dir_note, is_answering, note_why, pending, queue_of}
use Rattle.serving_model.specs.Rest.{item_rests, dir_rests, dir_has_room}
use Rattle.serving_model.proofs.Lists.{empty, pass-at, pass-each}

-- the item is kept so, and nothing is under way for others
pub record ItemsAre (x : ℕ) (h : Hold) (o : Note) (a : Bool) (items : List DirItem) : Type 0 where
  pub known : x < length items
  pub hold : (slice_index_or items x absent_item).hold ≡ h
  pub note : (slice_index_or items x absent_item).note ≡ o
  pub answers : (slice_index_or items x absent_item).answering ≡ a
  pub others : (y : ℕ) → y ≢ x → item_rests (slice_index_or items y absent_item) ≡ true

pub items-set : (x : ℕ) (i : DirItem) (hold : Hold) (note : Note) (answering : Bool) (h : Hold) (o : Note) (a : Bool) (items : List DirItem) → ItemsAre x hold note answering items → i.hold ≡ h → i.note ≡ o → i.answering ≡ a → ItemsAre x h o a (slice_set items x i)
items-set x i hold note answering h o a items are e1 e2 e3 =
    let same : slice_index_or (slice_set items x i) x absent_item ≡ i = get_or-set_same items x i absent_item are.known in
    record {
      known = subst (λ n. x < n) (sym (length-set items x i)) are.known;
      hold = ap (λ (j : DirItem). j.hold) same ∙ e1;
      note = ap (λ (j : DirItem). j.note) same ∙ e2;
      answers = ap (λ (j : DirItem). j.answering) same ∙ e3;
      others = λ y ne. ap item_rests (get_or-set_other items x y i absent_item ne) ∙ are.others y ne;
    }

-- the lists of a directory; nothing is parked
pub record ListsAre (es : List DownValue) (rs : List RequestValue) (cs : List CopyValue) (d : DirValue) : Type 0 where
  pub down : d.down ≡ es
  pub requests : d.requests ≡ rs
  pub replies : d.replies ≡ cs
  pub parked : d.parked ≡ []
  pub places : d.reserved ≡ 0

-- ---- at rest

pub item-rests : (i : DirItem) → item_rests i ≡ true → (i.note ≡ no_note) × (i.answering ≡ false)
item-rests i rests = at i.note i.answering refl refl rests where
  at : (note : Note) (answering : Bool) → i.note ≡ note → i.answering ≡ answering → (is_none (note_why note) && not answering) ≡ true → (i.note ≡ no_note) × (i.answering ≡ false)
  at no_note false e1 e2 h = (e1, e2)
  at no_note true e1 e2 h = cc
  at (local first joined) answering e1 e2 h = cc
  at (up_read first joined) answering e1 e2 h = cc
  at (up_erase c) answering e1 e2 h = cc

pub record DirRests (x : ℕ) (d : DirValue) : Type 0 where
  pub items : ItemsAre x (dir_hold x d) no_note false d.items
  pub lists : ListsAre [] [] [] d

pub dir-rests : (x : ℕ) (d : DirValue) → x < length d.items → dir_rests d ≡ true → DirRests x d
dir-rests x d known rests =
    let a = and_parts (list_all item_rests d.items) _ rests in
    let b = and_parts (not (has_some d.down)) _ a.1 in
    let c = and_parts (not (has_some d.requests)) _ b.1 in
    let e = and_parts (not (has_some d.replies)) _ c.1 in
    let f = and_parts (not (has_some d.parked)) _ e.1 in
    let here = item-rests (slice_index_or d.items x absent_item) (pass-at item_rests absent_item refl d.items a.0 x) in
    record {
      items = record { known = known; hold = refl; note = here.0; answers = here.1; others = λ y ne. pass-at item_rests absent_item refl d.items a.0 y };
      lists = record { down = empty d.down b.0; requests = empty d.requests c.0; replies = empty d.replies e.0; parked = empty d.parked f.0; places = eqb-true d.reserved 0 f.1 };
    }

pub rests-dir : (x : ℕ) (hold : Hold) (d : DirValue) → ItemsAre x hold no_note false d.items → ListsAre [] [] [] d → dir_rests d ≡ true
rests-dir x hold d items lists =
    let all : list_all item_rests d.items ≡ true = pass-each item_rests absent_item d.items (λ k l. at k (ℕ_discrete k x)) in
    rw (all, lists.down, lists.requests, lists.replies, lists.parked, lists.places) refl
  where
    at : (k : ℕ) → Dec (k ≡ x) → item_rests (slice_index_or d.items k absent_item) ≡ true
    at k (yes same) = subst (λ j. item_rests (slice_index_or d.items j absent_item) ≡ true) (sym same) (rw (items.note, items.answers) refl)
    at k (no other) = items.others k other

-- ---- room

pub record HasRoom (sizes : DirSizes) : Type 0 where
  pub down : nat_lt 0 sizes.down_room ≡ true
  pub requests : nat_lt 0 sizes.request_room ≡ true
  pub replies : nat_lt 0 sizes.reply_room ≡ true

pub dir-room : (sizes : DirSizes) → dir_has_room sizes ≡ true → HasRoom sizes
dir-room sizes room =
    let a = and_parts (nat_lt 0 sizes.down_room) _ room in
    let b = and_parts (nat_lt 0 sizes.request_room) _ a.1 in
    record { down = a.0; requests = b.0; replies = b.1 }

-- an empty list with a place isn't full
pub not-full : {X : Type 0} (room : ℕ) (xs : List X) → nat_lt 0 room ≡ true → xs ≡ [] → nat_le room (length xs) ≡ false
not-full room xs some none = ap (λ ys. nat_le room (length ys)) none ∙ some-place room some where
  some-place : (room : ℕ) → nat_lt 0 room ≡ true → nat_le room 0 ≡ false
  some-place room some = grind (arith, nat_tests)

-- what isn't under way isn't pending
pub not-pending : (x : ℕ) (d : DirValue) → dir_note x d ≡ no_note → is_answering x d ≡ false → d.down ≡ [] → pending x d ≡ None
unfolding pending queue_of
not-pending x d note answers down = rw (note, answers, down) refl
