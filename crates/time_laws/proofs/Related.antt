-- Children of two buses that are related place by place: what searches and maps over them give.
-- Letters: R relates the child n of the one bus to the child m at the same place i of the other.
use Rattle.std.proofs.Common.{◌≡◌, ℕ, zero, suc, ◌+◌, Bool, true, false, List, [], ◌∷◌, Option, Some, refl, ap}
use Rattle.std.specs.Prelude.{nat_eq, if◌then◌else◌}
use Rattle.time_laws.specs.DdmTypes.declared.keys.Stamp.{Stamp}
use Rattle.tree_model.specs.State.Lists.{map_from, find_from, first_given, first_some}
use Rattle.tree_model.specs.State.Values.{Note, Node}
use Rattle.tree_model.specs.State.Directory.{is_reader}
use Rattle.tree_model.specs.State.Child.{child_lose, child_take_data, child_take_exclusive, child_answer, child_take_inject, child_request_taken, child_reply_taken, child_give_up}
use Rattle.tree_model.specs.State.Blank.{no_node}
use Rattle.tree_model.specs.Turns.Children.{child_at, only, read_from, erased_by, reader_takes, replied_by, passed_on}
use Rattle.time_laws.specs.Blind.{SeenAlike}

pub alike-itself : (n : Node) → SeenAlike n n
alike-itself n = record {
  hold = λ x. refl;
  waits = λ x. refl;
  room = λ x. refl;
  reader_place = λ x. refl;
  full = λ kind x. refl;
  request = refl;
  reply = refl;
  leaving = λ choice. refl;
  below = λ x. refl;
  given = λ x. refl;
}

module _ (R : ℕ → Node → Node → Type 0) where
  -- as many children, each related to the one at its place; the first has the number i
  pub data EachRelated : ℕ → List Node → List Node → Type 0 where
    none_related : {i : ℕ} → EachRelated i [] []
    first_related : {i : ℕ} {n m : Node} {ns ms : List Node} → R i n m → EachRelated (i + 1) ns ms → EachRelated i (n ∷ ns) (m ∷ ms)

  -- related children are seen alike, and what a bus tells them, at whatever stamps, or takes from them leaves them related
  pub record BlindTo : Type 1 where
    pub seen : (i : ℕ) (n m : Node) → R i n m → SeenAlike n m
    pub lose : (x : ℕ) (s r : Stamp) (i : ℕ) (n m : Node) → R i n m → R i (child_lose x s n) (child_lose x r m)
    pub take_data : (x : ℕ) (words : List ℕ) (s r : Stamp) (i : ℕ) (n m : Node) → R i n m → R i (child_take_data x words s n) (child_take_data x words r m)
    pub take_exclusive : (x : ℕ) (s r : Stamp) (i : ℕ) (n m : Node) → R i n m → R i (child_take_exclusive x s n) (child_take_exclusive x r m)
    pub answer : (x : ℕ) (s r : Stamp) (i : ℕ) (n m : Node) → R i n m → R i (child_answer x s n) (child_answer x r m)
    pub take_inject : (x : ℕ) (words : List ℕ) (s r : Stamp) (i : ℕ) (n m : Node) → R i n m → R i (child_take_inject x words s n) (child_take_inject x words r m)
    pub request_taken : (i : ℕ) (n m : Node) → R i n m → R i (child_request_taken n) (child_request_taken m)
    pub reply_taken : (i : ℕ) (n m : Node) → R i n m → R i (child_reply_taken n) (child_reply_taken m)
    pub give_up : (x i : ℕ) (n m : Node) → R i n m → R i (child_give_up x n) (child_give_up x m)

  -- ---- searches

  pub find_from-related : (t : ℕ → Node → Bool) → ((i : ℕ) (n m : Node) → R i n m → t i n ≡ t i m) → (i : ℕ) (ns ms : List Node) → EachRelated i ns ms → find_from t i ns ≡ find_from t i ms
  find_from-related t same i ns ms none_related = refl
  find_from-related t same i ns ms (first_related {n = n} {m = m} {ns = ks} {ms = ls} r rs) =
      rw (same i n m r) (ap (λ o. if t i m then Some i else o) (find_from-related t same (i + 1) ks ls rs))

  pub first_given-related : {Y : Type 0} (g : ℕ → Node → Option Y) → ((i : ℕ) (n m : Node) → R i n m → g i n ≡ g i m) → (i : ℕ) (ns ms : List Node) → EachRelated i ns ms → first_given g i ns ≡ first_given g i ms
  first_given-related g same i ns ms none_related = refl
  first_given-related g same i ns ms (first_related {n = n} {m = m} {ns = ks} {ms = ls} r rs) =
      rw (same i n m r) (ap (first_some (g i m)) (first_given-related g same (i + 1) ks ls rs))

  -- ---- maps

  pub map_from-related : (g h : ℕ → Node → Node) → ((i : ℕ) (n m : Node) → R i n m → R i (g i n) (h i m)) → (i : ℕ) (ns ms : List Node) → EachRelated i ns ms → EachRelated i (map_from g i ns) (map_from h i ms)
  map_from-related g h stay i ns ms none_related = none_related
  map_from-related g h stay i ns ms (first_related {n = n} {m = m} {ns = ks} {ms = ls} r rs) = first_related (stay i n m r) (map_from-related g h stay (i + 1) ks ls rs)

  module _ (blind : BlindTo) where
    -- ---- a child by its number

    pub child_at-seen : (c i : ℕ) (ns ms : List Node) → EachRelated i ns ms → SeenAlike (child_at c ns) (child_at c ms)
    child_at-seen c i ns ms none_related = alike-itself no_node
    child_at-seen zero i ns ms (first_related {n = n} {m = m} r rs) = blind.seen i n m r
    child_at-seen (suc c) i ns ms (first_related {ns = ks} {ms = ls} r rs) = child_at-seen c (i + 1) ks ls rs

    -- ---- what each child is told

    either-related : (b : Bool) (i : ℕ) (n m k l : Node) → R i n m → R i k l → R i (if b then n else k) (if b then m else l)
    either-related true i n m k l first second = first
    either-related false i n m k l first second = second

    module _ (i : ℕ) (n m : Node) (r : R i n m) where
      pub only-related : (c : ℕ) (g h : Node → Node) → R i (g n) (h m) → R i (only c g i n) (only c h i m)
      only-related c g h told = either-related (nat_eq i c) i _ _ _ _ told r

      pub read_from-related : (c k x : ℕ) (s u : Stamp) → R i (read_from c k x s i n) (read_from c k x u i m)
      read_from-related c k x s u = either-related (nat_eq i c) i _ _ _ _ (blind.request_taken i n m r) (either-related (nat_eq i k) i _ _ _ _ (blind.answer x s u i n m r) r)

      pub erased_by-related : (c x : ℕ) (s u : Stamp) → R i (erased_by c x s i n) (erased_by c x u i m)
      erased_by-related c x s u = either-related (nat_eq i c) i _ _ _ _ (blind.request_taken i n m r) (blind.lose x s u i n m r)

      pub reader_takes-related : (note : Note) (x : ℕ) (words : List ℕ) (s u : Stamp) → R i (reader_takes note x words s i n) (reader_takes note x words u i m)
      reader_takes-related note x words s u = either-related (is_reader note i) i _ _ _ _ (blind.take_data x words s u i n m r) r

      pub passed_on-related : (c k x : ℕ) (words : List ℕ) (s u : Stamp) → R i (passed_on c k x words s i n) (passed_on c k x words u i m)
      passed_on-related c k x words s u = either-related (nat_eq i c) i _ _ _ _ (blind.give_up x i n m r) (either-related (nat_eq i k) i _ _ _ _ (blind.take_inject x words s u i n m r) r)

    pub replied_by-related : (c : ℕ) (note : Note) (x : ℕ) (words : List ℕ) (s u : Stamp) (i : ℕ) (n m : Node) → R i n m → R i (replied_by c note x words s i n) (replied_by c note x words u i m)
    replied_by-related c note x words s u i n m r =
        reader_takes-related i _ _ (only-related i n m r c child_reply_taken child_reply_taken (blind.reply_taken i n m r)) note x words s u
