-- How long the lists of a bus get: of one item at most four entries come down, one is asked for, and a child has one reply.
-- Letters: x is an item, n how many there are, p the parent, ns its children, m one of them.
use Rattle.std.proofs.Common.{◌≡◌, ◌≢◌, ℕ, zero, suc, ◌+◌, ◌*◌, ◌<◌, ◌≤◌, Bool, true, false, List, [], ◌∷◌, length, refl, arith}
use Rattle.std.specs.Prelude.{not, ◌&&◌, ◌||◌, nat_eq, nat_lt, nat_le, filter, if◌then◌else◌}
use Rattle.std.specs.List.{list_all, AllByRecursion}
use Rattle.std.specs.Cmp.Derive.{both_true}
use Rattle.std.proofs.lemmas.Bool.{and_parts, eqb-true, eqb-false, ltb-true, lt-ltb, leb-true, true≢false}
use Rattle.std.proofs.lemmas.List.{length-map}
use Rattle.jam_laws.specs.TreeModel.State.Lists.{names_item}
use Rattle.jam_laws.specs.TreeModel.State.Values.{Note, no_note, local, up_read, up_erase, DirValue, Node, leaf_node, dir_node, children}
use Rattle.jam_laws.specs.TreeModel.State.Leaf.{copy_item, words_of_item, is_copy, copy_words}
use Rattle.jam_laws.specs.TreeModel.State.Directory.{is_local, entry_item, entry_kind, queue_of, queue_kinds, request_item, request_kind, request_kinds}
use Rattle.jam_laws.specs.TreeModel.State.Child.{child_replies}
use Rattle.jam_laws.specs.TreeModel.State.Blank.{no_node}
use Rattle.jam_laws.specs.TreeModel.Turns.Children.{child_at}
use Rattle.jam_laws.specs.TreeRules.Bus.Faces.{ParentFace, ChildFace, parent_face, child_face, faces_of}
use Rattle.jam_laws.specs.TreeRules.Bus.Own.{copy_fits, down_fits, leaf_replies}
use Rattle.jam_laws.specs.TreeRules.Bus.Item.{implies, gives_none, gives_one, one_gives, asked_below, Bits, bits_of, giver}
use Rattle.jam_laws.specs.TreeRules.Bus.Rules.{IsBusOk, IsChildOk}
use Rattle.bus_laws.proofs.States.{each_state, state-at}
use Rattle.bus_laws.proofs.BitsOf.{all-at, gift-at}
use Rattle.bus_laws.proofs.DirParts.{dir-parts}
use Rattle.bus_laws.proofs.RowFrame.{each-kids, all-kids_at}
use Rattle.jam_laws.specs.GoesOn.{HasShortLists}
use Rattle.jam_laws.proofs.Walk.{replies-seen}

-- ---- a list whose elements name n items, with so many at most of each

module _ {X : Type 0} where
  split-length : (t : X → Bool) (xs : List X) → length xs ≡ length (filter t xs) + length (filter (λ e. not (t e)) xs)
  split-length t [] = refl
  split-length t (x ∷ xs) = by (t x) refl (split-length t xs) where
    by : (b : Bool) → t x ≡ b → length xs ≡ length (filter t xs) + length (filter (λ e. not (t e)) xs) → length (x ∷ xs) ≡ length (filter t (x ∷ xs)) + length (filter (λ e. not (t e)) (x ∷ xs))
    by true is rest = rw is (omega (arith, rest))
    by false is rest = rw is (omega (arith, rest))

  twice-length : (t u : X → Bool) (xs : List X) → length (filter t (filter u xs)) ≤ length (filter t xs)
  twice-length t u [] = omega arith
  twice-length t u (x ∷ xs) = by (u x) refl (t x) refl (twice-length t u xs) where
    by : (b : Bool) → u x ≡ b → (c : Bool) → t x ≡ c → length (filter t (filter u xs)) ≤ length (filter t xs) → length (filter t (filter u (x ∷ xs))) ≤ length (filter t (x ∷ xs))
    by true is true one rest = rw is (rw one (omega (arith, rest)))
    by true is false one rest = rw is (rw one rest)
    by false is true one rest = rw (is, one) (omega (arith, rest))
    by false is false one rest = rw (is, one) rest

  all-weaker : (t u : X → Bool) → ((e : X) → t e ≡ true → u e ≡ true) → (xs : List X) → list_all t xs ≡ true → list_all u xs ≡ true
  all-weaker t u f [] h = refl
  all-weaker t u f (x ∷ xs) h =
      let parts = and_parts (t x) (list_all t xs) h in
      both_true (f x parts.0) (all-weaker t u f xs parts.1)

  module _ (item : X → ℕ) where
    below-others : (n : ℕ) (xs : List X) → list_all (λ e. nat_lt (item e) (suc n)) xs ≡ true → list_all (λ e. nat_lt (item e) n) (filter (λ e. not (names_item item n e)) xs) ≡ true
    below-others n [] h = refl
    below-others n (x ∷ xs) h =
        let parts = and_parts (nat_lt (item x) (suc n)) (list_all (λ e. nat_lt (item e) (suc n)) xs) h in
        by (names_item item n x) refl (ltb-true _ _ parts.0) (below-others n xs parts.1) where
          by : (b : Bool) → names_item item n x ≡ b → item x < suc n → list_all (λ e. nat_lt (item e) n) (filter (λ e. not (names_item item n e)) xs) ≡ true → list_all (λ e. nat_lt (item e) n) (filter (λ e. not (names_item item n e)) (x ∷ xs)) ≡ true
          by true is low rest = rw is rest
          by false is low rest =
              let other : n ≢ item x = eqb-false n (item x) is in
              rw is (both_true (lt-ltb (item x) n (omega (arith, low, other))) rest)

    few-of_each : (most : ℕ) (bound : ℕ → ℕ) → ((k : ℕ) → most + bound k ≤ bound (suc k)) → (n : ℕ) (xs : List X) → list_all (λ e. nat_lt (item e) n) xs ≡ true → ((x : ℕ) → x < n → length (filter (names_item item x) xs) ≤ most) → length xs ≤ bound n
    few-of_each most bound step zero [] all few = omega arith
    few-of_each most bound step zero (x ∷ xs) all few =
        let wrong : item x < 0 = ltb-true _ _ (and_parts (nat_lt (item x) 0) (list_all (λ e. nat_lt (item e) 0) xs) all).0 in
        absurd (omega (arith, wrong))
    few-of_each most bound step (suc n) xs all few =
        let others : List X = filter (λ e. not (names_item item n e)) xs in
        let rest : length others ≤ bound n = few-of_each most bound step n others (below-others n xs all) (λ x l.
        let here : length (filter (names_item item x) xs) ≤ most = few x (omega (arith, l)) in
        let twice : length (filter (names_item item x) others) ≤ length (filter (names_item item x) xs) = twice-length (names_item item x) (λ e. not (names_item item n e)) xs in
        omega (arith, here, twice)) in
        let mine : length (filter (names_item item n) xs) ≤ most = few n (omega arith) in
        let split : length xs ≡ length (filter (names_item item n) xs) + length others = split-length (names_item item n) xs in
        let more : most + bound n ≤ bound (suc n) = step n in
        omega (arith, rest, mine, split, more)

-- ---- of one item

abbrev few : ParentFace → Bits → Bool
few p k = nat_le (length p.queue) 4 && nat_le (length p.requests) 1

each-few : (note : Note) → each_state few note ≡ true
unfolding implies
each-few no_note = refl
each-few (local first joined) = refl
each-few (up_read first joined) = refl
each-few (up_erase d) = refl

-- a child that gives nothing or one thing has one reply at most
gives-few : (c : ChildFace) (b : Bool) → gives_none c ≡ b → (b ≡ false → gives_one c ≡ true) → c.replies ≤ 1
gives-few c true none one =
    let zero : c.replies ≡ 0 = eqb-true _ _ (and_parts (not c.answers) (nat_eq c.replies 0) none).1 in
    omega (arith, zero)
gives-few c false some one = by c.answers (one refl) where
  by : (b : Bool) → (if b then nat_eq c.replies 0 else nat_eq c.replies 1) ≡ true → c.replies ≤ 1
  by true h =
      let is : c.replies ≡ 0 = eqb-true _ _ h in
      omega (arith, is)
  by false h =
      let is : c.replies ≡ 1 = eqb-true _ _ h in
      omega (arith, is)

module _ (n : ℕ) (p : DirValue) (ns : List Node) (bus : IsBusOk n p ns) (kids : AllByRecursion (IsChildOk n) ns) where
  few-at : (x : ℕ) → x < n → few (parent_face x p) (bits_of (parent_face x p) (faces_of x ns)) ≡ true
  few-at x within = state-at few each-few (parent_face x p) (faces_of x ns) (bus.rules x within)

  down-few : (x : ℕ) → x < n → length (filter (names_item entry_item x) p.down) ≤ 4
  unfolding queue_of
  down-few x within =
      let four : length (queue_kinds x p.down) ≤ 4 = leb-true _ _ (and_parts (nat_le (length (queue_kinds x p.down)) 4) _ (few-at x within)).0 in
      let same : length (queue_kinds x p.down) ≡ length (filter (names_item entry_item x) p.down) = length-map (filter (names_item entry_item x) p.down) entry_kind in
      omega (arith, four, same)

  requests-few : (x : ℕ) → x < n → length (filter (names_item request_item x) p.requests) ≤ 1
  unfolding request_kinds
  requests-few x within =
      let one : length (request_kinds x p.requests) ≤ 1 = leb-true _ _ (and_parts (nat_le (length (queue_kinds x p.down)) 4) _ (few-at x within)).1 in
      let same : length (request_kinds x p.requests) ≡ length (filter (names_item request_item x) p.requests) = length-map (filter (names_item request_item x) p.requests) request_kind in
      omega (arith, one, same)

  -- each child has one reply of an item at most
  one-reply : (x : ℕ) → x < n → (i : ℕ) → i < length ns → (child_face x (child_at i ns)).replies ≤ 1
  one-reply x within i l = by (is_local (parent_face x p).note || asked_below (parent_face x p)) ((bus.rules x within).each giver) where
    by : (b : Bool) → (if b then one_gives (faces_of x ns) else list_all gives_none (faces_of x ns)) ≡ true → (child_face x (child_at i ns)).replies ≤ 1
    by true one = gives-few (child_face x (child_at i ns)) (gives_none (child_face x (child_at i ns))) refl (λ some. gift-at (child_face x) no_node ns i one l some)
    by false none = gives-few (child_face x (child_at i ns)) true (all-at (child_face x) no_node gives_none ns i none l) (λ wrong. absurd (true≢false wrong))

  replies-few : (i : ℕ) → i < length ns → (x : ℕ) → x < n → length (filter (names_item copy_item x) (child_replies (child_at i ns))) ≤ 1
  unfolding words_of_item
  replies-few i l x within =
      let one : (child_face x (child_at i ns)).replies ≤ 1 = one-reply x within i l in
      let seen : (child_face x (child_at i ns)).replies ≡ length (words_of_item x (child_replies (child_at i ns))) = replies-seen x (child_at i ns) in
      let same : length (words_of_item x (child_replies (child_at i ns))) ≡ length (filter (is_copy x) (child_replies (child_at i ns))) = length-map (filter (is_copy x) (child_replies (child_at i ns))) copy_words in
      omega (arith, one, seen, same)

  replies-known : (m : Node) → IsChildOk n m → list_all (copy_fits n) (child_replies m) ≡ true
  replies-known (leaf_node v) ok = ok.each leaf_replies
  replies-known (dir_node d ms) ok = (dir-parts n (length (children ms)) d ok.own).replies

  pub lists-short : HasShortLists n p ns
  lists-short =
      let parts = dir-parts n (length ns) p bus.own in
      record {
        down = few-of_each entry_item 4 (λ k. 4 * k) (λ k. omega arith) n p.down (all-weaker (down_fits n) (λ e. nat_lt e.item n) (λ e h. (and_parts (nat_lt e.item n) _ h).0) p.down parts.down) down-few;
        requests = few-of_each request_item 1 (λ k. k) (λ k. omega arith) n p.requests parts.requests requests-few;
        replies = each-kids (λ m. length (child_replies m) ≤ n) no_node ns (λ i l. few-of_each copy_item 1 (λ k. k) (λ k. omega arith) n (child_replies (child_at i ns)) (replies-known (child_at i ns) (all-kids_at (IsChildOk n) no_node ns i kids l)) (replies-few i l));
      }
