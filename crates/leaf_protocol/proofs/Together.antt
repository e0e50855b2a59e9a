-- Whether entries can be together, as one more comes.
-- Letters: n is how many items there are, ss are entries in ways and bs entries in the buffer, s and b one of them.
use Rattle.std.proofs.Common.{◌≡◌, ℕ, zero, suc, ◌+◌, ◌%◌, ◌<◌, Bool, true, false, cond, not, ◌&&◌, ◌||◌, nat_eq, nat_le, List, [], ◌∷◌, ◌++◌, map, length, get_or, set, Option, Some, None, refl, sym, ap, ap₂, subst, ◌∙◌, ◌⊎◌, inl, inr, arith, append_assoc, length-set}
use Rattle.std.specs.Prelude.{replicate, find, is_some, is_none, option_map}
use Rattle.std.specs.List.{list_any}
use Rattle.std.specs.Bool.{OnTrue}
use Rattle.std.proofs.lemmas.Bool.{eq-eqb, ne_eqb}
use Rattle.std.proofs.lemmas.Bool.Decides.{nat_tests}
use Rattle.std.proofs.lemmas.List.{length-replicate, get_or-replicate, get_or-set_same, get_or-set_other, map-append}
use Rattle.std.proofs.lemmas.List.Folds.{list_any-append}
use Rattle.leaf_protocol.specs.DdmTypes.declared.sizes.LeafState.{LeafState}
use Rattle.leaf_protocol.specs.TreeModel.State.States.{is_waiting}
use Rattle.leaf_protocol.specs.TreeModel.State.Shape.{are_distinct}
use Rattle.leaf_protocol.specs.TreeModel.State.Lists.{find_from, first_some}
use Rattle.leaf_protocol.specs.TreeModel.State.Values.{WayValue, BufferValue}
use Rattle.leaf_protocol.specs.TreeModel.State.Leaf.{entry_at, way_at, way_entry, buffer_entry, buffered, is_buffered, item_in_way, stands_in, waiting_item, way_waits, buffer_waits, buffer_item}
use Rattle.attraction_mem.proofs.Holding.{equal_or_not}
use Rattle.leaf_protocol.specs.StateWords.Parts.{StandingValue}
use Rattle.leaf_protocol.specs.StateReading.Parts.{ways_with, standing_item, item_of_buffer, same_place, places_differ, waiting_states, standing_state, buffer_state}
use Rattle.leaf_protocol.specs.Entries.{EntriesValue}
use Rattle.leaf_protocol.specs.ReadBack.{AreThere, AllInside, are_together, may_come, may_stand}
use Rattle.leaf_protocol.proofs.Ways.{find_from-none}

eq_swapped : (a b : ℕ) → nat_eq a b ≡ nat_eq b a
eq_swapped a b = grind (arith, nat_tests)

not_left : (a b : Bool) → not (a || b) ≡ true → not a ≡ true
not_left true b h = h
not_left false b h = refl

-- ---- the ways with entries

abbrev pub filled : ℕ → List StandingValue → List (Option WayValue)
filled n ss = ways_with ss (replicate n None)

pub length-filled : (n : ℕ) (ss : List StandingValue) → length (filled n ss) ≡ n
length-filled n [] = length-replicate n None
length-filled n (s ∷ ss) = length-set (filled n ss) s.item (Some s.entry) ∙ length-filled n ss

-- an item stands in a way where an entry of it was read
way-filled : (n : ℕ) (ss : List StandingValue) → AllInside n ss → (x : ℕ) → x < n → is_some (way_at x (filled n ss)) ≡ list_any (nat_eq x) (map standing_item ss)
way-filled n [] all x inside = ap is_some (get_or-replicate n x None None inside)
way-filled n (s ∷ ss) all x inside = by (equal_or_not x s.item) (way-filled n ss all.1 x inside)
  where
    by : (x ≡ s.item) ⊎ (x ≡ s.item → ⊥) → is_some (way_at x (filled n ss)) ≡ list_any (nat_eq x) (map standing_item ss) → is_some (get_or (set (filled n ss) s.item (Some s.entry)) x None) ≡ (nat_eq x s.item || list_any (nat_eq x) (map standing_item ss))
    by (inl same) rest =
        let within : s.item < length (filled n ss) = rw (length-filled n ss) all.0 in
        rw (eq-eqb x s.item same, same, get_or-set_same (filled n ss) s.item (Some s.entry) None within) refl
    by (inr other) rest = rw (ne_eqb x s.item other, get_or-set_other (filled n ss) s.item x (Some s.entry) None other) rest

-- a search where one place more is taken
find-set : (t : ℕ → Option WayValue → Bool) (k i j : ℕ) (o : Option WayValue) (ws : List (Option WayValue)) → j ≡ k + i → i < length ws → t j (get_or ws i None) ≡ false
    → is_some (find_from t k (set ws i o)) ≡ (t j o || is_some (find_from t k ws))
find-set t k i j o [] is inside free = absurd (omega arith)
find-set t k zero j o (w ∷ ws) is inside free =
    let same : j ≡ k = omega arith in
    let fails : t k w ≡ false = subst (λ m. t m w ≡ false) same free in
    rw (same, fails) (elim (t k o) as (λ b. is_some (cond b (Some k) (find_from t (k + 1) ws)) ≡ (b || is_some (find_from t (k + 1) ws))) [ true ↦ refl | false ↦ refl ])
find-set t k (suc i) j o (w ∷ ws) is inside free =
    let rest = find-set t (k + 1) i j o ws (omega arith) (omega arith) free in
    elim (t k w) as (λ b. is_some (cond b (Some k) (find_from t (k + 1) (set ws i o))) ≡ (t j o || is_some (cond b (Some k) (find_from t (k + 1) ws)))) [
      | true ↦ elim (t j o) as (λ b. true ≡ (b || true)) [ true ↦ refl | false ↦ refl ]
      | false ↦ rest
    ]

not_some : (o : Option WayValue) → not (is_some o) ≡ true → o ≡ None
not_some None h = refl
not_some (Some e) h = absurd cc

both_left : (a b : Bool) → (a && b) ≡ true → a ≡ true
both_left true b h = refl
both_left false b h = h

both_right : (a b : Bool) → (a && b) ≡ true → b ≡ true
both_right true b h = h
both_right false b h = absurd cc

-- a search among the ways is one among the entries that were read
module _ (n : ℕ) (t : ℕ → Option WayValue → Bool) (none : (y : ℕ) → t y None ≡ false) where
  pub find-filled : (ss : List StandingValue) → AllInside n ss → are_distinct (map standing_item ss) ≡ true → is_some (find_from t 0 (filled n ss)) ≡ list_any (λ s. t s.item (Some s.entry)) ss
  find-filled [] all once = ap is_some (find_from-none t 0 (replicate n None) None (λ a b same lt. subst (λ o. t b o ≡ false) (sym (get_or-replicate n a None None (subst (λ l. a < l) (length-replicate n None) lt))) (none b)))
  find-filled (s ∷ ss) all once =
      let fresh = both_left (not (list_any (nat_eq s.item) (map standing_item ss))) (are_distinct (map standing_item ss)) once in
      let later = both_right (not (list_any (nat_eq s.item) (map standing_item ss))) (are_distinct (map standing_item ss)) once in
      let gone : way_at s.item (filled n ss) ≡ None = not_some _ (rw (way-filled n ss all.1 s.item all.0) fresh) in
      let within : s.item < length (filled n ss) = rw (length-filled n ss) all.0 in
      find-set t 0 s.item s.item (Some s.entry) (filled n ss) (omega arith) within (subst (λ o. t s.item o ≡ false) (sym gone) (none s.item)) ∙ ap (λ b. t s.item (Some s.entry) || b) (find-filled ss all.1 later)

-- ---- tests in a list

module _ {X : Type 0} where
  any-same : (p q : X → Bool) → ((x : X) → p x ≡ q x) → (xs : List X) → list_any p xs ≡ list_any q xs
  any-same p q same [] = refl
  any-same p q same (x ∷ xs) = ap₂ (λ a b. a || b) (same x) (any-same p q same xs)

  any-map : {Y : Type 0} (p : Y → Bool) (f : X → Y) (xs : List X) → list_any p (map f xs) ≡ list_any (λ x. p (f x)) xs
  any-map p f [] = refl
  any-map p f (x ∷ xs) = ap (λ b. p (f x) || b) (any-map p f xs)

  none-found : {Y : Type 0} (p : X → Bool) (f : X → Y) (xs : List X) → is_none (option_map f (find p xs)) ≡ not (list_any p xs)
  none-found p f [] = refl
  none-found p f (x ∷ xs) =
      elim (p x) as (λ b. is_none (option_map f (cond b (Some x) (find p xs))) ≡ not (b || list_any p xs)) [ true ↦ refl | false ↦ none-found p f xs ]

  none-first : (a b : Option X) → is_none (first_some a b) ≡ (not (is_some a) && is_none b)
  none-first None b = refl
  none-first (Some x) b = refl

  some-mapped : {Y : Type 0} (f : X → Y) (o : Option X) → is_some (option_map f o) ≡ is_some o
  some-mapped f None = refl
  some-mapped f (Some x) = refl

  pub none-mapped : {Y : Type 0} (f : X → Y) (o : Option X) → is_none (option_map f o) ≡ is_none o
  none-mapped f None = refl
  none-mapped f (Some x) = refl

not-both : (a b : Bool) → (not a && not b) ≡ not (a || b)
not-both true b = refl
not-both false b = refl

taken-filled : (n sets : ℕ) (s : StandingValue) (ss : List StandingValue) → AllInside n ss → are_distinct (map standing_item ss) ≡ true → is_some (item_in_way sets s.item s.entry.way (filled n ss)) ≡ list_any (same_place sets s) ss
unfolding item_in_way
taken-filled n sets s ss all once =
    find-filled n (stands_in sets s.item s.entry.way) (λ y. refl) ss all once
    ∙ any-same (λ r. stands_in sets s.item s.entry.way r.item (Some r.entry)) (same_place sets s) (λ r. ap₂ (λ a b. a && b) (eq_swapped (r.item % sets) (s.item % sets)) (eq_swapped r.entry.way s.entry.way)) ss

-- no item stands there
absent-filled : (n x : ℕ) (ss : List StandingValue) (bs : List BufferValue) → AllInside n ss → x < n → is_none (entry_at x (filled n ss) bs) ≡ not (list_any (nat_eq x) (map standing_item ss ++ map item_of_buffer bs))
unfolding entry_at
absent-filled n x ss bs all inside =
    none-first (option_map way_entry (way_at x (filled n ss))) (option_map buffer_entry (buffered x bs))
    ∙ (ap₂ (λ a b. not a && b) (some-mapped way_entry (way_at x (filled n ss)) ∙ way-filled n ss all x inside) (none-found (is_buffered x) buffer_entry bs ∙ sym (ap not (any-map (nat_eq x) item_of_buffer bs)))
    ∙ (not-both (list_any (nat_eq x) (map standing_item ss)) (list_any (nat_eq x) (map item_of_buffer bs)) ∙ sym (ap not (list_any-append (nat_eq x) (map standing_item ss) (map item_of_buffer bs)))))

-- none of these states waits
no-state-waits : (ls : List LeafState) → nat_eq (waiting_states ls) 0 ≡ not (list_any is_waiting ls)
no-state-waits [] = refl
no-state-waits (l ∷ ls) =
    elim (is_waiting l) as (λ b. nat_eq (cond b 1 0 + waiting_states ls) 0 ≡ not (b || list_any is_waiting ls)) [
      | true ↦ one_more (waiting_states ls)
      | false ↦ ap (λ c. nat_eq c 0) (zero_more (waiting_states ls)) ∙ no-state-waits ls
    ]
  where
    one_more : (c : ℕ) → nat_eq (1 + c) 0 ≡ false
    one_more c = grind (arith, nat_tests)

    zero_more : (c : ℕ) → 0 + c ≡ c
    zero_more c = omega arith

waiting-filled : (n : ℕ) (ss : List StandingValue) (bs : List BufferValue) → AllInside n ss → are_distinct (map standing_item ss) ≡ true → is_none (waiting_item (filled n ss) bs) ≡ nat_eq (waiting_states (map standing_state ss ++ map buffer_state bs)) 0
unfolding waiting_item
waiting-filled n ss bs all once =
    none-first (find_from way_waits 0 (filled n ss)) (option_map buffer_item (find buffer_waits bs))
    ∙ (ap₂ (λ a b. not a && b) (find-filled n way_waits (λ y. refl) ss all once ∙ sym (any-map is_waiting standing_state ss)) (none-found buffer_waits buffer_item bs ∙ sym (ap not (any-map is_waiting buffer_state bs)))
    ∙ (not-both (list_any is_waiting (map standing_state ss)) (list_any is_waiting (map buffer_state bs))
    ∙ (sym (ap not (list_any-append is_waiting (map standing_state ss) (map buffer_state bs))) ∙ sym (no-state-waits (map standing_state ss ++ map buffer_state bs)))))

-- ---- one more

at_most_one : (w : Bool) (c : ℕ) → nat_le (cond w 1 0 + c) 1 ≡ (nat_le c 1 && (not w || nat_eq c 0))
at_most_one true c = grind (arith, nat_tests)
at_most_one false c = grind (arith, nat_tests)

and_false : (a : Bool) → (a && false) ≡ false
and_false true = refl
and_false false = refl

and_true : (a : Bool) → (a && true) ≡ a
and_true true = refl
and_true false = refl

way_sorted : (d D p P W v : Bool) → ((d && D) && ((p && P) && (W && v))) ≡ ((D && (P && W)) && (p && (d && v)))
way_sorted true true true true true v = refl
way_sorted true true true true false v = refl
way_sorted true true true false W v = refl
way_sorted true true false P W v = sym (and_false (P && W))
way_sorted true false p P W v = refl
way_sorted false D true P W v = sym (and_false (D && (P && W)))
way_sorted false D false P W v = sym (and_false (D && (P && W)))

buffer_sorted : (d D P W v : Bool) → ((D && d) && (P && (W && v))) ≡ ((D && (P && W)) && (d && v))
buffer_sorted true true true true v = refl
buffer_sorted true true true false v = refl
buffer_sorted true true false W v = refl
buffer_sorted d false P W v = refl
buffer_sorted false true P W v = sym (and_false (P && W))

-- an entry in this state, of an item that isn't among these, where none of these waits or it doesn't
abbrev comes : ℕ → LeafState → List StandingValue → List BufferValue → Bool
comes x state ss bs =
    not (list_any (nat_eq x) (map standing_item ss ++ map item_of_buffer bs)) && (not (is_waiting state) || nat_eq (waiting_states (map standing_state ss ++ map buffer_state bs)) 0)

together-standing : (sets : ℕ) (s : StandingValue) (ss : List StandingValue) (bs : List BufferValue) → are_together sets (s ∷ ss) bs ≡ (are_together sets ss bs && (not (list_any (same_place sets s) ss) && comes s.item s.entry.state ss bs))
together-standing sets s ss bs =
    let c = waiting_states (map standing_state ss ++ map buffer_state bs) in
    ap (λ b. (not (list_any (nat_eq s.item) (map standing_item ss ++ map item_of_buffer bs)) && are_distinct (map standing_item ss ++ map item_of_buffer bs)) && ((not (list_any (same_place sets s) ss) && places_differ sets ss) && b)) (at_most_one (is_waiting s.entry.state) c)
    ∙ way_sorted (not (list_any (nat_eq s.item) (map standing_item ss ++ map item_of_buffer bs))) (are_distinct (map standing_item ss ++ map item_of_buffer bs)) (not (list_any (same_place sets s) ss)) (places_differ sets ss) (nat_le c 1) (not (is_waiting s.entry.state) || nat_eq c 0)

distinct-behind : (y : ℕ) (xs : List ℕ) → are_distinct (xs ++ y ∷ []) ≡ (are_distinct xs && not (list_any (nat_eq y) xs))
distinct-behind y [] = refl
distinct-behind y (x ∷ xs) =
    ap₂ (λ a b. not a && b) (list_any-append (nat_eq x) xs (y ∷ []) ∙ ap (λ b. list_any (nat_eq x) xs || b) (or_false (nat_eq x y) ∙ eq_swapped x y)) (distinct-behind y xs)
    ∙ sorted (list_any (nat_eq x) xs) (nat_eq y x) (are_distinct xs) (list_any (nat_eq y) xs)
  where
    or_false : (b : Bool) → (b || false) ≡ b
    or_false true = refl
    or_false false = refl

    sorted : (a e d b : Bool) → (not (a || e) && (d && not b)) ≡ ((not a && d) && not (e || b))
    sorted true e d b = refl
    sorted false true d b = sym (and_false d)
    sorted false false d b = refl

states-behind : (l : LeafState) (ls : List LeafState) → waiting_states (ls ++ l ∷ []) ≡ cond (is_waiting l) 1 0 + waiting_states ls
states-behind l [] = refl
states-behind l (k ∷ ks) = ap (λ c. cond (is_waiting k) 1 0 + c) (states-behind l ks) ∙ swapped (cond (is_waiting k) 1 0) (cond (is_waiting l) 1 0) (waiting_states ks)
  where
    swapped : (a b c : ℕ) → a + (b + c) ≡ b + (a + c)
    swapped a b c = omega arith

together-buffered : (sets : ℕ) (ss : List StandingValue) (bs : List BufferValue) (b : BufferValue) → are_together sets ss (bs ++ b ∷ []) ≡ (are_together sets ss bs && comes b.item b.state ss bs)
together-buffered sets ss bs b =
    let items : map standing_item ss ++ map item_of_buffer (bs ++ b ∷ []) ≡ (map standing_item ss ++ map item_of_buffer bs) ++ b.item ∷ [] =
    ap (λ l. map standing_item ss ++ l) (map-append item_of_buffer bs (b ∷ [])) ∙ sym (append_assoc (map standing_item ss) (map item_of_buffer bs) (b.item ∷ [])) in
    let states : map standing_state ss ++ map buffer_state (bs ++ b ∷ []) ≡ (map standing_state ss ++ map buffer_state bs) ++ b.state ∷ [] =
    ap (λ l. map standing_state ss ++ l) (map-append buffer_state bs (b ∷ [])) ∙ sym (append_assoc (map standing_state ss) (map buffer_state bs) (b.state ∷ [])) in
    let c = waiting_states (map standing_state ss ++ map buffer_state bs) in
    ap₂ (λ d w. d && (places_differ sets ss && nat_le w 1)) (ap are_distinct items ∙ distinct-behind b.item (map standing_item ss ++ map item_of_buffer bs)) (ap waiting_states states ∙ states-behind b.state (map standing_state ss ++ map buffer_state bs))
    ∙ (ap (λ w. (are_distinct (map standing_item ss ++ map item_of_buffer bs) && not (list_any (nat_eq b.item) (map standing_item ss ++ map item_of_buffer bs))) && (places_differ sets ss && w)) (at_most_one (is_waiting b.state) c)
    ∙ buffer_sorted (not (list_any (nat_eq b.item) (map standing_item ss ++ map item_of_buffer bs))) (are_distinct (map standing_item ss ++ map item_of_buffer bs)) (places_differ sets ss) (nat_le c 1) (not (is_waiting b.state) || nat_eq c 0))

distinct-front : (xs ys : List ℕ) → are_distinct (xs ++ ys) ≡ true → are_distinct xs ≡ true
distinct-front [] ys once = refl
distinct-front (x ∷ xs) ys once =
    let fresh = both_left (not (list_any (nat_eq x) (xs ++ ys))) (are_distinct (xs ++ ys)) once in
    let later = both_right (not (list_any (nat_eq x) (xs ++ ys))) (are_distinct (xs ++ ys)) once in
    ap₂ (λ a b. a && b) (not_left (list_any (nat_eq x) xs) (list_any (nat_eq x) ys) (ap not (sym (list_any-append (nat_eq x) xs ys)) ∙ fresh)) (distinct-front xs ys later)

-- ---- the tests of the code are those of the lists

module _ (n : ℕ) (ss : List StandingValue) (bs : List BufferValue) (e : EntriesValue) (all : AllInside n ss) (ways : e.ways ≡ filled n ss) (buffer : e.buffer ≡ bs) (whole : are_together e.sets ss bs ≡ true) where
  once : are_distinct (map standing_item ss) ≡ true
  once = distinct-front (map standing_item ss) (map item_of_buffer bs) (both_left (are_distinct (map standing_item ss ++ map item_of_buffer bs)) _ whole)

  may-come : (x : ℕ) (state : LeafState) → x < n → may_come x state e ≡ comes x state ss bs
  may-come x state inside =
      ap₂ (λ a b. a && (not (is_waiting state) || b)) (ap₂ (λ w b. is_none (entry_at x w b)) ways buffer ∙ absent-filled n x ss bs all inside) (ap₂ (λ w b. is_none (waiting_item w b)) ways buffer ∙ waiting-filled n ss bs all once)

  may-stand : (s : StandingValue) → s.item < n → may_stand s e ≡ (not (list_any (same_place e.sets s) ss) && comes s.item s.entry.state ss bs)
  may-stand s inside =
      ap₂ (λ a b. not a && b) (ap (λ w. is_some (item_in_way e.sets s.item s.entry.way w)) ways ∙ taken-filled n e.sets s ss all once) (may-come s.item s.entry.state inside)

-- one entry more, in a way or in the buffer
module _ {n : ℕ} {ss : List StandingValue} {bs : List BufferValue} {e : EntriesValue} {whole : Bool} (there : AreThere n ss bs e whole) (f : EntriesValue) (sets : f.sets ≡ e.sets) where
  pub one-standing : (s : StandingValue) → s.item < n → (now : Bool) → now ≡ (whole && may_stand s e) → (now ≡ true → f.ways ≡ set e.ways s.item (Some s.entry)) → (now ≡ true → f.buffer ≡ e.buffer) → AreThere n (s ∷ ss) bs f now
  one-standing s inside now is ways buffer = record {
    judged = is ∙ (same whole refl ∙ (sym (together-standing e.sets s ss bs) ∙ ap (λ k. are_together k (s ∷ ss) bs) (sym sets)));
    inside = (inside, there.inside);
    ways = λ h. ways h ∙ ap (λ w. set w s.item (Some s.entry)) (there.ways (before h));
    buffer = λ h. buffer h ∙ there.buffer (before h);
  }
    where
      before : now ≡ true → whole ≡ true
      before h = both_left whole (may_stand s e) (sym is ∙ h)

      same : (b : Bool) → whole ≡ b → (whole && may_stand s e) ≡ (are_together e.sets ss bs && (not (list_any (same_place e.sets s) ss) && comes s.item s.entry.state ss bs))
      same true h =
          let good : are_together e.sets ss bs ≡ true = sym there.judged ∙ h in
          ap₂ (λ a b. a && b) there.judged (may-stand n ss bs e there.inside (there.ways h) (there.buffer h) good s inside)
      same false h =
          let bad : are_together e.sets ss bs ≡ false = sym there.judged ∙ h in
          ap (λ b. b && may_stand s e) h ∙ ap (λ b. b && (not (list_any (same_place e.sets s) ss) && comes s.item s.entry.state ss bs)) (sym bad)

  pub one-buffered : (b : BufferValue) → b.item < n → (now : Bool) → now ≡ (whole && may_come b.item b.state e) → (now ≡ true → f.ways ≡ e.ways) → (now ≡ true → f.buffer ≡ e.buffer ++ b ∷ []) → AreThere n ss (bs ++ b ∷ []) f now
  one-buffered b inside now is ways buffer = record {
    judged = is ∙ (same whole refl ∙ (sym (together-buffered e.sets ss bs b) ∙ ap (λ k. are_together k ss (bs ++ b ∷ [])) (sym sets)));
    inside = there.inside;
    ways = λ h. ways h ∙ there.ways (before h);
    buffer = λ h. buffer h ∙ ap (λ l. l ++ b ∷ []) (there.buffer (before h));
  }
    where
      before : now ≡ true → whole ≡ true
      before h = both_left whole (may_come b.item b.state e) (sym is ∙ h)

      same : (t : Bool) → whole ≡ t → (whole && may_come b.item b.state e) ≡ (are_together e.sets ss bs && comes b.item b.state ss bs)
      same true h =
          let good : are_together e.sets ss bs ≡ true = sym there.judged ∙ h in
          ap₂ (λ a c. a && c) there.judged (may-come n ss bs e there.inside (there.ways h) (there.buffer h) good b.item b.state inside)
      same false h =
          let bad : are_together e.sets ss bs ≡ false = sym there.judged ∙ h in
          ap (λ t. t && may_come b.item b.state e) h ∙ ap (λ t. t && comes b.item b.state ss bs) (sym bad)

-- none yet
pub none-there : (n : ℕ) (e : EntriesValue) → e.ways ≡ replicate n None → e.buffer ≡ [] → AreThere n [] [] e true
none-there n e ways buffer = record { judged = refl; inside = tt; ways = λ h. ways; buffer = λ h. buffer }

pub on-true : (b : Bool) {P : Type 0} → OnTrue b P → b ≡ true → P
on-true true p h = p
on-true false p h = absurd cc
