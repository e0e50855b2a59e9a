-- The ways of states: what a turn leads to is found by its words, and rounds over the ways find the lost states.
-- Letters: m is the machine that is begun with, v what is kept, bs are flags, ws are ways, w is one, ss are schedules by number, ts is one.
use Rattle.std.proofs.Common.{◌≡◌, ℕ, zero, suc, ◌+◌, ◌<◌, ◌≤◌, Bool, true, false, ◌||◌, ◌&&◌, cond, List, [], ◌∷◌, ◌++◌, length, map, take, replicate, refl, sym, ap, subst, ◌∙◌, ◌⊎◌, inl, inr, arith, append_assoc, length-append}
use Rattle.std.specs.Prelude.{not, nat_eq, nat_lt, slice_index_or, Option, Some, None, option_map}
use Rattle.std.specs.List.{list_any, list_all, filter}
use Rattle.std.specs.Cmp.Lexicographic.{pointwise}
use Rattle.std.proofs.lemmas.Bool.{eq-eqb, ne_eqb, or_parts, ltb-true, ltb-false}
use Rattle.std.proofs.lemmas.Cmp.{nat_list_eq_equiv}
use Rattle.std.proofs.lemmas.List.{length-map, length-take-le, length-replicate}
use Rattle.std.proofs.lemmas.List.Folds.{list_all-append}
use Rattle.std.proofs.Math.Bool.{and-true}
use Rattle.std.proofs.Math.Seq.{get_or-append_seam}
use Rattle.ddm_types.specs.declared.turns.Turn.{Turn}
use Rattle.tree_model.specs.State.Values.{MachineValue}
use Rattle.tree_model.specs.Turns.Machine.{turn_of}
use Rattle.outcome_model.specs.Halted.{all_halted}
use Rattle.search_laws.specs.Search.{Kept}
use Rattle.search_laws.specs.Lost.{leads_into, stays_in, left_after, lost}
use Rattle.search_laws.proofs.Lists.{true-or-false}
use Rattle.search_model.specs.Machines.{quiet_space}
use Rattle.search_model.specs.Tried.{tried_turns}
use Rattle.search_store.specs.Known.{place_of}
use Rattle.state_keys.specs.Key.{state_key}
use Rattle.state_keys.specs.Same.{same_state}
use Rattle.explorer.specs.Losing.{picked, places_from, is_left, leads_on, all_left, staying, flags_after, taken_by, kept_at, LeadsTo, IsReached, AreWays}
use Rattle.explorer.specs.Searching.{SearchState, state_by, kept_by, key_by, searched_by, AreOnce, IsKept, KeysTell}
use Rattle.explorer.specs.declared.losing.Way.{Way}
use Rattle.explorer.proofs.Lefts.{AreAt, no_more, one_more, picked-places, picked-staying, all-picked, staying-counted, flags-counted, from-more, other-more}

-- ---- a state is found by its words

pub no-flag : (o : Option ℕ) → is_left [] o ≡ false
no-flag None = refl
no-flag (Some zero) = refl
no-flag (Some (suc i)) = refl

next-flag : (b : Bool) (bs : List Bool) (o : Option ℕ) → is_left (b ∷ bs) (option_map suc o) ≡ is_left bs o
next-flag b bs None = refl
next-flag b bs (Some i) = refl

or_zero : Option ℕ → ℕ
or_zero None = 0
or_zero (Some i) = i

further : (o : Option ℕ) (i n : ℕ) → option_map suc o ≡ Some i → ((j : ℕ) → o ≡ Some j → j < n) → i < suc n
unfolding or_zero
further None i n is within = cc
further (Some j) i n is within = let same : suc j ≡ i = ap or_zero is in omega (arith, same, within j refl)

first : (i n : ℕ) → Some 0 ≡ Some i → i < suc n
unfolding or_zero
first i n is = let same : 0 ≡ i = ap or_zero is in omega (arith, same)

-- a place is within the list
pub place-within : (words : List ℕ) (ks : List (List ℕ)) (i : ℕ) → place_of words ks ≡ Some i → i < length ks
place-within words [] i is = cc
place-within words (k ∷ ks) i is = elim (pointwise nat_eq words k) as (λ b. cond b (Some 0) (option_map suc (place_of words ks)) ≡ Some i → i < suc (length ks)) [
  | true ↦ first i (length ks)
  | false ↦ λ h. further (place_of words ks) i (length ks) h (place-within words ks)
] is

-- a test that none passes
none-picked : {X : Type 0} (p : X → Bool) (bs : List Bool) (xs : List X) → list_any p xs ≡ false → list_any p (picked bs xs) ≡ false
none-picked p [] xs none = refl
none-picked p (b ∷ bs) [] none = refl
none-picked p (true ∷ bs) (x ∷ xs) none = ap (λ c. c || list_any p (picked bs xs)) (or_parts _ _ none).0 ∙ none-picked p bs xs (or_parts _ _ none).1
none-picked p (false ∷ bs) (x ∷ xs) none = none-picked p bs xs (or_parts _ _ none).1

-- and one that none of fewer passes
none-taken : {X : Type 0} (p : X → Bool) (n : ℕ) (xs : List X) → list_any p xs ≡ false → list_any p (take n xs) ≡ false
none-taken p zero xs none = refl
none-taken p (suc n) [] none = refl
none-taken p (suc n) (x ∷ xs) none = ap (λ c. c || list_any p (take n xs)) (or_parts _ _ none).0 ∙ none-taken p n xs (or_parts _ _ none).1

module _ (m : MachineValue) (tell : KeysTell m) (ts : List Turn) where
  abbrev same_as : Kept MachineValue Turn → Bool
  same_as k = same_state (state_by m ts) k.state

  abbrev same_key : List ℕ → Bool
  same_key k = pointwise nat_eq (key_by m ts) k

  same-keys : (ss : List (List Turn)) → list_any same_as (map (kept_by m) ss) ≡ list_any same_key (map (key_by m) ss)
  same-keys [] = refl
  same-keys (us ∷ ss) = ap (λ b. b || list_any same_as (map (kept_by m) ss)) (tell.tell ts us) ∙ ap (λ b. same_key (key_by m us) || b) (same-keys ss)

  -- the words of others are none of these
  other-keys : (k : List ℕ) (ks : List (List ℕ)) → same_key k ≡ true → list_any (pointwise nat_eq k) ks ≡ false → list_any same_key ks ≡ false
  other-keys k [] same none = refl
  other-keys k (h ∷ ks) same none = ap (λ b. b || list_any same_key ks) (nat_list_eq_equiv.congr _ _ h same ∙ (or_parts _ _ none).0) ∙ other-keys k ks same (or_parts _ _ none).1

  found-first : (bs : List Bool) (us : List Turn) (ss : List (List Turn)) (n : ℕ) (b : Bool) → same_key (key_by m us) ≡ true → list_any (pointwise nat_eq (key_by m us)) (map (key_by m) ss) ≡ false
      → list_any same_as (picked (b ∷ bs) (kept_by m us ∷ take n (map (kept_by m) ss))) ≡ b
  found-first bs us ss n true is none = ap (λ c. c || list_any same_as (picked bs (take n (map (kept_by m) ss)))) (tell.tell ts us ∙ is)
  found-first bs us ss n false is none =
      none-picked same_as bs (take n (map (kept_by m) ss)) (none-taken same_as n (map (kept_by m) ss) (same-keys ss ∙ other-keys (key_by m us) (map (key_by m) ss) is none))

  found-later : (bs : List Bool) (us : List Turn) (ss : List (List Turn)) (n : ℕ) (b : Bool) → same_key (key_by m us) ≡ false
      → list_any same_as (picked (b ∷ bs) (kept_by m us ∷ take n (map (kept_by m) ss))) ≡ list_any same_as (picked bs (take n (map (kept_by m) ss)))
  found-later bs us ss n true other = ap (λ c. c || list_any same_as (picked bs (take n (map (kept_by m) ss)))) (tell.tell ts us ∙ other)
  found-later bs us ss n false other = refl

  pub found-left : (ss : List (List Turn)) (n : ℕ) (bs : List Bool) → length bs ≡ n → AreOnce (map (key_by m) ss)
      → list_any same_as (picked bs (take n (map (kept_by m) ss))) ≡ is_left bs (place_of (key_by m ts) (map (key_by m) ss))
  found-left [] zero [] counted once = refl
  found-left [] zero (b ∷ bs) counted once = refl
  found-left [] (suc n) [] counted once = refl
  found-left [] (suc n) (b ∷ bs) counted once = refl
  found-left (us ∷ ss) zero [] counted once = sym (no-flag (place_of (key_by m ts) (map (key_by m) (us ∷ ss))))
  found-left (us ∷ ss) zero (b ∷ bs) counted once = absurd (omega (arith, counted))
  found-left (us ∷ ss) (suc n) [] counted once = absurd (omega (arith, counted))
  found-left (us ∷ ss) (suc n) (b ∷ bs) counted once = elim (same_key (key_by m us)) as (λ c. same_key (key_by m us) ≡ c → list_any same_as (picked (b ∷ bs) (kept_by m us ∷ take n (map (kept_by m) ss))) ≡ is_left (b ∷ bs) (cond c (Some 0) (option_map suc (place_of (key_by m ts) (map (key_by m) ss))))) [
    | true ↦ λ is. found-first bs us ss n b is once.0
    | false ↦ λ other. found-later bs us ss n b other ∙ found-left ss n bs (omega (arith, counted)) once.1 ∙ sym (next-flag b bs (place_of (key_by m ts) (map (key_by m) ss)))
  ] refl

below-or-last : (from i : ℕ) → i < from + 1 → (i < from) ⊎ (i ≡ from)
below-or-last from i below = elim (true-or-false (nat_lt i from)) [
  | inl before ↦ inl (ltb-true i from before)
  | inr after ↦ let past = ltb-false i from after in inr (omega (arith, below, past))
]

-- there are few words
pub keys-few : (m : MachineValue) (v : SearchState) → IsKept m v → length v.keys ≤ 1048576
keys-few m v is = omega (arith, ap length is.keys, length-map v.schedules (key_by m), is.few)

module _ (m : MachineValue) (v : SearchState) where
  abbrev into : List Bool → MachineValue → Bool
  into bs n = leads_into (quiet_space same_state) (picked bs (taken_by m v)) n

  pub led-to-end : (n : MachineValue) → all_halted n ≡ true → LeadsTo m v n None
  led-to-end n ended bs counted = sym (ap (λ b. not b && list_any (λ (k : Kept MachineValue Turn). same_state n k.state) (picked bs (taken_by m v))) ended)

  pub led-to-found : (n : MachineValue) → KeysTell m → IsKept m v → IsReached m v n → all_halted n ≡ false → (o : Option ℕ) → o ≡ place_of (state_key n) v.keys → LeadsTo m v n o
  led-to-found n tell is reached goes o found bs counted =
      ap (is_left bs) (found ∙ ap (λ ks. place_of (state_key n) ks) is.keys ∙ ap (λ (x : MachineValue). place_of (state_key x) (map (key_by m) v.schedules)) reached.is)
      ∙ sym (found-left m tell reached.turns v.schedules v.next bs counted (subst AreOnce is.keys is.once))
      ∙ ap (λ (x : MachineValue). list_any (λ (k : Kept MachineValue Turn). same_state x k.state) (picked bs (taken_by m v))) (sym reached.is)
      ∙ sym (ap (λ b. not b && list_any (λ (k : Kept MachineValue Turn). same_state n k.state) (picked bs (taken_by m v))) goes)

  -- ---- the ways of a state are put behind others

  -- those of these turns are there
  pub record UnderWay (from : ℕ) (at : MachineValue) (done : List Turn) (ws : List Way) : Type 0 where
    pub lead : (bs : List Bool) → length bs ≡ v.next → (i : ℕ) → i < from → all_left ws bs i ≡ stays_in (quiet_space same_state) (picked bs (taken_by m v)) (kept_at m v i)
    pub here : (bs : List Bool) → length bs ≡ v.next → all_left ws bs from ≡ list_all (λ t. into bs (turn_of t at).machine) done
    pub others : (bs : List Bool) (i : ℕ) → from < i → all_left ws bs i ≡ true

  pub way-begun : (from : ℕ) (at : MachineValue) (ws : List Way) → AreWays m v from ws → UnderWay from at [] ws
  way-begun from at ws are = record { lead = are.lead; here = λ bs counted. are.others bs from (omega arith); others = λ i bs further. are.others i bs (omega (arith, further)) }

  pub way-more : (from : ℕ) (at : MachineValue) (done : List Turn) (ws : List Way) (t : Turn) (to : Option ℕ) (w : Way) → w ≡ record { from = from; to = to } → UnderWay from at done ws → LeadsTo m v (turn_of t at).machine to → UnderWay from at (done ++ t ∷ []) (ws ++ w ∷ [])
  way-more from at done ws t to w is under leads = record {
    lead = λ bs counted i before. other-more ws w bs i (ne_eqb w.from i (λ same. omega (arith, before, ap (λ (x : Way). x.from) is, same))) ∙ under.lead bs counted i before;
    here = λ bs counted.
        from-more ws w bs from (eq-eqb w.from from (ap (λ (x : Way). x.from) is))
        ∙ ap (λ b. b && is_left bs w.to) (under.here bs counted)
        ∙ ap (λ b. list_all (λ u. into bs (turn_of u at).machine) done && b) (ap (λ (x : Way). is_left bs x.to) is ∙ leads bs counted ∙ sym (and-true (into bs (turn_of t at).machine)))
        ∙ sym (list_all-append (λ u. into bs (turn_of u at).machine) done (t ∷ []));
    others = λ bs i further. other-more ws w bs i (ne_eqb w.from i (λ same. omega (arith, further, ap (λ (x : Way). x.from) is, same))) ∙ under.others bs i further;
  }

  -- all are
  pub way-done : (from : ℕ) (at : MachineValue) (done : List Turn) (ws : List Way) → done ≡ tried_turns at → at ≡ (kept_at m v from).state → UnderWay from at done ws → AreWays m v (from + 1) ws
  way-done from at done ws all is under = record {
    lead = λ bs counted i below. elim (below-or-last from i below) [
      | inl before ↦ under.lead bs counted i before
      | inr last ↦ subst (λ k. all_left ws bs k ≡ stays_in (quiet_space same_state) (picked bs (taken_by m v)) (kept_at m v k)) (sym last)
          (under.here bs counted ∙ ap (list_all (λ u. into bs (turn_of u at).machine)) all ∙ ap (λ (x : MachineValue). list_all (λ u. into bs (turn_of u x).machine) (tried_turns x)) is)
    ];
    others = λ bs i further. under.others bs i (omega (arith, further));
  }

  pub no-ways : AreWays m v 0 []
  no-ways = record { lead = λ bs counted i before. absurd (omega (arith, before)); others = λ bs i further. refl }

-- ---- rounds over all ways

-- what has the numbers of schedules
module _ (m : MachineValue) where
  seam : (before : List (List Turn)) (us : List Turn) (ss : List (List Turn)) (n : ℕ) → n ≡ length before → kept_by m (slice_index_or (before ++ us ∷ ss) n []) ≡ kept_by m us
  seam before us ss n at = ap (kept_by m) (ap (λ k. slice_index_or (before ++ us ∷ ss) k []) at ∙ get_or-append_seam before us ss [])

  at-schedules : (before ss : List (List Turn)) (n k : ℕ) → n ≡ length before → AreAt (λ i. kept_by m (slice_index_or (before ++ ss) i [])) n (take k (map (kept_by m) ss))
  at-schedules before [] n zero at = no_more n
  at-schedules before [] n (suc k) at = no_more n
  at-schedules before (us ∷ ss) n zero at = no_more n
  at-schedules before (us ∷ ss) n (suc k) at =
      one_more n (kept_by m us) (take k (map (kept_by m) ss)) (seam before us ss n at)
      (subst (λ (l : List (List Turn)). AreAt (λ i. kept_by m (slice_index_or l i [])) (n + 1) (take k (map (kept_by m) ss))) (append_assoc before (us ∷ []) ss)
      (at-schedules (before ++ us ∷ []) ss (n + 1) k (omega (arith, at, length-append before (us ∷ [])))))

module _ (m : MachineValue) (v : SearchState) (is : IsKept m v) (ws : List Way) (are : AreWays m v v.next ws) where
  abbrev all : List (Kept MachineValue Turn)
  all = taken_by m v

  at-all : AreAt (kept_at m v) 0 all
  at-all = at-schedules m [] v.schedules 0 v.next refl

  pub all-counted : length all ≡ v.next
  all-counted = length-take-le v.next (map (kept_by m) v.schedules) (subst (λ k. v.next ≤ k) (sym (length-map v.schedules (kept_by m))) is.next)

  rounds : (n : ℕ) (bs : List Bool) → length bs ≡ v.next → picked (flags_after n ws bs) all ≡ left_after (quiet_space same_state) n (picked bs all)
  rounds zero bs counted = refl
  rounds (suc n) bs counted =
      rounds n (staying ws bs) (staying-counted ws bs 0 bs ∙ counted)
      ∙ ap (left_after (quiet_space same_state) n) (picked-staying (kept_at m v) (stays_in (quiet_space same_state) (picked bs all)) ws bs 0 bs all at-all (λ i below. are.lead bs counted i (omega (arith, below, all-counted))))

  pub all-lost : map (kept_at m v) (places_from 0 (flags_after v.next ws (replicate v.next true))) ≡ lost (quiet_space same_state) (searched_by m v)
  unfolding lost
  all-lost =
      let counted : length (replicate v.next true) ≡ v.next = length-replicate v.next true in
      picked-places (kept_at m v) 0 (flags_after v.next ws (replicate v.next true)) all at-all (flags-counted ws v.next (replicate v.next true) ∙ counted ∙ sym all-counted)
      ∙ rounds v.next (replicate v.next true) counted
      ∙ ap (left_after (quiet_space same_state) v.next) (all-picked all v.next (sym all-counted))
      ∙ ap (λ n. left_after (quiet_space same_state) n all) (sym all-counted)
