-- One state more in a search: it is known, it gets a place, or there is none for it.
-- Letters: m is the machine that is begun with, v what is kept, ss are schedules by number, ts is a schedule.
use Rattle.std.proofs.Common.{◌≡◌, ℕ, zero, suc, ◌<◌, ◌≤◌, Bool, true, false, ◌||◌, cond, List, [], ◌∷◌, ◌++◌, length, map, take, drop, refl, sym, ap, subst, ◌∙◌, arith, length-append}
use Rattle.std.specs.Prelude.{nat_eq, nat_lt, slice_get, Some}
use Rattle.std.specs.List.{list_any}
use Rattle.std.specs.Cmp.Lexicographic.{pointwise}
use Rattle.std.proofs.lemmas.Bool.{lt-ltb, le-ltb, or_parts}
use Rattle.std.proofs.lemmas.Cmp.{nat_list_eq_equiv}
use Rattle.std.proofs.lemmas.List.Folds.{list_any-append}
use Rattle.std.proofs.lemmas.List.{length-map, map-append, take-append-drop, take-append-le, drop-append-le}
use Rattle.std.proofs.lemmas.Option.{get_or_from_slice_get}
use Rattle.ddm_types.specs.declared.turns.Turn.{Turn}
use Rattle.tree_model.specs.State.Values.{MachineValue}
use Rattle.search_laws.specs.Search.{Kept, kept, with_place, with_state}
use Rattle.search_model.specs.Explored.{MachineSearch}
use Rattle.search_model.specs.Machines.{quiet_space}
use Rattle.search_store.specs.Schedule.{gone_on}
use Rattle.state_keys.specs.Key.{state_key}
use Rattle.state_keys.specs.Same.{same_state}
use Rattle.explorer.specs.Searching.{SearchState, state_by, kept_by, key_by, searched_by, AreOnce, IsKept, TakesUp, KeysTell}

-- what is got by its number is there also where more is behind
pub early-got : {X : Type 0} (xs ys : List X) (n : ℕ) (x : X) → slice_get xs n ≡ Some x → slice_get (xs ++ ys) n ≡ Some x
early-got [] ys zero x there = cc
early-got [] ys (suc n) x there = cc
early-got (y ∷ xs) ys zero x there = there
early-got (y ∷ xs) ys (suc n) x there = early-got xs ys n x there

-- words that are new are there once
once-more : (k : List ℕ) (ks : List (List ℕ)) → AreOnce ks → list_any (pointwise nat_eq k) ks ≡ false → AreOnce (ks ++ k ∷ [])
once-more k [] once new = (refl, tt)
once-more k (h ∷ ks) once new = (
  list_any-append (pointwise nat_eq h) ks (k ∷ []) ∙ ap (λ b. b || (pointwise nat_eq h k || false)) once.0
      ∙ ap (λ b. b || false) (nat_list_eq_equiv.symm h k ∙ (or_parts _ _ new).0),
  once-more k ks once.1 ((or_parts _ _ new).1),
)

-- one state more
abbrev pub kept_more : List ℕ → List Turn → SearchState → SearchState
kept_more key ts v = record v { keys = v.keys ++ key ∷ []; schedules = v.schedules ++ ts ∷ [] }

module _ (m : MachineValue) where
  all-kept : (v : SearchState) → kept (searched_by m v) ≡ map (kept_by m) v.schedules
  all-kept v = take-append-drop v.next (map (kept_by m) v.schedules)

  kept-counted : (v : SearchState) → length (kept (searched_by m v)) ≡ length v.schedules
  kept-counted v = ap length (all-kept v) ∙ length-map v.schedules (kept_by m)

  -- one more waits
  more-waits : (key : List ℕ) (ts : List Turn) (v : SearchState) → v.next ≤ length v.schedules
      → record (searched_by m v) { waiting = (searched_by m v).waiting ++ kept_by m ts ∷ [] } ≡ searched_by m (kept_more key ts v)
  more-waits key ts v next =
      let old = map (kept_by m) v.schedules in
      let all : map (kept_by m) (v.schedules ++ ts ∷ []) ≡ old ++ kept_by m ts ∷ [] = map-append (kept_by m) v.schedules (ts ∷ []) in
      let within : v.next ≤ length old = subst (λ n. v.next ≤ n) (sym (length-map v.schedules (kept_by m))) next in
      let taken : take v.next old ≡ take v.next (map (kept_by m) (v.schedules ++ ts ∷ [])) = sym (ap (take v.next) all ∙ take-append-le v.next old (kept_by m ts ∷ []) within) in
      let waiting : drop v.next old ++ kept_by m ts ∷ [] ≡ drop v.next (map (kept_by m) (v.schedules ++ ts ∷ [])) = sym (ap (drop v.next) all ∙ drop-append-le v.next old (kept_by m ts ∷ []) within) in
      ap (λ (l : List (Kept MachineValue Turn)). record (searched_by m v) { taken = l; waiting = drop v.next old ++ kept_by m ts ∷ [] }) taken
      ∙ ap (λ (l : List (Kept MachineValue Turn)). record (searched_by m v) { taken = take v.next (map (kept_by m) (v.schedules ++ ts ∷ [])); waiting = l }) waiting

  module _ (most : ℕ) (tell : KeysTell m) (ts : List Turn) where
    same-known : (ss : List (List Turn)) → list_any (λ (k : Kept MachineValue Turn). same_state (state_by m ts) k.state) (map (kept_by m) ss) ≡ list_any (pointwise nat_eq (key_by m ts)) (map (key_by m) ss)
    same-known [] = refl
    same-known (us ∷ ss) =
        ap (λ b. b || list_any (λ (k : Kept MachineValue Turn). same_state (state_by m ts) k.state) (map (kept_by m) ss)) (tell.tell ts us)
        ∙ ap (λ b. pointwise nat_eq (key_by m ts) (key_by m us) || b) (same-known ss)

    known : (v : SearchState) → IsKept m v → list_any (λ (k : Kept MachineValue Turn). same_state (state_by m ts) k.state) (kept (searched_by m v)) ≡ list_any (pointwise nat_eq (key_by m ts)) v.keys
    known v is = ap (list_any (λ (k : Kept MachineValue Turn). same_state (state_by m ts) k.state)) (all-kept v) ∙ same-known v.schedules ∙ ap (list_any (pointwise nat_eq (key_by m ts))) (sym is.keys)

    abbrev placed : SearchState → MachineSearch
    placed v = with_place (quiet_space same_state) most (kept_by m ts) (searched_by m v)

    pub seen : (v : SearchState) → IsKept m v → list_any (pointwise nat_eq (key_by m ts)) v.keys ≡ true → with_state (quiet_space same_state) most (kept_by m ts) (searched_by m v) ≡ searched_by m v
    seen v is has = ap (λ b. cond b (searched_by m v) (placed v)) (known v is ∙ has)

    pub new-placed : (v : SearchState) → IsKept m v → list_any (pointwise nat_eq (key_by m ts)) v.keys ≡ false → length v.schedules < most
        → with_state (quiet_space same_state) most (kept_by m ts) (searched_by m v) ≡ searched_by m (kept_more (key_by m ts) ts v)
    new-placed v is has place =
        ap (λ b. cond b (searched_by m v) (placed v)) (known v is ∙ has)
        ∙ ap (λ b. cond b (record (searched_by m v) { waiting = (searched_by m v).waiting ++ kept_by m ts ∷ [] }) (record (searched_by m v) { full = true })) (ap (λ n. nat_lt n most) (kept-counted v) ∙ lt-ltb _ _ place)
        ∙ more-waits (key_by m ts) ts v is.next

    pub none-placed : (v : SearchState) → IsKept m v → list_any (pointwise nat_eq (key_by m ts)) v.keys ≡ false → most ≤ length v.schedules
        → with_state (quiet_space same_state) most (kept_by m ts) (searched_by m v) ≡ searched_by m (record v { full = true })
    none-placed v is has none =
        ap (λ b. cond b (searched_by m v) (placed v)) (known v is ∙ has)
        ∙ ap (λ b. cond b (record (searched_by m v) { waiting = (searched_by m v).waiting ++ kept_by m ts ∷ [] }) (record (searched_by m v) { full = true })) (ap (λ n. nat_lt n most) (kept-counted v) ∙ le-ltb _ _ none)

    -- what is kept stays beside its words
    pub more-kept :
        (v : SearchState) → IsKept m v → list_any (pointwise nat_eq (key_by m ts)) v.keys ≡ false
        → length v.schedules < 1048576 → IsKept m (kept_more (key_by m ts) ts v)
    more-kept v is has few = record {
      keys = ap (λ ks. ks ++ key_by m ts ∷ []) is.keys ∙ sym (map-append (key_by m) v.schedules (ts ∷ []));
      once = once-more (key_by m ts) v.keys is.once has;
      next = omega (arith, is.next, length-append v.schedules (ts ∷ []));
      few = omega (arith, few, length-append v.schedules (ts ∷ []));
    }

-- ---- what the code looks up and puts behind

-- whether the words are known
pub held : (m : MachineValue) (ts : List Turn) (v w : SearchState) (words looked : List ℕ) (b : Bool) (reached : MachineValue)
    → words ≡ state_key reached → reached ≡ state_by m ts → looked ≡ words → b ≡ list_any (pointwise nat_eq looked) w.keys → w ≡ v → list_any (pointwise nat_eq (key_by m ts)) v.keys ≡ b
held m ts v w words looked b reached spelled is same has whole =
    sym (has ∙ ap (λ k. list_any (pointwise nat_eq k) w.keys) (same ∙ spelled ∙ ap state_key is) ∙ ap (λ (s : SearchState). list_any (pointwise nat_eq (key_by m ts)) s.keys) whole)

-- the state is one more
pub grown : (m : MachineValue) (before : List Turn) (turn : Turn) (v w : SearchState) (keys : List (List ℕ)) (ss : List (List Turn)) (words : List ℕ)
    → w ≡ v → slice_get v.schedules v.next ≡ Some before → keys ≡ w.keys ++ words ∷ [] → ss ≡ w.schedules ++ gone_on w.schedules w.next turn ∷ [] → words ≡ key_by m (before ++ turn ∷ [])
    → record w { keys = keys; schedules = ss } ≡ kept_more (key_by m (before ++ turn ∷ [])) (before ++ turn ∷ []) v
grown m before turn v w keys ss words whole taken added longer spelled =
    ap (λ k. record w { keys = k; schedules = ss }) (added ∙ ap (λ k. w.keys ++ k ∷ []) spelled)
    ∙ ap (λ l. record w { keys = w.keys ++ key_by m (before ++ turn ∷ []) ∷ []; schedules = l }) longer
    ∙ ap (λ (s : SearchState). record s { keys = s.keys ++ key_by m (before ++ turn ∷ []) ∷ []; schedules = s.schedules ++ gone_on s.schedules s.next turn ∷ [] }) whole
    ∙ ap (λ l. record v { keys = v.keys ++ key_by m (before ++ turn ∷ []) ∷ []; schedules = v.schedules ++ (l ++ turn ∷ []) ∷ [] }) (get_or_from_slice_get v.schedules v.next before [] taken)

pub grown-taking : (m : MachineValue) (most : ℕ) (tell : KeysTell m) (before : List Turn) (turn : Turn) (v : SearchState) → TakesUp m before v → list_any (pointwise nat_eq (key_by m (before ++ turn ∷ []))) v.keys ≡ false → length v.schedules < 1048576 → TakesUp m before (kept_more (key_by m (before ++ turn ∷ [])) (before ++ turn ∷ []) v)
grown-taking m most tell before turn v taking has few = record {
  kept = more-kept m most tell (before ++ turn ∷ []) v taking.kept has few;
  taken = early-got v.schedules ((before ++ turn ∷ []) ∷ []) v.next before taking.taken;
}
