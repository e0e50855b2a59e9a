-- The lists of a leaf stay within their rooms.
use Rattle.std.proofs.Common.{◌≡◌, ℕ, ◌<◌, ◌≤◌, Bool, true, false, List, [], ◌∷◌, length, Option, Some, None, refl, ◌∙◌, arith, length-append}
use Rattle.std.specs.Prelude.{not, nat_eq, is_some, filter, option_map}
use Rattle.std.proofs.lemmas.Bool.{eqb-true, eq-eqb, leb-true, le-leb, leb-false}
use Rattle.std.proofs.lemmas.List.{length-set, length-map}
use Rattle.tree_model.specs.DdmTypes.declared.sizes.LeafState.{LeafState}
use Rattle.tree_model.specs.State.Lists.{rest_of}
use Rattle.tree_model.specs.State.Values.{WayValue, BufferValue, LeafValue}
use Rattle.tree_model.specs.State.Leaf.{Fate, stays, ends, becomes, enters, way_at, is_buffered, way_with, buffer_with, ways_after, buffer_after, with_fate, leaf_entry, LeafEntry, fate_when_lost, fate_with_data, fate_with_exclusive, fate_answering, fate_with_inject, leaf_replies_full, reply_by, reply_of, leaf_lose, leaf_take_data, leaf_take_exclusive, leaf_answer, leaf_take_inject, leaf_give_up}
use Rattle.tree_model.specs.State.States.{state_answered}
use Rattle.tree_model.specs.State.Rooms.{leaf_within}
use Rattle.tree_model.proofs.Tests.{and-first, and-second, and-both}

-- the same as facts
pub record LeafWithin (n : ℕ) (v : LeafValue) : Type 0 where
  pub ways : length v.ways ≡ n
  pub buffer : length v.buffer ≤ v.sizes.buffer_room
  pub replies : length v.replies ≤ v.sizes.reply_room

pub leaf_within-facts : (n : ℕ) (v : LeafValue) → leaf_within n v ≡ true → LeafWithin n v
leaf_within-facts n v e =
    let rest = and-second (nat_eq (length v.ways) n) _ e in
    record { ways = eqb-true _ _ (and-first _ _ e); buffer = leb-true _ _ (and-first _ _ rest); replies = leb-true _ _ (and-second _ _ rest) }

pub leaf_within-test : (n : ℕ) (v : LeafValue) → LeafWithin n v → leaf_within n v ≡ true
leaf_within-test n v w = and-both _ _ (eq-eqb _ _ w.ways) (and-both _ _ (le-leb _ _ w.buffer) (le-leb _ _ w.replies))

-- ---- what becomes of an entry

pub filter-length : {X : Type 0} (t : X → Bool) (xs : List X) → length (filter t xs) ≤ length xs
filter-length t [] = omega arith
filter-length t (x ∷ xs) =
    let rest = filter-length t xs in
    elim (t x) as (λ b. t x ≡ b → length (filter t (x ∷ xs)) ≤ length (x ∷ xs)) [ true ↦ λ e. rw e (omega arith) | false ↦ λ e. rw e (omega arith) ] refl

pub rest_of-length : {X : Type 0} (xs : List X) → length (rest_of xs) ≤ length xs
rest_of-length [] = omega arith
rest_of-length (x ∷ xs) = omega arith

pub ways_after-length : (x : ℕ) (f : Fate) (ways : List (Option WayValue)) → length (ways_after x f ways) ≡ length ways
ways_after-length x stays ways = refl
ways_after-length x ends ways = length-set ways x None
ways_after-length x (becomes state words) ways = length-set ways x (option_map (way_with state words) (way_at x ways))
ways_after-length x (enters way state words) ways = length-set ways x (Some (record { way = way; state = state; words = words }))

pub buffer_after-length : (x : ℕ) (f : Fate) (ways : List (Option WayValue)) (buffer : List BufferValue) → length (buffer_after x f ways buffer) ≤ length buffer
buffer_after-length x stays ways buffer = omega arith
buffer_after-length x ends ways buffer = filter-length (λ e. not (is_buffered x e)) buffer
buffer_after-length x (becomes state words) ways buffer =
    elim (is_some (way_at x ways)) as (λ b. is_some (way_at x ways) ≡ b → length (buffer_after x (becomes state words) ways buffer) ≤ length buffer) [
      | true ↦ λ e. rw e (omega arith)
      | false ↦ λ e. rw e (omega (arith, length-map buffer (buffer_with x state words)))
    ] refl
buffer_after-length x (enters way state words) ways buffer = omega arith

with_fate-within : (n x : ℕ) (f : Fate) (v : LeafValue) → LeafWithin n v → LeafWithin n (with_fate x f v)
with_fate-within n x f v w = record { ways = ways_after-length x f v.ways ∙ w.ways; buffer = omega (arith, buffer_after-length x f v.ways v.buffer, w.buffer); replies = w.replies }

-- ---- what the bus tells it

pub leaf_lose-within : (n x : ℕ) (v : LeafValue) → LeafWithin n v → LeafWithin n (leaf_lose x v)
unfolding leaf_lose
leaf_lose-within n x v w =
    let k = with_fate-within n x (fate_when_lost v.sizes.width (leaf_entry x v)) v w in
    record { ways = k.ways; buffer = k.buffer; replies = k.replies }

pub leaf_take_data-within : (n x : ℕ) (words : List ℕ) (v : LeafValue) → LeafWithin n v → LeafWithin n (leaf_take_data x words v)
unfolding leaf_take_data
leaf_take_data-within n x words v w =
    let k = with_fate-within n x (fate_with_data v.sizes.width words (leaf_entry x v)) v w in
    record { ways = k.ways; buffer = k.buffer; replies = k.replies }

pub leaf_take_exclusive-within : (n x : ℕ) (v : LeafValue) → LeafWithin n v → LeafWithin n (leaf_take_exclusive x v)
unfolding leaf_take_exclusive
leaf_take_exclusive-within n x v w = with_fate-within n x (fate_with_exclusive v.sizes.width (leaf_entry x v)) v w

pub leaf_take_inject-within : (n x : ℕ) (words : List ℕ) (v : LeafValue) → LeafWithin n v → LeafWithin n (leaf_take_inject x words v)
unfolding leaf_take_inject
leaf_take_inject-within n x words v w =
    let k = with_fate-within n x (fate_with_inject v.sizes x words v.ways (leaf_entry x v)) v w in
    record { ways = k.ways; buffer = k.buffer; replies = k.replies }

reply_by-length : (x : ℕ) (words : List ℕ) (o : Option LeafState) → length (reply_by x words o) ≤ 1
reply_by-length x words None = omega arith
reply_by-length x words (Some state) = omega arith

reply_of-length : (x : ℕ) (o : Option LeafEntry) → length (reply_of x o) ≤ 1
reply_of-length x None = omega arith
reply_of-length x (Some e) = reply_by-length x e.words (state_answered e.state)

-- where its replies have a place
pub leaf_answer-within : (n x : ℕ) (v : LeafValue) → leaf_replies_full v ≡ false → LeafWithin n v → LeafWithin n (leaf_answer x v)
unfolding leaf_answer
leaf_answer-within n x v room w =
    let k = with_fate-within n x (fate_answering v.sizes.width (leaf_entry x v)) v w in
    let place : length v.replies < v.sizes.reply_room = leb-false _ _ room in
    record { ways = k.ways; buffer = k.buffer; replies = omega (arith, length-append v.replies (reply_of x (leaf_entry x v)), reply_of-length x (leaf_entry x v)) }

pub leaf_give_up-within : (n x : ℕ) (v : LeafValue) → LeafWithin n v → LeafWithin n (leaf_give_up x v)
leaf_give_up-within n x v w =
    let k = with_fate-within n x ends v w in
    record { ways = k.ways; buffer = k.buffer; replies = k.replies }

pub leaf_reply_taken-within : (n : ℕ) (v : LeafValue) → LeafWithin n v → LeafWithin n (record v { replies = rest_of v.replies })
leaf_reply_taken-within n v w = record { ways = w.ways; buffer = w.buffer; replies = omega (arith, rest_of-length v.replies, w.replies) }
