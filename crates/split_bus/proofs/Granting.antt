-- What is granted: where no list that needs a place is full, and as it is answered.
use Rattle.std.proofs.Common.{◌≡◌, ℕ, ◌^◌, ◌<◌, List, length, Option, Some, None, option_map, is_none, refl, ap}
use Rattle.split_bus.specs.DdmTypes.declared.answers.QueueName.{QueueName}
use Rattle.split_bus.specs.DdmTypes.declared.answers.TxKind.{TxKind}
use Rattle.split_bus.specs.DdmTypes.declared.keys.Stamp.{Stamp}
use Rattle.split_bus.specs.TreeModel.State.Values.{RequestValue, DirValue, Node}
use Rattle.split_bus.specs.TreeModel.State.Blank.{no_node}
use Rattle.split_bus.specs.TreeModel.Turns.Bus.{request_by_kind, request_turn}
use Rattle.split_bus.specs.TreeModel.Turns.Children.{child_at}
use Rattle.split_bus.specs.TreeModel.Turns.Grant.{Judged, nothing_there, refused, granted, Grant, unless_full, bus_answer}
use Rattle.item_states.specs.Parts.{node_items, request_pair}
use Rattle.split_bus.specs.Outcomes.{AreSized, IsKept, grants, is_granted}

pub grants_unless_full : (o : Option QueueName) (g : Grant) → grants (unless_full o g) ≡ is_none o
unfolding unless_full
grants_unless_full None g = refl
grants_unless_full (Some list) g = refl

pub granted-answer : (bus : ℕ) (j : Judged) → is_granted (bus_answer bus j) ≡ grants j
granted-answer bus nothing_there = refl
granted-answer bus (refused cause) = refl
granted-answer bus (granted g) = refl

-- a request that was read as a pair
pub asked-turn : (above : Stamp) (p : DirValue) (ns : List Node) (c : ℕ) (o : Option RequestValue) (kind : TxKind) (x : ℕ) → Some (kind, x) ≡ option_map request_pair o → request_turn above p ns c o ≡ request_by_kind above p ns c x kind
asked-turn above p ns c None kind x e = cc
asked-turn above p ns c (Some r) kind x e = by (some-same e) where
  some-same : {Y : Type 0} {y z : Y} → Some y ≡ Some z → y ≡ z
  some-same e = cc

  by : (let q : TxKind × ℕ = (kind, x) in q) ≡ request_pair r → request_turn above p ns c (Some r) ≡ request_by_kind above p ns c x kind
  by same =
      let same_kind : kind ≡ r.kind = ap (λ (q : TxKind × ℕ). q.0) same in
      let same_item : x ≡ r.item = ap (λ (q : TxKind × ℕ). q.1) same in
      rw (same_kind, same_item) refl

-- an item that child c keeps something of
pub kept-named : (width : ℕ) (p : DirValue) (ns : List Node) → width < 2 ^ 32 → AreSized p ns → (c x : ℕ) → c < length ns → x < node_items (child_at c ns) → IsKept width x p ns
kept-named width p ns words_fit sized c x within named =
    let in_range : x < length p.items = rw (sized c no_node within) at named in
    record { words_fit = words_fit; in_range = in_range; have = λ k d l. rw (sized k d l) in_range }
