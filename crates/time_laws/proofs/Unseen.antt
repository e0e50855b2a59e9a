-- A change of children that no bus sees goes with a bus's turn: the children as they are and as they are changed are related
-- children of two buses.
-- Letters: f is the change, n a child, m the child in its place, x an item, s and r are stamps.
use Rattle.std.proofs.Common.{◌≡◌, ℕ, ◌+◌, List, [], ◌∷◌, map, refl, ap, ◌∙◌}
use Rattle.time_laws.specs.DdmTypes.declared.keys.Stamp.{Stamp}
use Rattle.tree_model.specs.declared.BusTurn.{BusTurn}
use Rattle.tree_model.specs.State.Lists.{map_from}
use Rattle.tree_model.specs.State.Values.{DirValue, Node}
use Rattle.tree_model.specs.Turns.Bus.{bus_step}
use Rattle.time_laws.specs.Forget.{forget_dir, forget_node}
use Rattle.time_laws.specs.Blind.{SeenAlike, Unseen, ChangedAlone}
use Rattle.time_laws.proofs.Related.{EachRelated, none_related, first_related, BlindTo}
use Rattle.time_laws.proofs.BlindBus.{bus_step-blind}
use Rattle.time_laws.proofs.ForgetNode.{seen-forgotten, lose-same, take_data-same, take_exclusive-same, answer-same, take_inject-same, request_taken-same, reply_taken-same, give_up-same}

alike-then : (n k m : Node) → SeenAlike n k → SeenAlike k m → SeenAlike n m
alike-then n k m a b = record {
  hold = λ x. a.hold x ∙ b.hold x;
  waits = λ x. a.waits x ∙ b.waits x;
  room = λ x. a.room x ∙ b.room x;
  reader_place = λ x. a.reader_place x ∙ b.reader_place x;
  full = λ kind x. a.full kind x ∙ b.full kind x;
  request = a.request ∙ b.request;
  reply = a.reply ∙ b.reply;
  leaving = λ choice. a.leaving choice ∙ b.leaving choice;
  below = λ x. a.below x ∙ b.below x;
  given = λ x. a.given x ∙ b.given x;
}

module _ (f : ℕ → Node → Node) where
  -- m is the changed child, but for time
  abbrev Changed : ℕ → Node → Node → Type 0
  Changed i n m = forget_node (f i n) ≡ forget_node m

  changed-blind : Unseen f → BlindTo Changed
  changed-blind unseen = record {
    seen = λ i n m r. alike-then n (f i n) m (unseen.seen i n) (seen-forgotten (f i n) m r);
    lose = λ x s r i n m same. unseen.lose x s i n ∙ lose-same x s r (f i n) m same;
    take_data = λ x words s r i n m same. unseen.take_data x words s i n ∙ take_data-same x words s r (f i n) m same;
    take_exclusive = λ x s r i n m same. unseen.take_exclusive x s i n ∙ take_exclusive-same x s r (f i n) m same;
    answer = λ x s r i n m same. unseen.answer x s i n ∙ answer-same x s r (f i n) m same;
    take_inject = λ x words s r i n m same. unseen.take_inject x words s i n ∙ take_inject-same x words s r (f i n) m same;
    request_taken = λ i n m same. unseen.request_taken i n ∙ request_taken-same (f i n) m same;
    reply_taken = λ i n m same. unseen.reply_taken i n ∙ reply_taken-same (f i n) m same;
    give_up = λ x i n m same. unseen.give_up x i n ∙ give_up-same x (f i n) m same;
  }

  each-changed : (i : ℕ) (ns : List Node) → EachRelated Changed i ns (map_from f i ns)
  each-changed i [] = none_related
  each-changed i (n ∷ ns) = first_related refl (each-changed (i + 1) ns)

  changed-each : (i : ℕ) (ns ms : List Node) → EachRelated Changed i ns ms → map forget_node (map_from f i ns) ≡ map forget_node ms
  changed-each i ns ms none_related = refl
  changed-each i ns ms (first_related {n = n} {m = m} {ns = ks} {ms = ls} r rs) = ap (λ k. k ∷ map forget_node (map_from f (i + 1) ks)) r ∙ ap (λ l. forget_node m ∷ l) (changed-each (i + 1) ks ls rs)

  pub bus_step-changed : Unseen f → (above now : Stamp) (t : BusTurn) (p q : DirValue) (ns : List Node) → forget_dir p ≡ forget_dir q → ChangedAlone f (bus_step above t p ns) (bus_step now t q (map_from f 0 ns))
  bus_step-changed unseen above now t p q ns same =
      let turn = bus_step-blind Changed (changed-blind unseen) above now ns (map_from f 0 ns) (each-changed 0 ns) t p q same in
      record { answer = turn.answer; parent = turn.parent; kids = changed-each 0 _ _ turn.kids }
