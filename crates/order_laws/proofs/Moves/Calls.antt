-- What a bus tells a child, and what it takes from it, as far as the copies of an item are concerned.
-- Letters: x is the item, y another one, s the stamp of the bus, n the child.
use Rattle.std.proofs.Common.{◌≡◌, ◌≢◌, ℕ, ◌<◌, Bool, true, false, List, [], ◌∷◌, ◌++◌, map, refl, sym, ap, subst, ◌∙◌, inl, inr}
use Rattle.std.specs.Prelude.{not, filter, if◌then◌else◌}
use Rattle.order_laws.specs.DdmTypes.declared.answers.TxKind.TheVariants.{ReadTx, DataTx, EraseTx, ExclusiveTx, InjectTx}
use Rattle.order_laws.specs.DdmTypes.declared.keys.Stamp.{Stamp}
use Rattle.order_laws.specs.TreeModel.State.Lists.{rest_of}
use Rattle.order_laws.specs.TreeModel.State.States.{is_held}
use Rattle.order_laws.specs.TreeModel.State.Values.{CopyValue, DownValue, LeafValue, DirValue, Node, Nodes, leaf_node, dir_node}
use Rattle.order_laws.specs.TreeModel.State.Leaf.{blank, is_copy, leaf_hold, words_of_item, leaf_lose, leaf_take_data, leaf_take_exclusive, leaf_take_inject}
use Rattle.order_laws.specs.TreeModel.State.Directory.{dir_hold, queue_of, dir_lose, dir_take_data, dir_take_exclusive, dir_answer, dir_take_inject, dir_give_up}
use Rattle.order_laws.specs.TreeModel.State.Child.{child_hold, child_lose, child_take_data, child_take_exclusive, child_answer, child_take_inject, child_give_up, child_request_taken, child_reply_taken}
use Rattle.order_laws.specs.TreeModel.State.Place.{Spot, spot_path}
use Rattle.order_laws.specs.TreeRules.Bus.Own.{IsLeafOk}
use Rattle.order_laws.specs.TreeRules.Order.Copies.{CopyAt, cut, copies_here, first_erase, downs, inner, handed}
use Rattle.order_laws.specs.TreeRules.Order.Moments.{moment_at}
use Rattle.bus_laws.proofs.HartFacts.{entries-from_rules}
use Rattle.bus_laws.proofs.ItemLists.{words-without, words-without_other}
use Rattle.order_laws.specs.Moves.Moved.{In}
use Rattle.order_laws.proofs.Moves.Sources.{Sub, In-either, In-left, In-right}
use Rattle.order_laws.proofs.Moves.Leaves.{held_words, exclusive-words, answered-words, answered-replies, data-words, inject-words, gone-words, lost-other, data-other, exclusive-other, answered-other, inject-other, gone-other, answered-replies_other}
use Rattle.order_laws.proofs.Moves.Inside.{queue-pushed, queue-pushed_other, inside, inner-inside, inside-brought, inside-plain}
use Rattle.order_laws.proofs.Moves.Child.{FewerWords, IsFewer, IsGiven, IsAsked, words-same}

-- ---- lists of words

pub words-none : (us : List (List ℕ)) → FewerWords [] us
words-none us place clock k h = absurd h

pub words-rest : (x : ℕ) (cs : List CopyValue) → FewerWords (words_of_item x (rest_of cs)) (words_of_item x cs)
unfolding words_of_item
words-rest x [] place clock k h = h
words-rest x (c ∷ cs) place clock k h = at (is_copy x c) refl where
  at : (b : Bool) → is_copy x c ≡ b → In k (copies_here place clock (words_of_item x (c ∷ cs)))
  at true is = rw is (inr h)
  at false is = rw is h

inner-same : (x : ℕ) (d e : DirValue) (ns ms : Nodes) → ((c : Spot) → inner x c (dir_node e ms) ≡ inner x c (dir_node d ns)) → (c : Spot) → Sub (inner x c (dir_node e ms)) (inner x c (dir_node d ns))
inner-same x d e ns ms same c k h = subst (λ l. In k l) (same c) h

-- ---- a request or a reply is taken

pub request-fewer : (x : ℕ) (n : Node) → IsFewer x n (child_request_taken n)
request-fewer x (leaf_node v) = (words-same _ _ refl, words-same _ _ refl)
request-fewer x (dir_node d ns) = (inner-same x d _ ns ns (λ c. inner-inside x c d ns _ refl refl), words-same _ _ refl)

pub reply-fewer : (x : ℕ) (n : Node) → IsFewer x n (child_reply_taken n)
reply-fewer x (leaf_node v) = (words-same _ _ refl, words-rest x v.replies)
reply-fewer x (dir_node d ns) = (inner-same x d _ ns ns (λ c. inner-inside x c d ns _ refl refl), words-rest x d.replies)

pub same-fewer : (x : ℕ) (n : Node) → IsFewer x n n
same-fewer x (leaf_node v) = (words-same _ _ refl, words-same _ _ refl)
same-fewer x (dir_node d ns) = (λ c k h. h, words-same _ _ refl)

-- ---- told data, or inject

pub data-given : (x : ℕ) (words : List ℕ) (s : Stamp) (n : Node) → is_held (child_hold x n) ≡ false → is_held (child_hold x (child_take_data x words s n)) ≡ true → IsGiven x words s n (child_take_data x words s n)
unfolding leaf_take_data dir_take_data
data-given x words s (leaf_node v) absent has = (data-words x v words absent has, refl)
data-given x words s (dir_node d ns) absent has =
    let e : DownValue = record { kind = DataTx; item = x; words = words; stamp = s } in
    (λ c. inner-inside x c d ns (dir_take_data x words s d) refl refl ∙ ap (λ q. inside x c d ns q (words_of_item x d.parked)) (queue-pushed x d.down e refl) ∙ inside-brought x c d ns (queue_of x d.down) (words_of_item x d.parked) e refl refl, refl)

pub inject-dir : (x : ℕ) (words : List ℕ) (s : Stamp) (d : DirValue) (ns : Nodes) → IsGiven x words s (dir_node d ns) (child_take_inject x words s (dir_node d ns))
unfolding dir_take_inject
inject-dir x words s d ns =
    let e : DownValue = record { kind = InjectTx; item = x; words = words; stamp = s } in
    (λ c. inner-inside x c d ns (dir_take_inject x words s d) refl refl ∙ ap (λ q. inside x c d ns q (words_of_item x d.parked)) (queue-pushed x d.down e refl) ∙ inside-brought x c d ns (queue_of x d.down) (words_of_item x d.parked) e refl refl, refl)

pub inject-leaf : (k x : ℕ) → x < k → (words : List ℕ) (s : Stamp) (v : LeafValue) → IsLeafOk k v → is_held (leaf_hold x v) ≡ false → is_held (leaf_hold x (leaf_take_inject x words v)) ≡ true → IsGiven x words s (leaf_node v) (child_take_inject x words s (leaf_node v))
unfolding leaf_take_inject
inject-leaf k x within words s v ok absent has = (inject-words x v words absent (subst (λ l. x < l) (sym (entries-from_rules k v ok).count) within) has, refl)

-- ---- told exclusive, or to answer

pub exclusive-fewer : (x : ℕ) (s : Stamp) (n : Node) → IsFewer x n (child_take_exclusive x s n)
unfolding leaf_take_exclusive dir_take_exclusive
exclusive-fewer x s (leaf_node v) = (words-same _ _ (exclusive-words x v), words-same _ _ refl)
exclusive-fewer x s (dir_node d ns) =
    let e : DownValue = record { kind = ExclusiveTx; item = x; words = blank d.sizes.width; stamp = s } in
    (inner-same x d (dir_take_exclusive x s d) ns ns (λ c. inner-inside x c d ns (dir_take_exclusive x s d) refl refl ∙ ap (λ q. inside x c d ns q (words_of_item x d.parked)) (queue-pushed x d.down e refl) ∙ inside-plain x c d ns (queue_of x d.down) (words_of_item x d.parked) e refl refl), words-same _ _ refl)

pub answer-asked : (x : ℕ) (s : Stamp) (n : Node) → IsAsked x n (child_answer x s n)
unfolding dir_answer
answer-asked x s (leaf_node v) = (answered-words x v, answered-replies x v)
answer-asked x s (dir_node d ns) =
    let e : DownValue = record { kind = ReadTx; item = x; words = blank d.sizes.width; stamp = s } in
    (inner-same x d (dir_answer x s d) ns ns (λ c. inner-inside x c d ns (dir_answer x s d) refl refl ∙ ap (λ q. inside x c d ns q (words_of_item x d.parked)) (queue-pushed x d.down e refl) ∙ inside-plain x c d ns (queue_of x d.down) (words_of_item x d.parked) e refl refl), words-same _ _ refl)

-- ---- its copy leaves

pub gone-fewer : (x : ℕ) (n : Node) → IsFewer x n (child_give_up x n)
gone-fewer x (leaf_node v) = (λ place clock k h. absurd (subst (λ ws. In k (copies_here place clock ws)) (gone-words x v) h), words-same _ _ refl)
gone-fewer x (dir_node d ns) = (without, words-same _ _ refl) where
  without : (c : Spot) → Sub (inner x c (dir_node (dir_give_up x d) ns)) (inner x c (dir_node d ns))
  without c k h =
      let now : In k (inside x c d ns (queue_of x d.down) (words_of_item x (filter (λ p. not (is_copy x p)) d.parked))) = subst (λ l. In k l) (inner-inside x c d ns (dir_give_up x d) refl refl) h in
      let none : In k (inside x c d ns (queue_of x d.down) []) = subst (λ ws. In k (inside x c d ns (queue_of x d.down) ws)) (words-without x d.parked) now in
      let erased : CopyAt → CopyAt = cut (first_erase c.above (queue_of x d.down)) in
      let kids : List CopyAt = handed x (spot_path c) (moment_at c.above d.epoch) d 0 ns in
      let parked : List CopyAt = copies_here (spot_path c) (moment_at c.above d.epoch) (words_of_item x d.parked) in
      let down : List CopyAt = downs (spot_path c) c.above (queue_of x d.down) in
      elim (In-either k (map erased (kids ++ [])) down none) as (λ _. In k (map erased (kids ++ parked) ++ down)) [
        | inl i ↦ In-left k (map erased (kids ++ parked)) down (more erased kids parked k i)
        | inr i ↦ In-right k (map erased (kids ++ parked)) down i
      ] where
        more : (f : CopyAt → CopyAt) (xs ys : List CopyAt) (k : CopyAt) → In k (map f (xs ++ [])) → In k (map f (xs ++ ys))
        more f [] ys k i = absurd i
        more f (z ∷ xs) ys k (inl e) = inl e
        more f (z ∷ xs) ys k (inr i) = inr (more f xs ys k i)

-- ---- of another item nothing changes

module _ (x y : ℕ) (ne : y ≢ x) where
  -- a directory with one entry more in its down list
  dir-other : (d e : DirValue) (ns : Nodes) → ((c : Spot) → inner y c (dir_node e ns) ≡ inside y c d ns (queue_of y e.down) (words_of_item y e.parked)) → queue_of y e.down ≡ queue_of y d.down → words_of_item y e.parked ≡ words_of_item y d.parked → e.replies ≡ d.replies → IsFewer y (dir_node d ns) (dir_node e ns)
  dir-other d e ns is queue parked replies =
      (inner-same y d e ns ns (λ c. is c ∙ (ap (λ q. inside y c d ns q (words_of_item y e.parked)) queue ∙ ap (λ ws. inside y c d ns (queue_of y d.down) ws) parked)), words-same _ _ (ap (words_of_item y) replies))

  pub lose-other : (s : Stamp) (n : Node) → IsFewer y n (child_lose x s n)
  unfolding leaf_lose dir_lose
  lose-other s (leaf_node v) = (words-same _ _ (ap held_words (lost-other x v y ne)), words-same _ _ refl)
  lose-other s (dir_node d ns) = dir-other d (dir_lose x s d) ns (λ c. inner-inside y c d ns (dir_lose x s d) refl refl) (at (is_held (dir_hold x d))) refl refl where
    at : (b : Bool) → queue_of y (if◌then◌else◌ b (d.down ++ record { kind = EraseTx; item = x; words = blank d.sizes.width; stamp = s } ∷ []) d.down) ≡ queue_of y d.down
    at true = queue-pushed_other y d.down _ ne
    at false = refl

  pub data-other_item : (words : List ℕ) (s : Stamp) (n : Node) → IsFewer y n (child_take_data x words s n)
  unfolding leaf_take_data dir_take_data
  data-other_item words s (leaf_node v) = (words-same _ _ (ap held_words (data-other x v y ne words)), words-same _ _ refl)
  data-other_item words s (dir_node d ns) = dir-other d (dir_take_data x words s d) ns (λ c. inner-inside y c d ns (dir_take_data x words s d) refl refl) (queue-pushed_other y d.down _ ne) refl refl

  pub inject-other_item : (words : List ℕ) (s : Stamp) (n : Node) → IsFewer y n (child_take_inject x words s n)
  unfolding leaf_take_inject dir_take_inject
  inject-other_item words s (leaf_node v) = (words-same _ _ (ap held_words (inject-other x v y ne words)), words-same _ _ refl)
  inject-other_item words s (dir_node d ns) = dir-other d (dir_take_inject x words s d) ns (λ c. inner-inside y c d ns (dir_take_inject x words s d) refl refl) (queue-pushed_other y d.down _ ne) refl refl

  pub exclusive-other_item : (s : Stamp) (n : Node) → IsFewer y n (child_take_exclusive x s n)
  unfolding leaf_take_exclusive dir_take_exclusive
  exclusive-other_item s (leaf_node v) = (words-same _ _ (ap held_words (exclusive-other x v y ne)), words-same _ _ refl)
  exclusive-other_item s (dir_node d ns) = dir-other d (dir_take_exclusive x s d) ns (λ c. inner-inside y c d ns (dir_take_exclusive x s d) refl refl) (queue-pushed_other y d.down _ ne) refl refl

  pub answer-other_item : (s : Stamp) (n : Node) → IsFewer y n (child_answer x s n)
  unfolding dir_answer
  answer-other_item s (leaf_node v) = (words-same _ _ (ap held_words (answered-other x v y ne)), words-same _ _ (answered-replies_other x v y ne))
  answer-other_item s (dir_node d ns) = dir-other d (dir_answer x s d) ns (λ c. inner-inside y c d ns (dir_answer x s d) refl refl) (queue-pushed_other y d.down _ ne) refl refl

  pub give_up-other : (n : Node) → IsFewer y n (child_give_up x n)
  give_up-other (leaf_node v) = (words-same _ _ (ap held_words (gone-other x v y ne)), words-same _ _ refl)
  give_up-other (dir_node d ns) = dir-other d (dir_give_up x d) ns (λ c. inner-inside y c d ns (dir_give_up x d) refl refl) refl (words-without_other x y d.parked ne) refl
