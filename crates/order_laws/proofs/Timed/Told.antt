-- What a turn of a bus does to a child's lists and counts: nothing, or one more entry of its down list with the bus's stamp.
use Rattle.std.proofs.Common.{◌≡◌, ℕ, ◌+◌, Bool, true, false, ◌⊎◌, inl, inr, List, [], ◌∷◌, ◌++◌, refl}
use Rattle.std.specs.Prelude.{nat_eq, if◌then◌else◌}
use Rattle.order_laws.specs.DdmTypes.declared.answers.TxKind.TheVariants.{EraseTx}
use Rattle.order_laws.specs.DdmTypes.declared.keys.Stamp.{Stamp}
use Rattle.order_laws.specs.TreeModel.State.Lists.{map_from}
use Rattle.order_laws.specs.TreeModel.State.States.{is_held}
use Rattle.order_laws.specs.TreeModel.State.Values.{DownValue, DirValue, LeafValue, Note, Node, leaf_node, dir_node}
use Rattle.order_laws.specs.TreeModel.State.Leaf.{blank, leaf_lose, leaf_take_data, leaf_take_exclusive, leaf_answer, leaf_take_inject}
use Rattle.order_laws.specs.TreeModel.State.Directory.{dir_hold, is_reader, dir_lose, dir_take_data, dir_take_exclusive, dir_answer, dir_take_inject}
use Rattle.order_laws.specs.TreeModel.State.Child.{child_lose, child_take_data, child_take_exclusive, child_answer, child_take_inject, child_request_taken, child_reply_taken, child_give_up}
use Rattle.order_laws.specs.TreeModel.Turns.Children.{only, read_from, erased_by, reader_takes, replied_by, passed_on}

-- one more entry at the end, with this stamp
pub record Pushed (s : Stamp) (old new : List DownValue) : Type 0 where
  pub entry : DownValue
  pub is : new ≡ old ++ entry ∷ []
  pub stamp : entry.stamp ≡ s

-- a directory, before and after it was told something at this stamp
pub record DirTold (s : Stamp) (d e : DirValue) : Type 0 where
  pub level : e.level ≡ d.level
  pub count : e.count ≡ d.count
  pub epoch : e.epoch ≡ d.epoch
  pub down : (e.down ≡ d.down) ⊎ Pushed s d.down e.down

pub record LeafTold (v w : LeafValue) : Type 0 where
  pub number : w.number ≡ v.number
  pub done : w.done ≡ v.done

abbrev pub Told : Stamp → Node → Node → Type 0
Told s (leaf_node v) (leaf_node w) = LeafTold v w
Told s (leaf_node v) (dir_node e ms) = ⊥
Told s (dir_node d ns) (leaf_node w) = ⊥
Told s (dir_node d ns) (dir_node e ms) = DirTold s d e × (ms ≡ ns)

abbrev pub AllTold : Stamp → List Node → List Node → Type 0
AllTold s [] [] = Unit {0}
AllTold s [] (k ∷ ks) = ⊥
AllTold s (n ∷ ns) [] = ⊥
AllTold s (n ∷ ns) (k ∷ ks) = Told s n k × AllTold s ns ks

module _ (s : Stamp) where
  leaf_same : (v w : LeafValue) → w.number ≡ v.number → w.done ≡ v.done → LeafTold v w
  leaf_same v w number done = record { number = number; done = done }

  down_same : (d e : DirValue) → e.level ≡ d.level → e.count ≡ d.count → e.epoch ≡ d.epoch → e.down ≡ d.down → DirTold s d e
  down_same d e level count epoch down = record { level = level; count = count; epoch = epoch; down = inl down }

  down_pushed : (d e : DirValue) (x : DownValue) → e.level ≡ d.level → e.count ≡ d.count → e.epoch ≡ d.epoch → e.down ≡ d.down ++ x ∷ [] → x.stamp ≡ s → DirTold s d e
  down_pushed d e x level count epoch down stamp = record { level = level; count = count; epoch = epoch; down = inr (record { entry = x; is = down; stamp = stamp }) }

  pub told-nothing : (n : Node) → Told s n n
  told-nothing (leaf_node v) = leaf_same v v refl refl
  told-nothing (dir_node d ns) = (down_same d d refl refl refl refl, refl)

  pub all-told_nothing : (ns : List Node) → AllTold s ns ns
  all-told_nothing [] = tt
  all-told_nothing (n ∷ ns) = (told-nothing n, all-told_nothing ns)

  pub lose-told : (x : ℕ) (n : Node) → Told s n (child_lose x s n)
  unfolding leaf_lose dir_lose
  lose-told x (leaf_node v) = leaf_same v _ refl refl
  lose-told x (dir_node d ns) = (go (is_held (dir_hold x d)) refl, refl) where
    go : (t : Bool) → is_held (dir_hold x d) ≡ t → DirTold s d (dir_lose x s d)
    go true e = down_pushed d _ (record { kind = EraseTx; item = x; words = blank d.sizes.width; stamp = s }) refl refl refl (rw e refl) refl
    go false e = down_same d _ refl refl refl (rw e refl)

  pub data-told : (x : ℕ) (words : List ℕ) (n : Node) → Told s n (child_take_data x words s n)
  unfolding leaf_take_data dir_take_data
  data-told x words (leaf_node v) = leaf_same v _ refl refl
  data-told x words (dir_node d ns) = (down_pushed d _ _ refl refl refl refl refl, refl)

  pub exclusive-told : (x : ℕ) (n : Node) → Told s n (child_take_exclusive x s n)
  unfolding leaf_take_exclusive dir_take_exclusive
  exclusive-told x (leaf_node v) = leaf_same v _ refl refl
  exclusive-told x (dir_node d ns) = (down_pushed d _ _ refl refl refl refl refl, refl)

  pub answer-told : (x : ℕ) (n : Node) → Told s n (child_answer x s n)
  unfolding leaf_answer dir_answer
  answer-told x (leaf_node v) = leaf_same v _ refl refl
  answer-told x (dir_node d ns) = (down_pushed d _ _ refl refl refl refl refl, refl)

  pub inject-told : (x : ℕ) (words : List ℕ) (n : Node) → Told s n (child_take_inject x words s n)
  unfolding leaf_take_inject dir_take_inject
  inject-told x words (leaf_node v) = leaf_same v _ refl refl
  inject-told x words (dir_node d ns) = (down_pushed d _ _ refl refl refl refl refl, refl)

  pub request-told : (n : Node) → Told s n (child_request_taken n)
  request-told (leaf_node v) = leaf_same v _ refl refl
  request-told (dir_node d ns) = (down_same d _ refl refl refl refl, refl)

  pub reply-told : (n : Node) → Told s n (child_reply_taken n)
  reply-told (leaf_node v) = leaf_same v _ refl refl
  reply-told (dir_node d ns) = (down_same d _ refl refl refl refl, refl)

  pub give-told : (x : ℕ) (n : Node) → Told s n (child_give_up x n)
  give-told x (leaf_node v) = leaf_same v _ refl refl
  give-told x (dir_node d ns) = (down_same d _ refl refl refl refl, refl)

  -- a child whose reply was taken, and that is told data
  reply_and_data-told : (x : ℕ) (words : List ℕ) (n : Node) → Told s n (child_take_data x words s (child_reply_taken n))
  unfolding leaf_take_data dir_take_data
  reply_and_data-told x words (leaf_node v) = leaf_same v _ refl refl
  reply_and_data-told x words (dir_node d ns) = (down_pushed d _ _ refl refl refl refl refl, refl)

  -- ---- by a child's number

  either-told : (b : Bool) (n k l : Node) → Told s n k → Told s n l → Told s n (if b then k else l)
  either-told true n k l h i = h
  either-told false n k l h i = i

  pub only-told : (c : ℕ) (f : Node → Node) → ((n : Node) → Told s n (f n)) → (i : ℕ) (n : Node) → Told s n (only c f i n)
  only-told c f h i n = either-told (nat_eq i c) n (f n) n (h n) (told-nothing n)

  pub read_from-told : (c k x i : ℕ) (n : Node) → Told s n (read_from c k x s i n)
  read_from-told c k x i n = either-told (nat_eq i c) n (child_request_taken n) _ (request-told n) (either-told (nat_eq i k) n (child_answer x s n) n (answer-told x n) (told-nothing n))

  pub erased_by-told : (c x i : ℕ) (n : Node) → Told s n (erased_by c x s i n)
  erased_by-told c x i n = either-told (nat_eq i c) n (child_request_taken n) _ (request-told n) (lose-told x n)

  pub reader_takes-told : (note : Note) (x : ℕ) (words : List ℕ) (i : ℕ) (n : Node) → Told s n (reader_takes note x words s i n)
  reader_takes-told note x words i n = either-told (is_reader note i) n (child_take_data x words s n) n (data-told x words n) (told-nothing n)

  pub replied_by-told : (c : ℕ) (note : Note) (x : ℕ) (words : List ℕ) (i : ℕ) (n : Node) → Told s n (replied_by c note x words s i n)
  replied_by-told c note x words i n = go (nat_eq i c) where
    go : (t : Bool) → Told s n (reader_takes note x words s i (if t then child_reply_taken n else n))
    go true = either-told (is_reader note i) n (child_take_data x words s (child_reply_taken n)) (child_reply_taken n) (reply_and_data-told x words n) (reply-told n)
    go false = reader_takes-told note x words i n

  pub passed_on-told : (c k x : ℕ) (words : List ℕ) (i : ℕ) (n : Node) → Told s n (passed_on c k x words s i n)
  passed_on-told c k x words i n = either-told (nat_eq i c) n (child_give_up x n) _ (give-told x n) (either-told (nat_eq i k) n (child_take_inject x words s n) n (inject-told x words n) (told-nothing n))

  pub each-told : (f : ℕ → Node → Node) → ((i : ℕ) (n : Node) → Told s n (f i n)) → (i : ℕ) (ns : List Node) → AllTold s ns (map_from f i ns)
  each-told f h i [] = tt
  each-told f h i (n ∷ ns) = (h i n, each-told f h (i + 1) ns)
