-- A child of a bus keeps its form whatever the bus tells it or takes from it; and what it replies or gives has the width of an item.
use Rattle.std.proofs.Common.{◌≡◌, ℕ, zero, suc, ◌+◌, ◌<◌, true, false, List, [], ◌∷◌, length, Option, Some, None, refl, sym, subst, arith}
use Rattle.std.specs.Prelude.{IfSome, filter, option_map, unwrap_or}
use Rattle.std.specs.List.{AllByRecursion}
use Rattle.std.proofs.lemmas.Bool.{eq-eqb}
use Rattle.value_laws.specs.DdmTypes.declared.keys.Stamp.{Stamp}
use Rattle.value_laws.specs.TreeModel.State.Lists.{first_of, has_some}
use Rattle.value_laws.specs.TreeModel.State.Values.{CopyValue, BufferValue, LeafValue, DirValue, Node, Nodes, leaf_node, dir_node, no_nodes, more_nodes, nodes, children}
use Rattle.value_laws.specs.TreeModel.State.Leaf.{buffer_item, copy_item, is_buffered, buffered, may_leave_buffer, leaf_leaving, words_of_item}
use Rattle.value_laws.specs.TreeModel.State.Directory.{parked_words, dir_leaving}
use Rattle.value_laws.specs.TreeModel.State.Child.{child_replies, child_reply, child_leaving, child_lose, child_take_data, child_take_exclusive, child_answer, child_take_inject, child_request_taken, child_reply_taken, buffer_words, child_given, child_give_up}
use Rattle.value_laws.specs.TreeModel.Turns.Children.{child_at}
use Rattle.bus_laws.proofs.Lists.{chosen-get}
use Rattle.bus_laws.proofs.ItemLists.{words-got}
use Rattle.bus_laws.proofs.OneChild.{replies-there, leaves-there}
use Rattle.value_laws.specs.Values.{AreWords, BufferHasForm, CopyHasForm, RequestHasForm, StampHasForm, LeafHasForm, DirHasForm, PartsHaveForm, PartsHaveFormAmong}
use Rattle.value_laws.proofs.Lists.{all-rest, all-first, all-filter, all-got, none-found}
use Rattle.value_laws.proofs.LeafForm.{buffered-form, lose-form, take_data-form, take_exclusive-form, answer-form, take_inject-form, give_up-form}
use Rattle.value_laws.proofs.DirForm.{dir-more, parked-form, dir_lose-form, dir_take_data-form, dir_take_exclusive-form, dir_answer-form, dir_take_inject-form, dir_give_up-form}

module _ (width most : ℕ) where
  -- ---- the two forms of a list of nodes

  pub among-children : (ns : Nodes) → PartsHaveFormAmong width most ns → AllByRecursion (PartsHaveForm width most) (children ns)
  among-children no_nodes all = tt
  among-children (more_nodes n ns) all = (all.0, among-children ns all.1)

  pub among-nodes : (ns : List Node) → AllByRecursion (PartsHaveForm width most) ns → PartsHaveFormAmong width most (nodes ns)
  among-nodes [] all = tt
  among-nodes (n ∷ ns) all = (all.0, among-nodes ns all.1)

  -- ---- a higher bound

  leaf-more : (v : LeafValue) → LeafHasForm width most v → LeafHasForm width (most + 1) v
  leaf-more v has = record { number = has.number; sizes = has.sizes; hart = has.hart; done = omega (arith, has.done); ways = has.ways; buffer = has.buffer; slot = has.slot; replies = has.replies }

  mutual
    pub parts-more : (n : Node) → PartsHaveForm width most n → PartsHaveForm width (most + 1) n
    parts-more (leaf_node v) has = leaf-more v has
    parts-more (dir_node d ns) has = (dir-more width most d has.0, among-more ns has.1)

    pub among-more : (ns : Nodes) → PartsHaveFormAmong width most ns → PartsHaveFormAmong width (most + 1) ns
    among-more no_nodes all = tt
    among-more (more_nodes n ns) all = (parts-more n all.0, among-more ns all.1)

  -- ---- what it is told

  pub child_lose-form : (x : ℕ) (s : Stamp) → StampHasForm most s → (n : Node) → PartsHaveForm width most n → PartsHaveForm width most (child_lose x s n)
  child_lose-form x s low (leaf_node v) has = lose-form width most v has x
  child_lose-form x s low (dir_node d ns) has = (dir_lose-form width most x s low d has.0, has.1)

  pub child_take_data-form : (x : ℕ) (words : List ℕ) (s : Stamp) → AreWords width words → StampHasForm most s → (n : Node) → PartsHaveForm width most n → PartsHaveForm width most (child_take_data x words s n)
  child_take_data-form x words s are low (leaf_node v) has = take_data-form width most v has x words are
  child_take_data-form x words s are low (dir_node d ns) has = (dir_take_data-form width most x s low d has.0 words are, has.1)

  pub child_take_exclusive-form : (x : ℕ) (s : Stamp) → StampHasForm most s → (n : Node) → PartsHaveForm width most n → PartsHaveForm width most (child_take_exclusive x s n)
  child_take_exclusive-form x s low (leaf_node v) has = take_exclusive-form width most v has x
  child_take_exclusive-form x s low (dir_node d ns) has = (dir_take_exclusive-form width most x s low d has.0, has.1)

  pub child_answer-form : (x : ℕ) (s : Stamp) → StampHasForm most s → (n : Node) → PartsHaveForm width most n → PartsHaveForm width most (child_answer x s n)
  child_answer-form x s low (leaf_node v) has = answer-form width most v has x
  child_answer-form x s low (dir_node d ns) has = (dir_answer-form width most x s low d has.0, has.1)

  pub child_take_inject-form : (x : ℕ) (words : List ℕ) (s : Stamp) → AreWords width words → StampHasForm most s → (n : Node) → PartsHaveForm width most n → PartsHaveForm width most (child_take_inject x words s n)
  child_take_inject-form x words s are low (leaf_node v) has = take_inject-form width most v has x words are
  child_take_inject-form x words s are low (dir_node d ns) has = (dir_take_inject-form width most x s low d has.0 words are, has.1)

  -- ---- what is taken from it

  pub child_request_taken-form : (n : Node) → PartsHaveForm width most n → PartsHaveForm width most (child_request_taken n)
  child_request_taken-form (leaf_node v) has = record { number = has.number; sizes = has.sizes; hart = has.hart; done = has.done; ways = has.ways; buffer = has.buffer; slot = tt; replies = has.replies }
  child_request_taken-form (dir_node d ns) has = (
    record { sizes = has.0.sizes; count = has.0.count; epoch = has.0.epoch; down = has.0.down; requests = all-rest RequestHasForm d.requests has.0.requests; replies = has.0.replies; parked = has.0.parked },
    has.1,
  )

  pub child_reply_taken-form : (n : Node) → PartsHaveForm width most n → PartsHaveForm width most (child_reply_taken n)
  child_reply_taken-form (leaf_node v) has = record { number = has.number; sizes = has.sizes; hart = has.hart; done = has.done; ways = has.ways; buffer = has.buffer; slot = has.slot; replies = all-rest (CopyHasForm width) v.replies has.replies }
  child_reply_taken-form (dir_node d ns) has = (
    record { sizes = has.0.sizes; count = has.0.count; epoch = has.0.epoch; down = has.0.down; requests = has.0.requests; replies = all-rest (CopyHasForm width) d.replies has.0.replies; parked = has.0.parked },
    has.1,
  )

  pub child_give_up-form : (x : ℕ) (n : Node) → PartsHaveForm width most n → PartsHaveForm width most (child_give_up x n)
  child_give_up-form x (leaf_node v) has = give_up-form width most v has x
  child_give_up-form x (dir_node d ns) has = (dir_give_up-form width most x d has.0, has.1)

  -- ---- the words that it gives

  child-at : (c : ℕ) (ns : List Node) → AllByRecursion (PartsHaveForm width most) ns → c < length ns → PartsHaveForm width most (child_at c ns)
  child-at c [] all inside = absurd (omega arith)
  child-at zero (n ∷ ns) all inside = all.0
  child-at (suc c) (n ∷ ns) all inside = child-at c ns all.1 (omega (arith, inside))

  replies-form : (n : Node) → PartsHaveForm width most n → AllByRecursion (CopyHasForm width) (child_replies n)
  replies-form (leaf_node v) has = has.replies
  replies-form (dir_node d ns) has = has.0.replies

  pub reply-words : (c : ℕ) (ns : List Node) (r : CopyValue) → AllByRecursion (PartsHaveForm width most) ns → child_reply (child_at c ns) ≡ Some r → AreWords width r.words
  reply-words c ns r all is =
      let has = child-at c ns all (replies-there c ns r is) in
      all-first (CopyHasForm width) (child_replies (child_at c ns)) r (replies-form (child_at c ns) has) is

  leaf-given : (choice x : ℕ) (v : LeafValue) → LeafHasForm width most v → leaf_leaving choice v.buffer ≡ Some x → AreWords width (child_given x (leaf_node v))
  unfolding leaf_leaving
  leaf-given choice x v has leaves = by (buffered x v.buffer) refl (buffered-form width x v.buffer has.buffer) where
    by : (o : Option BufferValue) → buffered x v.buffer ≡ o → IfSome o (BufferHasForm width) → AreWords width (unwrap_or (option_map buffer_words o) [])
    by (Some e) is are = are
    by None is are =
        let found = chosen-get buffer_item choice x (filter may_leave_buffer v.buffer) leaves in
        let e : BufferValue = found.0 in
        let all = all-filter (λ (e : BufferValue). is_buffered x e ≡ false) may_leave_buffer v.buffer (none-found (is_buffered x) v.buffer is) in
        let no : is_buffered x e ≡ false = all-got (λ (e : BufferValue). is_buffered x e ≡ false) (filter may_leave_buffer v.buffer) found.1.0 e all found.1.1 in
        let yes : is_buffered x e ≡ true = eq-eqb x e.item (sym found.2) in
        absurd (cc (yes, no))

  dir-given : (choice x : ℕ) (d : DirValue) (ns : Nodes) → DirHasForm width most d → dir_leaving choice d.parked ≡ Some x → AreWords width (child_given x (dir_node d ns))
  unfolding dir_leaving
  dir-given choice x d ns has leaves = by (parked_words x d) refl (parked-form width most x d has) where
    none-there : (wss : List (List ℕ)) → first_of wss ≡ None → has_some wss ≡ false
    none-there [] none = refl
    none-there (ws ∷ wss) none = cc

    by : (o : Option (List ℕ)) → parked_words x d ≡ o → IfSome o (AreWords width) → AreWords width (unwrap_or o [])
    by (Some words) is are = are
    by None is are =
        let found = chosen-get copy_item choice x d.parked leaves in
        let e : CopyValue = found.0 in
        let yes : has_some (words_of_item x d.parked) ≡ true = subst (λ y. has_some (words_of_item y d.parked) ≡ true) found.2 (words-got d.parked found.1.0 e found.1.1) in
        let no = none-there (words_of_item x d.parked) is in
        absurd (cc (yes, no))

  pub given-words : (c choice x : ℕ) (ns : List Node) → AllByRecursion (PartsHaveForm width most) ns → child_leaving choice (child_at c ns) ≡ Some x → AreWords width (child_given x (child_at c ns))
  given-words c choice x ns all leaves = by (child_at c ns) (child-at c ns all (leaves-there choice c x ns leaves)) leaves where
    by : (n : Node) → PartsHaveForm width most n → child_leaving choice n ≡ Some x → AreWords width (child_given x n)
    by (leaf_node v) has leaves = leaf-given choice x v has leaves
    by (dir_node d ms) has leaves = dir-given choice x d ms has.0 leaves
