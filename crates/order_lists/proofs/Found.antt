-- Where a node holds an item, the found copy's words are those of a copy inside it without an end. Of a machine: the found
-- words of an item are those of a copy that has no end, so they are what all operations leave.
use Rattle.std.proofs.Common.{◌≡◌, ℕ, ◌+◌, ◌<◌, Bool, true, false, not, ◌||◌, ◌⊎◌, inl, inr, List, [], ◌∷◌, ◌++◌, map, Option, Some, None, option_map, refl, sym, ap, subst, ◌∙◌}
use Rattle.std.specs.List.{AllByRecursion, list_any}
use Rattle.std.specs.Bool.{beq}
use Rattle.std.proofs.lemmas.Bool.{and_parts, false≢true}
use Rattle.order_lists.specs.DdmTypes.declared.answers.TxKind.{TxKind}
use Rattle.order_lists.specs.DdmTypes.declared.answers.TxKind.TheVariants.{ReadTx, DataTx, EraseTx, ExclusiveTx, InjectTx, OutTx}
use Rattle.order_lists.specs.FlatModel.Flat.{FlatMachine}
use Rattle.order_lists.specs.TreeModel.State.Lists.{first_some, first_of, has_some}
use Rattle.order_lists.specs.TreeModel.State.Kinds.{brings_copy}
use Rattle.order_lists.specs.TreeModel.State.States.{entry_hold, is_held}
use Rattle.order_lists.specs.TreeModel.State.Values.{DownValue, DirValue, LeafValue, Node, Nodes, leaf_node, dir_node, no_nodes, more_nodes, children, MachineValue}
use Rattle.order_lists.specs.TreeModel.State.Shape.{depth_of}
use Rattle.order_lists.specs.TreeModel.State.Leaf.{words_of_item, LeafEntry, entry_state, leaf_entry, leaf_hold}
use Rattle.order_lists.specs.TreeModel.State.Directory.{queue_of, dir_hold}
use Rattle.order_lists.specs.TreeModel.State.Child.{child_holds, child_replies}
use Rattle.order_lists.specs.TreeModel.State.Place.{Spot, spot_path, spot_in}
use Rattle.order_lists.specs.TreeModel.Turns.Found.{words_of_entry, last_words, queue_words, words_found, words_among, found_words}
use Rattle.tree_rules.specs.Bus.Faces.{ChildFace, ParentFace, child_face, parent_face, faces_of}
use Rattle.tree_rules.specs.Bus.Item.{holds_it, copies_in, held_after, bits_of, top_holds, ItemRules, hold_follows}
use Rattle.tree_rules.specs.Bus.Rules.{IsTreeOk, AreTreesOk, IsMachineOk, items_of_machine}
use Rattle.tree_rules.specs.Statements.{Holds}
use Rattle.tree_rules.specs.Order.Moments.{moment_at, spot_moment}
use Rattle.tree_rules.specs.Order.Ops.{words_where}
use Rattle.tree_rules.specs.Order.Copies.{CopyAt, cut, first_erase, downs, copies_here, entry_copies, gathering, inner, handed, copies_of}
use Rattle.tree_rules.specs.Order.Core.{any_op, words_until}
use Rattle.tree_rules.specs.Order.Rules.{copy_rule, words_right}
use Rattle.tree_rules.proofs.Statements.{each-facts}
use Rattle.order_lists.proofs.Moments.{same_numbers-true}
use Rattle.order_lists.proofs.NoHold.{kinds, seen_hold}

-- ---- some element

module _ {X : Type 0} where
  abbrev pub AnyOf : (X → Type 0) → List X → Type 0
  AnyOf P [] = ⊥
  AnyOf P (x ∷ xs) = P x ⊎ AnyOf P xs

  any-left : (P : X → Type 0) (xs ys : List X) → AnyOf P xs → AnyOf P (xs ++ ys)
  any-left P [] ys h = absurd h
  any-left P (x ∷ xs) ys (inl h) = inl h
  any-left P (x ∷ xs) ys (inr h) = inr (any-left P xs ys h)

  any-right : (P : X → Type 0) (xs ys : List X) → AnyOf P ys → AnyOf P (xs ++ ys)
  any-right P [] ys h = h
  any-right P (x ∷ xs) ys h = inr (any-right P xs ys h)

  -- what follows of each, and what one of them is
  pub any-gives : (P Q : X → Type 0) (R : Type 0) → ((x : X) → P x → Q x → R) → (xs : List X) → AllByRecursion P xs → AnyOf Q xs → R
  any-gives P Q R f [] h k = absurd k
  any-gives P Q R f (x ∷ xs) h (inl k) = f x h.0 k
  any-gives P Q R f (x ∷ xs) h (inr k) = any-gives P Q R f xs h.1 k

-- a copy with these words and no end
abbrev pub IsFound : List ℕ → CopyAt → Type 0
IsFound ws k = (k.end ≡ None) × (k.words ≡ ws)

-- the words are there, and those of such a copy
abbrev pub IsFoundIn : Option (List ℕ) → List CopyAt → Type 0
IsFoundIn o ks = (ws : List ℕ) × (o ≡ Some ws) × AnyOf (IsFound ws) ks

-- ---- down lists

some_last : (ws : List ℕ) (o : Option (List ℕ)) → last_words true ws o ≡ None → ⊥
some_last ws None h = let no_way : ⊥ = cc in no_way
some_last ws (Some w) h = let no_way : ⊥ = cc in no_way

-- where none brings a copy, what is held was
was_held : (t : Bool) (q : List DownValue) → queue_words q ≡ None → held_after t (copies_in (kinds q)) ≡ true → t ≡ true
was_held t [] h k = k
was_held t (e ∷ es) h k = go e.kind refl k h (λ u. was_held u es) where
  go : (c : TxKind) → e.kind ≡ c → held_after t (copies_in (c ∷ kinds es)) ≡ true → last_words (brings_copy e.kind) e.words (queue_words es) ≡ None → ((u : Bool) → queue_words es ≡ None → held_after u (copies_in (kinds es)) ≡ true → u ≡ true) → t ≡ true
  go ReadTx i k n rest = rest t (rw i at n) k
  go DataTx i k n rest = absurd (some_last e.words (queue_words es) (rw i at n))
  go EraseTx i k n rest = absurd (false≢true (rest false (rw i at n) k))
  go ExclusiveTx i k n rest = rest t (rw i at n) k
  go InjectTx i k n rest = absurd (some_last e.words (queue_words es) (rw i at n))
  go OutTx i k n rest = rest t (rw i at n) k

no_erase : (above : List ℕ) (t : Bool) (q : List DownValue) → queue_words q ≡ None → held_after t (copies_in (kinds q)) ≡ true → first_erase above q ≡ None
no_erase above t [] h k = refl
no_erase above t (e ∷ es) h k = go e.kind refl k h (λ u. no_erase above u es) where
  go : (c : TxKind) → e.kind ≡ c → held_after t (copies_in (c ∷ kinds es)) ≡ true → last_words (brings_copy e.kind) e.words (queue_words es) ≡ None → ((u : Bool) → queue_words es ≡ None → held_after u (copies_in (kinds es)) ≡ true → first_erase above es ≡ None) → first_erase above (e ∷ es) ≡ None
  go ReadTx i k n rest = rw i (rest t (rw i at n) k)
  go DataTx i k n rest = absurd (some_last e.words (queue_words es) (rw i at n))
  go EraseTx i k n rest = absurd (false≢true (was_held false es (rw i at n) k))
  go ExclusiveTx i k n rest = rw i (rest t (rw i at n) k)
  go InjectTx i k n rest = absurd (some_last e.words (queue_words es) (rw i at n))
  go OutTx i k n rest = rw i (rest t (rw i at n) k)

some_is : (a b : List ℕ) → (let o : Option (List ℕ) = Some a in o ≡ Some b) → a ≡ b
some_is a b e = cc

last_found : (place above : List ℕ) (t : Bool) (q : List DownValue) (ws : List ℕ) → queue_words q ≡ Some ws → held_after t (copies_in (kinds q)) ≡ true → AnyOf (IsFound ws) (downs place above q)
last_found place above t [] ws h k = absurd (let no_way : ⊥ = cc in no_way)
last_found place above t (e ∷ es) ws h k = go e.kind refl k h (λ u. last_found place above u es ws) where
  brought : held_after true (copies_in (kinds es)) ≡ true → (o : Option (List ℕ)) → queue_words es ≡ o → last_words true e.words o ≡ Some ws → (queue_words es ≡ Some ws → AnyOf (IsFound ws) (downs place above es)) → ((first_erase above es ≡ None) × (e.words ≡ ws)) ⊎ AnyOf (IsFound ws) (downs place above es)
  brought k None i h rest = inl (no_erase above true es i k, some_is e.words ws h)
  brought k (Some w) i h rest = inr (rest (i ∙ h))

  go : (c : TxKind) → e.kind ≡ c → held_after t (copies_in (c ∷ kinds es)) ≡ true → last_words (brings_copy e.kind) e.words (queue_words es) ≡ Some ws → ((u : Bool) → queue_words es ≡ Some ws → held_after u (copies_in (kinds es)) ≡ true → AnyOf (IsFound ws) (downs place above es)) → AnyOf (IsFound ws) (downs place above (e ∷ es))
  go ReadTx i k h rest = rw i (rest t (rw i at h) k)
  go DataTx i k h rest = rw i (brought k (queue_words es) refl (rw i at h) (λ l. rest true l k))
  go EraseTx i k h rest = rw i (rest false (rw i at h) k)
  go ExclusiveTx i k h rest = rw i (rest t (rw i at h) k)
  go InjectTx i k h rest = rw i (brought k (queue_words es) refl (rw i at h) (λ l. rest true l k))
  go OutTx i k h rest = rw i (rest t (rw i at h) k)

-- ---- parts of a node

cut_none : (e : Option (List ℕ)) (ws : List ℕ) (ks : List CopyAt) → e ≡ None → AnyOf (IsFound ws) ks → AnyOf (IsFound ws) (map (cut e) ks)
cut_none e ws [] n h = h
cut_none e ws (k ∷ ks) n (inl h) = inl (ap (λ o. first_some o e) h.0 ∙ n, h.1)
cut_none e ws (k ∷ ks) n (inr h) = inr (cut_none e ws ks n h)

entry_found : (place clock : List ℕ) (o : Option LeafEntry) → is_held (entry_hold (option_map entry_state o)) ≡ true → IsFoundIn (option_map words_of_entry o) (entry_copies place clock o)
entry_found place clock None h = absurd (false≢true h)
entry_found place clock (Some e) h = (e.words, refl, rw h (inl (refl, refl)))

leaf_found : (x : ℕ) (c : Spot) (v : LeafValue) → is_held (leaf_hold x v) ≡ true → IsFoundIn (words_found x (leaf_node v)) (inner x c (leaf_node v))
unfolding leaf_hold
leaf_found x c v h = entry_found (spot_path c) (spot_moment c) (leaf_entry x v) h

same_bool : (a b : Bool) → beq a b ≡ true → a ≡ true → b ≡ true
same_bool true true h k = refl
same_bool true false h k = absurd (false≢true h)
same_bool false b h k = absurd (false≢true k)

first_counted : (x : ℕ) (n : Node) (ns : List Node) → list_any holds_it (faces_of x (n ∷ ns)) ≡ true → child_holds x n ≡ false → list_any holds_it (faces_of x ns) ≡ true
first_counted x n ns h k = go (holds_it (child_face x n)) (subst (λ e. is_held e ≡ false) (sym (seen_hold x n)) k) h where
  go : (t : Bool) → t ≡ false → (t || list_any holds_it (faces_of x ns)) ≡ true → list_any holds_it (faces_of x ns) ≡ true
  go true e h = absurd (false≢true (sym e))
  go false e h = h

-- a parked copy, else what the children have, where there is a holder
gathering_found : (x : ℕ) (path bound : List ℕ) (d : DirValue) (ns : Nodes) (handed_up : List CopyAt) → (has_some (words_of_item x d.parked) || list_any holds_it (faces_of x (children ns))) ≡ true → (list_any holds_it (faces_of x (children ns)) ≡ true → IsFoundIn (words_among x ns) handed_up)
    → IsFoundIn (first_some (first_of (words_of_item x d.parked)) (words_among x ns)) (gathering x path bound d handed_up)
gathering_found x path bound d ns handed_up held among = go (words_of_item x d.parked) held where
  go : (ws : List (List ℕ)) → (has_some ws || list_any holds_it (faces_of x (children ns))) ≡ true → IsFoundIn (first_some (first_of ws) (words_among x ns)) (handed_up ++ copies_here path bound ws)
  go [] h = let f : IsFoundIn (words_among x ns) handed_up = among h in (f.0, f.1, any-left (IsFound f.0) handed_up [] f.2)
  go (w ∷ ws) h = (w, refl, any-right (IsFound w) handed_up (copies_here path bound (w ∷ ws)) (inl (refl, refl)))

dir_found : (x : ℕ) (c : Spot) (d : DirValue) (ns : Nodes) → ItemRules (parent_face x d) (faces_of x (children ns)) → is_held (dir_hold x d) ≡ true
    → (list_any holds_it (faces_of x (children ns)) ≡ true → IsFoundIn (words_among x ns) (handed x (spot_path c) (moment_at c.above d.epoch) d 0 ns))
    → IsFoundIn (words_found x (dir_node d ns)) (inner x c (dir_node d ns))
dir_found x c d ns rules h among = by_queue (queue_words (queue_of x d.down)) refl where
  held : Bool
  held = (bits_of (parent_face x d) (faces_of x (children ns))).held

  stays : held_after held (copies_in (kinds (queue_of x d.down))) ≡ true
  stays = same_bool (is_held (dir_hold x d)) _ (rules.each hold_follows) h

  here : List CopyAt
  here = gathering x (spot_path c) (moment_at c.above d.epoch) d (handed x (spot_path c) (moment_at c.above d.epoch) d 0 ns)

  by_queue : (o : Option (List ℕ)) → queue_words (queue_of x d.down) ≡ o → IsFoundIn (words_found x (dir_node d ns)) (inner x c (dir_node d ns))
  by_queue (Some ws) e = (ws, rw e refl, any-right (IsFound ws) (map (cut (first_erase c.above (queue_of x d.down))) here) (downs (spot_path c) c.above (queue_of x d.down)) (last_found (spot_path c) c.above held (queue_of x d.down) ws e stays))
  by_queue None e =
      let f : IsFoundIn (first_some (first_of (words_of_item x d.parked)) (words_among x ns)) here = gathering_found x (spot_path c) (moment_at c.above d.epoch) d ns (handed x (spot_path c) (moment_at c.above d.epoch) d 0 ns) (was_held held (queue_of x d.down) e stays) among in
      (f.0, rw e f.1, any-left (IsFound f.0) (map (cut (first_erase c.above (queue_of x d.down))) here) (downs (spot_path c) c.above (queue_of x d.down)) (cut_none (first_erase c.above (queue_of x d.down)) f.0 here (no_erase c.above held (queue_of x d.down) e stays) f.2))

first_found : (x : ℕ) (path bound : List ℕ) (d : DirValue) (i : ℕ) (n : Node) (ns : Nodes) → list_any holds_it (faces_of x (n ∷ children ns)) ≡ true → (child_holds x n ≡ true → IsFoundIn (words_found x n) (inner x (spot_in path d i) n))
    → (list_any holds_it (faces_of x (children ns)) ≡ true → IsFoundIn (words_among x ns) (handed x path bound d (i + 1) ns))
    → IsFoundIn (words_among x (more_nodes n ns)) (handed x path bound d i (more_nodes n ns))
first_found x path bound d i n ns l here later = go (child_holds x n) refl where
  go : (t : Bool) → child_holds x n ≡ t → IsFoundIn (words_among x (more_nodes n ns)) (handed x path bound d i (more_nodes n ns))
  go true e =
      let f : IsFoundIn (words_found x n) (inner x (spot_in path d i) n) = here e in
      (f.0, rw e f.1, any-left (IsFound f.0) (inner x (spot_in path d i) n ++ copies_here path bound (words_of_item x (child_replies n))) (handed x path bound d (i + 1) ns) (any-left (IsFound f.0) (inner x (spot_in path d i) n) (copies_here path bound (words_of_item x (child_replies n))) f.2))
  go false e =
      let f : IsFoundIn (words_among x ns) (handed x path bound d (i + 1) ns) = later (first_counted x n (children ns) l e) in
      (f.0, rw e f.1, any-right (IsFound f.0) (inner x (spot_in path d i) n ++ copies_here path bound (words_of_item x (child_replies n))) (handed x path bound d (i + 1) ns) f.2)

mutual
  pub node_found : (items x : ℕ) (c : Spot) (n : Node) → x < items → IsTreeOk items n → child_holds x n ≡ true → IsFoundIn (words_found x n) (inner x c n)
  node_found items x c (leaf_node v) l ok h = leaf_found x c v h
  node_found items x c (dir_node d ns) l ok h = dir_found x c d ns (ok.0.rules x l) h (found_in_one items x (spot_path c) (moment_at c.above d.epoch) d 0 ns l ok.1)

  pub found_in_one : (items x : ℕ) (path bound : List ℕ) (d : DirValue) (i : ℕ) (ns : Nodes) → x < items → AreTreesOk items ns → list_any holds_it (faces_of x (children ns)) ≡ true → IsFoundIn (words_among x ns) (handed x path bound d i ns)
  found_in_one items x path bound d i no_nodes l ok h = absurd (false≢true h)
  found_in_one items x path bound d i (more_nodes n ns) l ok h = first_found x path bound d i n ns h (node_found items x (spot_in path d i) n l ok.0) (found_in_one items x path bound d (i + 1) ns l ok.1)

-- ---- of a machine

-- nothing is parked at the top, and there is a holder on its bus
holder_at_top : (p : ParentFace) (cs : List ChildFace) → top_holds p (bits_of p cs) ≡ true → list_any holds_it cs ≡ true
holder_at_top p cs h = go p.parked (and_parts _ _ h).0 (and_parts (not p.parked) _ (and_parts (p.parked || list_any holds_it cs) _ h).1).0 where
  go : (t : Bool) → (t || list_any holds_it cs) ≡ true → not t ≡ true → list_any holds_it cs ≡ true
  go true h k = absurd (false≢true k)
  go false h k = h

pub found_in_machine : (m : MachineValue) (x : ℕ) → IsMachineOk m → x < items_of_machine m → IsFoundIn (found_words x m) (copies_of x m)
unfolding found_words copies_of
found_in_machine m x ok l =
    let f : IsFoundIn (words_among x m.kids) (handed x [] [] m.top 0 m.kids) = found_in_one (items_of_machine m) x [] [] m.top 0 m.kids l ok.tree.1 (holder_at_top (parent_face x m.top) (faces_of x (children m.kids)) (ok.held x l)) in
    (f.0, f.1, any-left (IsFound f.0) (handed x [] [] m.top 0 m.kids) (copies_here [] [] (words_of_item x m.top.parked)) f.2)

-- its words are what all operations leave
pub found_is_current : (s : FlatMachine) (m : MachineValue) (x : ℕ) → IsMachineOk m → x < items_of_machine m → Holds (copy_rule words_right s m x) → found_words x m ≡ Some (words_where s m.items m.ops x any_op)
found_is_current s m x ok l right =
    let f : IsFoundIn (found_words x m) (copies_of x m) = found_in_machine m x ok l in
    f.1 ∙ ap Some (any-gives _ _ (f.0 ≡ words_where s m.items m.ops x any_op) (λ k r i. sym i.1 ∙ same_numbers-true k.words (words_until s (depth_of m) m.items m.ops x k.end) r ∙ ap (words_until s (depth_of m) m.items m.ops x) i.0) (copies_of x m) (each-facts _ (copies_of x m) right) f.2)
