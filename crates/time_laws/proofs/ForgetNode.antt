-- A part of the tree without its time: forgotten twice is forgotten once, a bus sees it as it was, and what a bus tells it or
-- takes from it leaves the same but for time.
-- Letters: n and m are nodes, x is an item, s and r are stamps.
use Rattle.std.proofs.Common.{◌≡◌, ℕ, true, false, List, [], ◌∷◌, ◌++◌, map, refl, sym, ap, ◌∙◌}
use Rattle.std.specs.Prelude.{nat_le}
use Rattle.std.proofs.lemmas.List.{length-map}
use Rattle.time_laws.specs.DdmTypes.declared.answers.TxKind.{TxKind}
use Rattle.time_laws.specs.DdmTypes.declared.answers.TxKind.TheVariants.{ReadTx, DataTx, EraseTx, ExclusiveTx, InjectTx, OutTx}
use Rattle.time_laws.specs.DdmTypes.declared.keys.Stamp.{Stamp}
use Rattle.tree_model.specs.State.States.{is_held}
use Rattle.tree_model.specs.State.Values.{DownValue, DirValue, Node, Nodes, leaf_node, dir_node, no_nodes, more_nodes}
use Rattle.tree_model.specs.State.Leaf.{blank, leaf_hold, leaf_room, leaf_lose, leaf_take_data, leaf_take_exclusive, leaf_answer, leaf_take_inject}
use Rattle.tree_model.specs.State.Directory.{dir_hold, dir_room, down_full, in_down, pending, dir_lose, dir_take_data, dir_take_exclusive, dir_answer, dir_take_inject, open_read}
use Rattle.tree_model.specs.State.Child.{child_hold, child_waits, child_room, reader_has_place, child_full_for, child_request, child_reply, child_leaving, pending_below, child_given, child_lose, child_take_data, child_take_exclusive, child_answer, child_take_inject, child_request_taken, child_reply_taken, child_give_up}
use Rattle.time_laws.specs.Forget.{forget_entry, forget_dir, forget_node, forget_nodes}
use Rattle.time_laws.specs.Blind.{SeenAlike}
use Rattle.time_laws.proofs.Related.{BlindTo}
use Rattle.time_laws.proofs.BlindBus.{kinds-forgotten, pushed-same}

-- ---- twice is once

pub entries-twice : (down : List DownValue) → map forget_entry (map forget_entry down) ≡ map forget_entry down
entries-twice [] = refl
entries-twice (e ∷ es) = ap (λ fs. forget_entry e ∷ fs) (entries-twice es)

pub dir-twice : (d : DirValue) → forget_dir (forget_dir d) ≡ forget_dir d
dir-twice d = rw (entries-twice d.down) refl

mutual
  pub node-twice : (n : Node) → forget_node (forget_node n) ≡ forget_node n
  node-twice (leaf_node v) = refl
  node-twice (dir_node d ns) = rw (dir-twice d, nodes-twice ns) refl

  pub nodes-twice : (ns : Nodes) → forget_nodes (forget_nodes ns) ≡ forget_nodes ns
  nodes-twice no_nodes = refl
  nodes-twice (more_nodes n ns) = rw (node-twice n, nodes-twice ns) refl

-- ---- what a bus sees

down_full-forgotten : (d : DirValue) → down_full (forget_dir d) ≡ down_full d
down_full-forgotten d = ap (nat_le d.sizes.down_room) (length-map d.down forget_entry)

in_down-forgotten : (x : ℕ) (d : DirValue) → in_down x (forget_dir d) ≡ in_down x d
in_down-forgotten x d = rw (kinds-forgotten x d.down) refl

open_read-forgotten : (x : ℕ) (d : DirValue) → open_read x (forget_dir d) ≡ open_read x d
open_read-forgotten x d = rw (in_down-forgotten x d) refl

hold-forgotten : (x : ℕ) (n : Node) → child_hold x (forget_node n) ≡ child_hold x n
unfolding leaf_hold
hold-forgotten x (leaf_node v) = refl
hold-forgotten x (dir_node d ns) = refl

waits-forgotten : (x : ℕ) (n : Node) → child_waits x (forget_node n) ≡ child_waits x n
waits-forgotten x (leaf_node v) = refl
waits-forgotten x (dir_node d ns) = refl

room-forgotten : (x : ℕ) (n : Node) → child_room x (forget_node n) ≡ child_room x n
unfolding leaf_room dir_room
room-forgotten x (leaf_node v) = refl
room-forgotten x (dir_node d ns) = rw (down_full-forgotten d, open_read-forgotten x d) refl

place-forgotten : (x : ℕ) (n : Node) → reader_has_place x (forget_node n) ≡ reader_has_place x n
place-forgotten x (leaf_node v) = refl
place-forgotten x (dir_node d ns) = rw (open_read-forgotten x d) refl

full-forgotten : (kind : TxKind) (x : ℕ) (n : Node) → child_full_for kind x (forget_node n) ≡ child_full_for kind x n
full-forgotten ReadTx x (leaf_node v) = refl
full-forgotten DataTx x (leaf_node v) = refl
full-forgotten EraseTx x (leaf_node v) = refl
full-forgotten ExclusiveTx x (leaf_node v) = refl
full-forgotten InjectTx x (leaf_node v) = refl
full-forgotten OutTx x (leaf_node v) = refl
full-forgotten ReadTx x (dir_node d ns) = rw (down_full-forgotten d) refl
full-forgotten DataTx x (dir_node d ns) = rw (down_full-forgotten d) refl
full-forgotten EraseTx x (dir_node d ns) = rw (down_full-forgotten d) refl
full-forgotten ExclusiveTx x (dir_node d ns) = rw (down_full-forgotten d) refl
full-forgotten InjectTx x (dir_node d ns) = rw (down_full-forgotten d) refl
full-forgotten OutTx x (dir_node d ns) = refl

request-forgotten : (n : Node) → child_request (forget_node n) ≡ child_request n
request-forgotten (leaf_node v) = refl
request-forgotten (dir_node d ns) = refl

reply-forgotten : (n : Node) → child_reply (forget_node n) ≡ child_reply n
reply-forgotten (leaf_node v) = refl
reply-forgotten (dir_node d ns) = refl

leaving-forgotten : (choice : ℕ) (n : Node) → child_leaving choice (forget_node n) ≡ child_leaving choice n
leaving-forgotten choice (leaf_node v) = refl
leaving-forgotten choice (dir_node d ns) = refl

below-forgotten : (x : ℕ) (n : Node) → pending_below x (forget_node n) ≡ pending_below x n
unfolding pending
below-forgotten x (leaf_node v) = refl
below-forgotten x (dir_node d ns) = rw (in_down-forgotten x d) refl

given-forgotten : (x : ℕ) (n : Node) → child_given x (forget_node n) ≡ child_given x n
given-forgotten x (leaf_node v) = refl
given-forgotten x (dir_node d ns) = refl

-- what is read of a node without its time is the same of two that differ in time alone
seen-same : {A : Type 0} (read : Node → A) → ((n : Node) → read (forget_node n) ≡ read n) → (n m : Node) → forget_node n ≡ forget_node m → read n ≡ read m
seen-same read forgotten n m same = sym (forgotten n) ∙ ap read same ∙ forgotten m

pub seen-forgotten : (n m : Node) → forget_node n ≡ forget_node m → SeenAlike n m
seen-forgotten n m same = record {
  hold = λ x. seen-same (child_hold x) (hold-forgotten x) n m same;
  waits = λ x. seen-same (child_waits x) (waits-forgotten x) n m same;
  room = λ x. seen-same (child_room x) (room-forgotten x) n m same;
  reader_place = λ x. seen-same (reader_has_place x) (place-forgotten x) n m same;
  full = λ kind x. seen-same (child_full_for kind x) (full-forgotten kind x) n m same;
  request = seen-same child_request request-forgotten n m same;
  reply = seen-same child_reply reply-forgotten n m same;
  leaving = λ choice. seen-same (child_leaving choice) (leaving-forgotten choice) n m same;
  below = λ x. seen-same (pending_below x) (below-forgotten x) n m same;
  given = λ x. seen-same (child_given x) (given-forgotten x) n m same;
}

-- ---- what a bus makes of it

pushed-forgotten : (down : List DownValue) (kind : TxKind) (x : ℕ) (words : List ℕ) (s r : Stamp)
    → map forget_entry (map forget_entry down ++ record { kind = kind; item = x; words = words; stamp = r } ∷ []) ≡ map forget_entry (down ++ record { kind = kind; item = x; words = words; stamp = s } ∷ [])
pushed-forgotten down kind x words s r = pushed-same (map forget_entry down) down (record { kind = kind; item = x; words = words; stamp = r }) (record { kind = kind; item = x; words = words; stamp = s }) (entries-twice down) refl

dir_lose-forgotten : (x : ℕ) (s r : Stamp) (d : DirValue) → forget_dir (dir_lose x r (forget_dir d)) ≡ forget_dir (dir_lose x s d)
unfolding dir_lose
dir_lose-forgotten x s r d =
    elim (is_held (dir_hold x d)) as (λ b. is_held (dir_hold x d) ≡ b → forget_dir (dir_lose x r (forget_dir d)) ≡ forget_dir (dir_lose x s d)) [
      | true ↦ λ held. rw held (rw (pushed-forgotten d.down EraseTx x (blank d.sizes.width) s r) refl)
      | false ↦ λ held. rw held (dir-twice d)
    ] refl

dir_take_inject-forgotten : (x : ℕ) (words : List ℕ) (s r : Stamp) (d : DirValue) → forget_dir (dir_take_inject x words r (forget_dir d)) ≡ forget_dir (dir_take_inject x words s d)
unfolding dir_take_inject
dir_take_inject-forgotten x words s r d = rw (open_read-forgotten x d, pushed-forgotten d.down InjectTx x words s r) refl

-- two nodes over the same children, but for time
over-twice : (d e : DirValue) (ns : Nodes) → forget_dir d ≡ forget_dir e → forget_node (dir_node d (forget_nodes ns)) ≡ forget_node (dir_node e ns)
over-twice d e ns same = rw (same, nodes-twice ns) refl

lose-forgotten : (x : ℕ) (s r : Stamp) (n : Node) → forget_node (child_lose x r (forget_node n)) ≡ forget_node (child_lose x s n)
unfolding leaf_lose
lose-forgotten x s r (leaf_node v) = refl
lose-forgotten x s r (dir_node d ns) = over-twice (dir_lose x r (forget_dir d)) (dir_lose x s d) ns (dir_lose-forgotten x s r d)

take_data-forgotten : (x : ℕ) (words : List ℕ) (s r : Stamp) (n : Node) → forget_node (child_take_data x words r (forget_node n)) ≡ forget_node (child_take_data x words s n)
unfolding leaf_take_data dir_take_data
take_data-forgotten x words s r (leaf_node v) = refl
take_data-forgotten x words s r (dir_node d ns) = rw (pushed-forgotten d.down DataTx x words s r, nodes-twice ns) refl

take_exclusive-forgotten : (x : ℕ) (s r : Stamp) (n : Node) → forget_node (child_take_exclusive x r (forget_node n)) ≡ forget_node (child_take_exclusive x s n)
unfolding leaf_take_exclusive dir_take_exclusive
take_exclusive-forgotten x s r (leaf_node v) = refl
take_exclusive-forgotten x s r (dir_node d ns) = rw (pushed-forgotten d.down ExclusiveTx x (blank d.sizes.width) s r, nodes-twice ns) refl

answer-forgotten : (x : ℕ) (s r : Stamp) (n : Node) → forget_node (child_answer x r (forget_node n)) ≡ forget_node (child_answer x s n)
unfolding leaf_answer dir_answer
answer-forgotten x s r (leaf_node v) = refl
answer-forgotten x s r (dir_node d ns) = rw (pushed-forgotten d.down ReadTx x (blank d.sizes.width) s r, nodes-twice ns) refl

take_inject-forgotten : (x : ℕ) (words : List ℕ) (s r : Stamp) (n : Node) → forget_node (child_take_inject x words r (forget_node n)) ≡ forget_node (child_take_inject x words s n)
unfolding leaf_take_inject
take_inject-forgotten x words s r (leaf_node v) = refl
take_inject-forgotten x words s r (dir_node d ns) = over-twice (dir_take_inject x words r (forget_dir d)) (dir_take_inject x words s d) ns (dir_take_inject-forgotten x words s r d)

request_taken-forgotten : (n : Node) → forget_node (child_request_taken (forget_node n)) ≡ forget_node (child_request_taken n)
request_taken-forgotten (leaf_node v) = refl
request_taken-forgotten (dir_node d ns) = rw (entries-twice d.down, nodes-twice ns) refl

reply_taken-forgotten : (n : Node) → forget_node (child_reply_taken (forget_node n)) ≡ forget_node (child_reply_taken n)
reply_taken-forgotten (leaf_node v) = refl
reply_taken-forgotten (dir_node d ns) = rw (entries-twice d.down, nodes-twice ns) refl

give_up-forgotten : (x : ℕ) (n : Node) → forget_node (child_give_up x (forget_node n)) ≡ forget_node (child_give_up x n)
give_up-forgotten x (leaf_node v) = refl
give_up-forgotten x (dir_node d ns) = rw (entries-twice d.down, nodes-twice ns) refl

-- what is made of two nodes that differ in time alone differs in time alone
told-same : (f g : Node → Node) → ((n : Node) → forget_node (g (forget_node n)) ≡ forget_node (f n)) → ((n : Node) → forget_node (g (forget_node n)) ≡ forget_node (g n)) → (n m : Node) → forget_node n ≡ forget_node m → forget_node (f n) ≡ forget_node (g m)
told-same f g first second n m same = sym (first n) ∙ ap (λ k. forget_node (g k)) same ∙ second m

pub lose-same : (x : ℕ) (s r : Stamp) (n m : Node) → forget_node n ≡ forget_node m → forget_node (child_lose x s n) ≡ forget_node (child_lose x r m)
lose-same x s r = told-same (child_lose x s) (child_lose x r) (lose-forgotten x s r) (lose-forgotten x r r)

pub take_data-same : (x : ℕ) (words : List ℕ) (s r : Stamp) (n m : Node) → forget_node n ≡ forget_node m → forget_node (child_take_data x words s n) ≡ forget_node (child_take_data x words r m)
take_data-same x words s r = told-same (child_take_data x words s) (child_take_data x words r) (take_data-forgotten x words s r) (take_data-forgotten x words r r)

pub take_exclusive-same : (x : ℕ) (s r : Stamp) (n m : Node) → forget_node n ≡ forget_node m → forget_node (child_take_exclusive x s n) ≡ forget_node (child_take_exclusive x r m)
take_exclusive-same x s r = told-same (child_take_exclusive x s) (child_take_exclusive x r) (take_exclusive-forgotten x s r) (take_exclusive-forgotten x r r)

pub answer-same : (x : ℕ) (s r : Stamp) (n m : Node) → forget_node n ≡ forget_node m → forget_node (child_answer x s n) ≡ forget_node (child_answer x r m)
answer-same x s r = told-same (child_answer x s) (child_answer x r) (answer-forgotten x s r) (answer-forgotten x r r)

pub take_inject-same : (x : ℕ) (words : List ℕ) (s r : Stamp) (n m : Node) → forget_node n ≡ forget_node m → forget_node (child_take_inject x words s n) ≡ forget_node (child_take_inject x words r m)
take_inject-same x words s r = told-same (child_take_inject x words s) (child_take_inject x words r) (take_inject-forgotten x words s r) (take_inject-forgotten x words r r)

pub request_taken-same : (n m : Node) → forget_node n ≡ forget_node m → forget_node (child_request_taken n) ≡ forget_node (child_request_taken m)
request_taken-same = told-same child_request_taken child_request_taken request_taken-forgotten request_taken-forgotten

pub reply_taken-same : (n m : Node) → forget_node n ≡ forget_node m → forget_node (child_reply_taken n) ≡ forget_node (child_reply_taken m)
reply_taken-same = told-same child_reply_taken child_reply_taken reply_taken-forgotten reply_taken-forgotten

pub give_up-same : (x : ℕ) (n m : Node) → forget_node n ≡ forget_node m → forget_node (child_give_up x n) ≡ forget_node (child_give_up x m)
give_up-same x = told-same (child_give_up x) (child_give_up x) (give_up-forgotten x) (give_up-forgotten x)

-- nodes that differ in time alone
abbrev pub TimeAlone : ℕ → Node → Node → Type 0
TimeAlone i n m = forget_node n ≡ forget_node m

pub time_alone-blind : BlindTo TimeAlone
time_alone-blind = record {
  seen = λ i. seen-forgotten;
  lose = λ x s r i. lose-same x s r;
  take_data = λ x words s r i. take_data-same x words s r;
  take_exclusive = λ x s r i. take_exclusive-same x s r;
  answer = λ x s r i. answer-same x s r;
  take_inject = λ x words s r i. take_inject-same x words s r;
  request_taken = λ i. request_taken-same;
  reply_taken = λ i. reply_taken-same;
  give_up = λ x i. give_up-same x;
}
