-- What is read of a leaf by its number, and what holds of every leaf of a machine.
-- Letters: m is a machine, v a leaf, n how many items there are.
use Rattle.std.proofs.Common.{Option, None, ◌≡◌, ◌<◌, ◌≤◌, ℕ, zero, suc, ◌+◌, ◌*◌, ◌/◌, List, [], ◌∷◌, ◌++◌, Some, drop, codes, length, map, flat_map, nat_eq, refl, sym, ap, subst, ◌∙◌, append_assoc, append-nil, arith}
use Rattle.std.specs.Prelude.{position, option_map, slice_get}
use Rattle.std.specs.List.{AllByRecursion}
use Rattle.std.proofs.lemmas.Bool.{and_parts, eqb-true}
use Rattle.std.proofs.lemmas.List.{drop_all}
use Rattle.film.specs.DdmTypes.ItemTable.{item_count}
use Rattle.film.specs.FilmParts.Values.{HasForm, LeafHasForm, PartsHaveForm, PartsHaveFormAmong}
use Rattle.film.specs.TreeModel.State.Shape.{IsShaped, tree_counts}
use Rattle.film.specs.TreeModel.State.Values.{BufferValue, WayValue, LeafValue, Node, Nodes, leaf_node, dir_node, no_nodes, more_nodes, MachineValue, root_of}
use Rattle.film.specs.TreeModel.Turns.Machine.{ask_leaf, leaves_of, leaves_among, machine_leaves}
use Rattle.film.specs.DdmTypes.declared.operations.HaltCause.{HaltCause}
use Rattle.film.specs.DdmTypes.declared.sizes.LeafState.{LeafState}
use Rattle.film.specs.DdmTree.Reads.{counted_hart_of, entry_at as read_entry, entry_triple}
use Rattle.film.specs.Found.{way_given}
use Rattle.film.specs.RvHart.HartState.{HartState}
use Rattle.film.specs.TreeModel.declared.CopyPlace.{CopyPlace}
use Rattle.film.specs.TreeModel.declared.LeafSpot.{LeafSpot}
use Rattle.film.specs.TreeModel.State.Blank.{no_hart}
use Rattle.film.specs.TreeModel.State.Leaf.{buffer_entry, buffered, entry_at, is_buffered, leaf_entry, spot_at, way_at, way_entry, way_spot}
use Rattle.film.specs.TreeModel.State.Lists.{first_some}
use Rattle.film.specs.TreeModel.Turns.Found.{FoundValue, found_copy, found_of, found_place, found_words}
use Rattle.film.specs.TreeRules.Bus.Own.{leaf_lists}
use Rattle.film.specs.TreeRules.Bus.Rules.{AreTreesOk, IsMachineOk, IsTreeOk}
use Rattle.film.specs.DdmTree.Rules.{KeepsRules}
use Rattle.film.specs.FilmModel.Leaf.{entry_parts, hart_parts, leaf_list_parts, leaf_parts}
use Rattle.film.specs.FilmModel.Part.{Part, key_of}
use Rattle.film.specs.FilmModel.Still.{place_part, place_text}
use Rattle.film_parts.proofs.ListSteps.{split}
use Rattle.film.proofs.DdmTree.LeafList.{leaf-listed, leaves-counted}

-- ---- by number

got_mapped : {X Y : Type 0} (f : X → Y) (xs : List X) (k : ℕ) → slice_get (map f xs) k ≡ option_map f (slice_get xs k)
got_mapped f [] k = refl
got_mapped f (x ∷ xs) zero = refl
got_mapped f (x ∷ xs) (suc k) = got_mapped f xs k

module _ (m : MachineValue) (k : ℕ) (v : LeafValue) (shaped : IsShaped m) (is : slice_get (machine_leaves m) k ≡ Some v) where
  pub read_of_leaf : {A : Type 0} (f : LeafValue → A) (other : A) → ask_leaf k (λ w u. f u) other m ≡ Some (f v)
  read_of_leaf f other = sym (leaf-listed f other k m shaped) ∙ got_mapped f (machine_leaves m) k ∙ ap (option_map f) is

pub some_same : {X : Type 0} {x y : X} → Some x ≡ Some y → x ≡ y
some_same e = cc

got_first : {X : Type 0} (xs ys : List X) (k : ℕ) (x : X) → drop k xs ≡ x ∷ ys → slice_get xs k ≡ Some x
got_first [] ys zero x is = cc
got_first [] ys (suc k) x is = cc
got_first (y ∷ xs) ys zero x is = cc
got_first (y ∷ xs) ys (suc k) x is = got_first xs ys k x is

-- ---- every leaf

-- a place for its entry of each item, and values of their form
pub record IsLeafFilmed (n width most : ℕ) (v : LeafValue) : Type 0 where
  pub ways : length v.ways ≡ n
  pub form : LeafHasForm width most v

module _ (n width most : ℕ) where
  mutual
    leaves_filmed : (node : Node) (rest : List LeafValue) → IsTreeOk n node → PartsHaveForm width most node → AllByRecursion (IsLeafFilmed n width most) rest → AllByRecursion (IsLeafFilmed n width most) (leaves_of node rest)
    leaves_filmed (leaf_node v) rest ok form more =
        let lists = and_parts (nat_eq (length v.ways) n) _ (ok.each leaf_lists) in
        (record { ways = eqb-true (length v.ways) n lists.0; form = form }, more)
    leaves_filmed (dir_node d ns) rest ok form more = among_filmed ns rest ok.1 form.1 more

    among_filmed : (ns : Nodes) (rest : List LeafValue) → AreTreesOk n ns → PartsHaveFormAmong width most ns → AllByRecursion (IsLeafFilmed n width most) rest → AllByRecursion (IsLeafFilmed n width most) (leaves_among ns rest)
    among_filmed no_nodes rest ok form more = more
    among_filmed (more_nodes node ns) rest ok form more = leaves_filmed node (leaves_among ns rest) ok.0 form.0 (among_filmed ns rest ok.1 form.1 more)

pub all_filmed : (most : ℕ) (m : MachineValue) → IsMachineOk m → HasForm most m → AllByRecursion (IsLeafFilmed (item_count m.items) m.top.sizes.width most) (machine_leaves m)
all_filmed most m ok form = leaves_filmed (item_count m.items) m.top.sizes.width most (root_of m) [] ok.tree form.parts tt

-- a leaf by its number, and the leaves behind it
pub record LeafNext (n width most k : ℕ) (m : MachineValue) : Type 0 where
  pub v : LeafValue
  pub got : slice_get (machine_leaves m) k ≡ Some v
  pub cut : drop k (machine_leaves m) ≡ v ∷ drop (suc k) (machine_leaves m)
  pub filmed : IsLeafFilmed n width most v

pub leaf_next : (most k : ℕ) (m : MachineValue) → IsMachineOk m → HasForm most m → k < (tree_counts m).leaves → LeafNext (item_count m.items) m.top.sizes.width most k m
leaf_next most k m ok form inside =
    let one = split (IsLeafFilmed (item_count m.items) m.top.sizes.width most) k (machine_leaves m) (omega (arith, inside, leaves-counted m)) (all_filmed most m ok form) in
    record { v = one.x; got = got_first (machine_leaves m) (drop (suc k) (machine_leaves m)) k one.x one.is; cut = one.is; filmed = one.holds }

-- ---- parts of one after the other

module _ {X : Type 0} (parts : X → List Part) where
  pub told_next : (xs : List X) (place : ℕ) (x : X) (start whole now grown : List Part) → drop place xs ≡ x ∷ drop (suc place) xs → now ++ flat_map parts (drop place xs) ≡ start ++ whole
      → grown ≡ now ++ parts x → grown ++ flat_map parts (drop (place + 1) xs) ≡ start ++ whole
  told_next xs place x start whole now grown cut so_far more =
      let next : suc place ≡ place + 1 = omega arith in
      ap (λ n. grown ++ flat_map parts (drop n xs)) (sym next) ∙ ap (λ (s : List Part). s ++ flat_map parts (drop (suc place) xs)) more
      ∙ append_assoc now (parts x) (flat_map parts (drop (suc place) xs)) ∙ ap (λ (ys : List X). now ++ flat_map parts ys) (sym cut) ∙ so_far

  pub told_last : (xs : List X) (place : ℕ) (start whole now : List Part) → length xs ≤ place → now ++ flat_map parts (drop place xs) ≡ start ++ whole → now ≡ start ++ whole
  told_last xs place start whole now past so_far = sym (append-nil now) ∙ ap (λ (ys : List X). now ++ flat_map parts ys) (sym (drop_all place xs past)) ∙ so_far

pub leaf_told : (v : LeafValue) (s0 s1 s2 s3 : List Part) → s1 ≡ s0 ++ hart_parts v → s2 ≡ s1 ++ entry_parts v → s3 ≡ s2 ++ leaf_list_parts v → s3 ≡ s0 ++ leaf_parts v
unfolding leaf_parts
leaf_told v s0 s1 s2 s3 first second third =
    third ∙ ap (λ (s : List Part). s ++ leaf_list_parts v) (second ∙ ap (λ (s : List Part). s ++ entry_parts v) first ∙ append_assoc s0 (hart_parts v) (entry_parts v))
    ∙ append_assoc s0 (hart_parts v ++ entry_parts v) (leaf_list_parts v)

-- ---- the rules of its buses

pub machine_ok : (m : MachineValue) → KeepsRules m → IsMachineOk m
unfolding KeepsRules
machine_ok m rules = rules.0

-- ---- how many words an item has

pub width_is : (size width words : ℕ) → words ≡ size / 4 → size ≡ 4 * width → words ≡ width
width_is size width words is wide = omega (arith, is, wide)

pub leaf_form_of : {n width most words : ℕ} {v : LeafValue} → words ≡ width → IsLeafFilmed n width most v → LeafHasForm words most v
leaf_form_of {n} {width} {most} {words} {v} same filmed = subst (λ (k : ℕ). LeafHasForm k most v) (sym same) filmed.form

-- ---- what the calls on a leaf give

pub hart_read : (m : MachineValue) (k : ℕ) (v : LeafValue) → IsShaped m → slice_get (machine_leaves m) k ≡ Some v → (h : HartState) → Some h ≡ counted_hart_of k m → h ≡ record { hart = v.hart; done = v.done }
hart_read m k v shaped is h read = some_same (read ∙ read_of_leaf m k v shaped is (λ (u : LeafValue). (let s : HartState = record { hart = u.hart; done = u.done } in s)) (record { hart = no_hart; done = 0 }))

pub hart_whole : (v : LeafValue) (h : HartState) (registers : List ℕ) (pc : ℕ) (halt : Option HaltCause) → h ≡ record { hart = v.hart; done = v.done } → registers ≡ h.hart.registers → pc ≡ h.hart.pc → halt ≡ h.hart.halt
    → v.hart ≡ record { registers = registers; pc = pc; halt = halt }
hart_whole v h registers pc halt same r p t = sym (ap (λ (s : HartState). s.hart) same) ∙ rw (r, p, t) refl

way_triple : (o : Option WayValue) (b : Option BufferValue) (p : Option ℕ) (e : Option (LeafState × List ℕ × LeafSpot))
    → e ≡ entry_triple (first_some (option_map way_entry o) (option_map buffer_entry b)) (first_some (option_map way_spot o) (option_map (λ k. LeafSpot.Buffer k) p)) → way_given e ≡ o
way_triple (Some w) b p e is = ap way_given is
way_triple None None None e is = ap way_given is
way_triple None None (Some k) e is = ap way_given is
way_triple None (Some f) None e is = ap way_given is
way_triple None (Some f) (Some k) e is = ap way_given is

pub entry_read : (m : MachineValue) (k x : ℕ) (v : LeafValue) → IsShaped m → slice_get (machine_leaves m) k ≡ Some v → (e : Option (LeafState × List ℕ × LeafSpot)) → Some e ≡ read_entry k x m → way_given e ≡ way_at x v.ways
unfolding entry_at
entry_read m k x v shaped is e read =
    way_triple (way_at x v.ways) (buffered x v.buffer) (position (is_buffered x) v.buffer) e
    (some_same (read ∙ read_of_leaf m k v shaped is (λ (u : LeafValue). entry_triple (leaf_entry x u) (spot_at x u.ways u.buffer)) None))

-- ---- one part after the other

module _ {X : Type 0} (part : X → Part) where
  pub mapped_next : (xs : List X) (place : ℕ) (x : X) (start whole now grown : List Part) → drop place xs ≡ x ∷ drop (suc place) xs → now ++ map part (drop place xs) ≡ start ++ whole
      → grown ≡ now ++ part x ∷ [] → grown ++ map part (drop (place + 1) xs) ≡ start ++ whole
  mapped_next xs place x start whole now grown cut so_far more =
      let next : suc place ≡ place + 1 = omega arith in
      ap (λ n. grown ++ map part (drop n xs)) (sym next) ∙ ap (λ (s : List Part). s ++ map part (drop (suc place) xs)) more
      ∙ append_assoc now (part x ∷ []) (map part (drop (suc place) xs)) ∙ ap (λ (ys : List X). now ++ map part ys) (sym cut) ∙ so_far

  pub mapped_last : (xs : List X) (place : ℕ) (start whole now : List Part) → length xs ≤ place → now ++ map part (drop place xs) ≡ start ++ whole → now ≡ start ++ whole
  mapped_last xs place start whole now past so_far = sym (append-nil now) ∙ ap (λ (ys : List X). now ++ map part ys) (sym (drop_all place xs past)) ∙ so_far

-- ---- where a copy is

pub place_read : (r : FoundValue) (p : Option CopyPlace) (ws : Option (List ℕ)) → Some r ≡ found_of p ws → p ≡ Some r.place
place_read r None ws is = cc
place_read r (Some p) None is = cc
place_read r (Some p) (Some ws) is = ap (λ (o : Option FoundValue). option_map (λ f. f.place) o) (sym is)

pub copy_read : (m : MachineValue) (x : ℕ) (r : FoundValue) → Some r ≡ found_copy x m → found_place x m ≡ Some r.place
unfolding found_copy
copy_read m x r is = place_read r (found_place x m) (found_words x m) is

pub copy_told : (m : MachineValue) (x : ℕ) (old new : List Part) (at : CopyPlace) (r : FoundValue) → at ≡ r.place → Some r ≡ found_copy x m
    → new ≡ old ++ record { key = key_of (codes "copy") x; value = place_text (Some at) } ∷ [] → new ≡ old ++ place_part m x ∷ []
unfolding place_part
copy_told m x old new at r place is told =
    told ∙ ap (λ (o : Option CopyPlace). (let p : Part = record { key = key_of (codes "copy") x; value = place_text o } in old ++ p ∷ [])) (ap Some place ∙ sym (copy_read m x r is))
