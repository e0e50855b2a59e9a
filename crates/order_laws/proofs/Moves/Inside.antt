-- The copies inside a directory, by its down list and its parking; and what is put behind its down list.
use Rattle.std.proofs.Common.{◌≡◌, ◌≢◌, ℕ, ◌+◌, true, false, List, [], ◌∷◌, ◌++◌, map, refl, sym, ap, subst, ◌∙◌, append_assoc}
use Rattle.std.proofs.lemmas.Bool.{ne_eqb}
use Rattle.order_laws.specs.DdmTypes.declared.answers.TxKind.TheVariants.{EraseTx}
use Rattle.order_laws.specs.DdmTypes.declared.keys.Stamp.{Stamp}
use Rattle.order_laws.specs.TreeModel.State.Kinds.{is_kind, brings_copy}
use Rattle.order_laws.specs.TreeModel.State.Lists.{names_item}
use Rattle.order_laws.specs.TreeModel.State.Values.{DownValue, DirValue, Nodes, dir_node, no_nodes, more_nodes}
use Rattle.order_laws.specs.TreeModel.State.Leaf.{words_of_item}
use Rattle.order_laws.specs.TreeModel.State.Directory.{queue_of, entry_item, stamp_of}
use Rattle.order_laws.specs.TreeModel.State.Place.{Spot, spot_path}
use Rattle.order_laws.specs.TreeRules.Order.Copies.{CopyAt, cut, copy_here, copies_here, first_erase, downs, inner, handed}
use Rattle.order_laws.specs.TreeRules.Order.Moments.{moment_at}
use Rattle.bus_laws.proofs.Lists.{filter-pushed_same, filter-pushed_other}
use Rattle.bus_laws.proofs.ItemLists.{nat_eq-same}
use Rattle.order_laws.proofs.Moves.Queues.{first_erase-behind, downs-behind, downs-plain, brought}

-- ---- a down list

pub queue-pushed : (x : ℕ) (down : List DownValue) (e : DownValue) → e.item ≡ x → queue_of x (down ++ e ∷ []) ≡ queue_of x down ++ e ∷ []
unfolding queue_of
queue-pushed x down e is = filter-pushed_same (names_item entry_item x) down e (subst (λ y. names_item entry_item y e ≡ true) is (nat_eq-same e.item))

pub queue-pushed_other : (y : ℕ) (down : List DownValue) (e : DownValue) → y ≢ e.item → queue_of y (down ++ e ∷ []) ≡ queue_of y down
unfolding queue_of
queue-pushed_other y down e ne = filter-pushed_other (names_item entry_item y) down e (ne_eqb y e.item ne)

pub queue-front : (e : DownValue) (rest : List DownValue) → queue_of e.item (e ∷ rest) ≡ e ∷ queue_of e.item rest
unfolding queue_of
queue-front e rest = rw (nat_eq-same e.item) refl

pub queue-front_other : (y : ℕ) (e : DownValue) (rest : List DownValue) → y ≢ e.item → queue_of y (e ∷ rest) ≡ queue_of y rest
unfolding queue_of
queue-front_other y e rest ne = rw (ne_eqb y e.item ne) refl

-- ---- what the children hand up looks at the bus's present stamp alone

pub handed-same : (x : ℕ) (path bound : List ℕ) (d d' : DirValue) (i : ℕ) (ns : Nodes) → stamp_of d' ≡ stamp_of d → handed x path bound d' i ns ≡ handed x path bound d i ns
handed-same x path bound d d' i no_nodes same = refl
handed-same x path bound d d' i (more_nodes n ns) same =
    let first : inner x (record { above = path; number = i; present = stamp_of d' }) n ≡ inner x (record { above = path; number = i; present = stamp_of d }) n = ap (λ (s : Stamp). inner x (record { above = path; number = i; present = s }) n) same in
    rw (first, handed-same x path bound d d' (i + 1) ns same) refl

module _ (x : ℕ) (c : Spot) (d : DirValue) (ns : Nodes) where
  abbrev pub bound : List ℕ
  bound = moment_at c.above d.epoch

  abbrev pub below : List CopyAt
  below = handed x (spot_path c) bound d 0 ns

  -- by its queue of the item and the parked words of it
  abbrev pub inside : List DownValue → List (List ℕ) → List CopyAt
  inside q ws = map (cut (first_erase c.above q)) (below ++ copies_here (spot_path c) bound ws) ++ downs (spot_path c) c.above q

  pub inner-inside : (d' : DirValue) → stamp_of d' ≡ stamp_of d → d'.epoch ≡ d.epoch → inner x c (dir_node d' ns) ≡ inside (queue_of x d'.down) (words_of_item x d'.parked)
  inner-inside d' same epoch =
      let at_epoch : moment_at c.above d'.epoch ≡ bound = ap (moment_at c.above) epoch in
      ap (λ b. map (cut (first_erase c.above (queue_of x d'.down))) (handed x (spot_path c) b d' 0 ns ++ copies_here (spot_path c) b (words_of_item x d'.parked)) ++ downs (spot_path c) c.above (queue_of x d'.down)) at_epoch ∙ ap (λ ks. map (cut (first_erase c.above (queue_of x d'.down))) (ks ++ copies_here (spot_path c) bound (words_of_item x d'.parked)) ++ downs (spot_path c) c.above (queue_of x d'.down)) (handed-same x (spot_path c) bound d d' 0 ns same)

  -- behind its queue what is no erase: one copy more, where it brings one
  pub inside-brought : (q : List DownValue) (ws : List (List ℕ)) (e : DownValue) → is_kind EraseTx e.kind ≡ false → brings_copy e.kind ≡ true → inside (q ++ e ∷ []) ws ≡ inside q ws ++ copy_here (spot_path c) (moment_at c.above e.stamp) e.words ∷ []
  inside-brought q ws e other is = rw (first_erase-behind c.above q e other, downs-behind (spot_path c) c.above q e other is) (sym (append_assoc (map (cut (first_erase c.above q)) (below ++ copies_here (spot_path c) bound ws)) (downs (spot_path c) c.above q) (brought (spot_path c) c.above e ∷ [])))

  pub inside-plain : (q : List DownValue) (ws : List (List ℕ)) (e : DownValue) → is_kind EraseTx e.kind ≡ false → brings_copy e.kind ≡ false → inside (q ++ e ∷ []) ws ≡ inside q ws
  inside-plain q ws e other is = rw (first_erase-behind c.above q e other, downs-plain (spot_path c) c.above q e other is) refl
