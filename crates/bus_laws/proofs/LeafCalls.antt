-- What a bus tells a leaf, or takes from it, keeps the leaf's rules, and what is seen of it then.
use Rattle.std.proofs.Common.{◌≡◌, ◌≢◌, ℕ, ◌+◌, ◌<◌, Bool, true, false, List, [], ◌∷◌, ◌++◌, length, Option, Some, None, refl, sym, ap, subst, ◌∙◌, arith, length-append}
use Rattle.std.specs.Prelude.{not, ◌&&◌, nat_eq, option_map, if◌then◌else◌}
use native.Mathlib.Decide.{ℕ_discrete}
use Rattle.std.proofs.Math.Bool.{and-false}
use Rattle.std.proofs.lemmas.Bool.{ne_eqb, eq-eqb, and_parts, leb-false}
use Rattle.bus_laws.specs.DdmTypes.declared.answers.TxKind.{TxKind}
use Rattle.bus_laws.specs.DdmTypes.declared.answers.TxKind.TheVariants.{ReadTx, EraseTx}
use Rattle.bus_laws.specs.DdmTypes.declared.sizes.Hold.{Hold}
use Rattle.bus_laws.specs.DdmTypes.declared.sizes.LeafState.{LeafState}
use Rattle.bus_laws.specs.TreeModel.State.Kinds.{is_kind}
use Rattle.bus_laws.specs.TreeModel.State.States.{is_held, is_reading, is_upgrading, state_lost, asked_when_lost, state_with_data, asked_with_data, state_with_exclusive, state_answered}
use Rattle.bus_laws.specs.TreeModel.State.Values.{RequestValue, LeafValue, leaf_node}
use Rattle.bus_laws.specs.TreeModel.State.Leaf.{blank, stays, ends, becomes, with_fate, words_in, slot_has, words_of_item, LeafEntry, leaf_entry, entry_state, state_at, slot_asking, unreserved, fate_by_loss, fate_by, leaf_lose, leaf_take_data, leaf_take_exclusive, leaf_answer, leaf_replies_full}
use Rattle.bus_laws.proofs.TreeModel.LeafRooms.{LeafWithin, leaf_within-facts}
use Rattle.bus_laws.proofs.TreeModel.Tests.{not-true}
use Rattle.tree_rules.specs.Bus.Faces.{ChildFace, leaf_face}
use Rattle.tree_rules.specs.Bus.Item.{implies}
use Rattle.tree_rules.specs.Bus.Own.{leaf_lists, slot_fits, leaf_replies, reservation_fits, IsLeafOk, words_suit, state_waits, request_suits, slot_suits, copy_fits, reserves_below}
use Rattle.bus_laws.proofs.HartFacts.{one-waits}
use Rattle.bus_laws.proofs.Lists.{pass-pushed}
use Rattle.bus_laws.proofs.ItemLists.{nat_eq-same, words-pushed, words-pushed_other}
use Rattle.bus_laws.proofs.DirParts.{blank-zero, child_seen, lt-test}
use Rattle.bus_laws.proofs.DirCalls.{face_lost}
use Rattle.bus_laws.proofs.LeafTold.{IsFated, fated-stays, fated-ends, fated-becomes, SlotSuits, LeafChange, state_face, leaf_face-is, leaf-told}
use Rattle.bus_laws.proofs.Told.{IsTold}

-- ---- words, reservations, requests

pub words-suit : (s : LeafState) (width : ℕ) (words : List ℕ) → words_suit s (words_in s width words) ≡ true
unfolding implies
words-suit LeafState.Shared width words = refl
words-suit LeafState.Exclusive width words = refl
words-suit LeafState.Waiting width words = refl
words-suit LeafState.Reading width words = blank-zero width
words-suit LeafState.ReadingWaiting width words = blank-zero width

unreserved-below : (n x : ℕ) (r : Option ℕ) → reserves_below n r ≡ true → reserves_below n (unreserved x r) ≡ true
unreserved-below n x None h = refl
unreserved-below n x (Some y) h = at (nat_eq y x) where
  at : (b : Bool) → reserves_below n (if b then None else Some y) ≡ true
  at true = refl
  at false = h

-- who is asked for waits
pub suits-waits : (k : TxKind) (o : Option LeafState) → request_suits k o ≡ true → state_waits o ≡ true
suits-waits TxKind.ReadTx None h = cc
suits-waits TxKind.ReadTx (Some LeafState.Shared) h = cc
suits-waits TxKind.ReadTx (Some LeafState.Exclusive) h = cc
suits-waits TxKind.ReadTx (Some LeafState.Waiting) h = refl
suits-waits TxKind.ReadTx (Some LeafState.Reading) h = refl
suits-waits TxKind.ReadTx (Some LeafState.ReadingWaiting) h = refl
suits-waits TxKind.EraseTx None h = cc
suits-waits TxKind.EraseTx (Some LeafState.Shared) h = cc
suits-waits TxKind.EraseTx (Some LeafState.Exclusive) h = cc
suits-waits TxKind.EraseTx (Some LeafState.Waiting) h = refl
suits-waits TxKind.EraseTx (Some LeafState.Reading) h = refl
suits-waits TxKind.EraseTx (Some LeafState.ReadingWaiting) h = refl
suits-waits TxKind.DataTx o h = cc
suits-waits TxKind.ExclusiveTx o h = cc
suits-waits TxKind.InjectTx o h = cc
suits-waits TxKind.OutTx o h = cc

pub asked-other : (kind k : TxKind) (x y : ℕ) → y ≢ x → slot_has kind y (Some (record { kind = k; item = x })) ≡ false
asked-other kind k x y ne = rw (ne_eqb y x ne) (and-false (is_kind kind k))

module _ (n x : ℕ) (v : LeafValue) (ok : IsLeafOk n v) where
  -- what is asked for is of the item that waits
  asked-waiting : state_waits (state_at x v) ≡ true → (r : RequestValue) → v.slot ≡ Some r → r.item ≡ x
  asked-waiting waits r is =
      let suits : request_suits r.kind (state_at r.item v) ≡ true = subst (λ o. slot_suits v o ≡ true) is (ok.each slot_fits) in
      one-waits n v ok r.item x (suits-waits r.kind (state_at r.item v) suits) waits

  asks-none : state_waits (state_at x v) ≡ true → (y : ℕ) (kind : TxKind) → y ≢ x → slot_has kind y v.slot ≡ false
  asks-none waits y kind ne = at v.slot refl where
    at : (o : Option RequestValue) → v.slot ≡ o → slot_has kind y o ≡ false
    at None is = refl
    at (Some r) is =
        let same : r.item ≡ x = asked-waiting waits r is in
        let other : nat_eq y r.item ≡ false = ne_eqb y r.item (λ e. ne (e ∙ same)) in
        rw other (and-false (is_kind kind r.kind))

  -- the request stays, where it isn't of the item or suits it still
  pub slot-stays : (o : Option LeafState) → ((kind : TxKind) → v.slot ≡ Some (record { kind = kind; item = x }) → request_suits kind (state_at x v) ≡ true → request_suits kind o ≡ true) → SlotSuits x o v v.slot
  slot-stays o still r is = at (ℕ_discrete r.item x) where
    suits : request_suits r.kind (state_at r.item v) ≡ true
    suits = subst (λ o. slot_suits v o ≡ true) is (ok.each slot_fits)

    at : Dec (r.item ≡ x) → request_suits r.kind (if nat_eq r.item x then o else state_at r.item v) ≡ true
    at (yes same) =
        let here : nat_eq r.item x ≡ true = eq-eqb r.item x same in
        rw here (still r.kind (is ∙ ap (λ i. Some (let q : RequestValue = record { kind = r.kind; item = i } in q)) same) (subst (λ i. request_suits r.kind (state_at i v) ≡ true) same suits))
    at (no other) = rw (ne_eqb r.item x other) suits

  -- the item is asked for
  slot-asks : (o : Option LeafState) (kind : TxKind) → request_suits kind o ≡ true → SlotSuits x o v (Some (record { kind = kind; item = x }))
  slot-asks o kind suits r is =
      let same : (let q : RequestValue = record { kind = kind; item = x } in q) ≡ r = cc in
      subst (λ (q : RequestValue). request_suits q.kind (if nat_eq q.item x then o else state_at q.item v) ≡ true) same (rw (nat_eq-same x) suits)

  pub slot-none : (o : Option LeafState) → SlotSuits x o v None
  slot-none o r is = cc

  abbrev copies : ℕ
  copies = length (words_of_item x v.replies)

  -- its replies and its reservation stay, or this ends
  abbrev within : LeafWithin n v
  within = leaf_within-facts n v (ok.each leaf_lists)

  pub change : (o : Option LeafState) (slot : Option RequestValue) (reservation : Option ℕ) → (state_waits o ≡ true → state_waits (state_at x v) ≡ true) → SlotSuits x o v slot → ((y : ℕ) (kind : TxKind) → y ≢ x → slot_has kind y slot ≡ slot_has kind y v.slot) → reserves_below n reservation ≡ true → LeafChange n x v o slot v.replies reservation
  change o slot reservation waits suits asks reserves = record { waits = waits; suits = suits; asks = asks; copies = ok.each leaf_replies; room = within.replies; copies_of = λ y ne. refl; reserves = reserves }

  pub still-reserves : reserves_below n (unreserved x v.reservation) ≡ true
  still-reserves = unreserved-below n x v.reservation (ok.each reservation_fits)

  pub told-by : (w after : LeafValue) (seen seen_so : ChildFace) → w ≡ after → IsTold n x (leaf_node v) (leaf_node after) seen → seen ≡ seen_so → IsTold n x (leaf_node v) (leaf_node w) seen_so
  told-by w after seen seen_so is told same = subst (λ f. IsTold n x (leaf_node v) (leaf_node w) f) same (subst (λ u. IsTold n x (leaf_node v) (leaf_node u) seen) (sym is) told)

  pub face-known : (o : Option LeafState) → state_at x v ≡ o → leaf_face x v ≡ state_face x o v.slot copies
  face-known o is = leaf_face-is x v ∙ ap (λ o. state_face x o v.slot copies) is

  pub state-of : (e : LeafEntry) (s : LeafState) → leaf_entry x v ≡ Some e → e.state ≡ s → state_at x v ≡ Some s
  state-of e s is st = ap (option_map entry_state) is ∙ ap Some st

  pub same-slot : (y : ℕ) (kind : TxKind) → y ≢ x → slot_has kind y v.slot ≡ slot_has kind y v.slot
  same-slot y kind ne = refl

  -- the slot asks for the item instead, which waited before
  asks-now : state_waits (state_at x v) ≡ true → (k : TxKind) (y : ℕ) (kind : TxKind) → y ≢ x → slot_has kind y (Some (record { kind = k; item = x })) ≡ slot_has kind y v.slot
  asks-now waits k y kind ne = asked-other kind k x y ne ∙ sym (asks-none waits y kind ne)

  -- what was asked for isn't any more
  pub unasked : (k : TxKind) → v.slot ≡ Some (record { kind = k; item = x }) → (y : ℕ) (kind : TxKind) → y ≢ x → slot_has kind y None ≡ slot_has kind y v.slot
  unasked k is y kind ne = sym (ap (slot_has kind y) is ∙ asked-other kind k x y ne)

  -- an entry that doesn't wait isn't asked for
  pub not-asked : (o : Option LeafState) → state_at x v ≡ o → state_waits o ≡ false → (p : Option LeafState) → SlotSuits x p v v.slot
  not-asked o is quiet p = slot-stays p (λ kind asks suits. let waits : state_waits o ≡ true = subst (λ o. state_waits o ≡ true) is (suits-waits kind (state_at x v) suits) in cc)

  pub fated-as : (s old : LeafState) (words : List ℕ) → state_at x v ≡ Some old → IsFated n x v (becomes s (words_in s v.sizes.width words)) (Some s)
  fated-as s old words is = fated-becomes n x v ok s (words_in s v.sizes.width words) old is (words-suit s v.sizes.width words)

  -- ---- told to lose the item

  abbrev IsLost : Type 0
  IsLost = IsTold n x (leaf_node v) (leaf_node (leaf_lose x v)) (face_lost (leaf_face x v))

  lose-none : leaf_entry x v ≡ None → leaf_lose x v ≡ record v { reservation = unreserved x v.reservation }
  unfolding leaf_lose
  lose-none none = rw none refl

  lose-some : (e : LeafEntry) (s : LeafState) → leaf_entry x v ≡ Some e → e.state ≡ s → leaf_lose x v ≡ record (with_fate x (fate_by_loss v.sizes.width e.words (state_lost s)) v) { slot = slot_asking (asked_when_lost s) x v.slot; reservation = unreserved x v.reservation }
  unfolding leaf_lose
  lose-some e s is st = rw is (rw st refl)

  lost-as : (o : Option LeafState) (w : LeafValue) (seen : ChildFace) → state_at x v ≡ o → leaf_lose x v ≡ w → IsTold n x (leaf_node v) (leaf_node w) seen → seen ≡ face_lost (state_face x o v.slot copies) → IsLost
  lost-as o w seen state is told same = told-by (leaf_lose x v) w seen (face_lost (leaf_face x v)) is told (same ∙ ap face_lost (sym (face-known o state)))

  lost-from : (e : LeafEntry) (s : LeafState) → leaf_entry x v ≡ Some e → e.state ≡ s → IsLost
  lost-from e LeafState.Shared is st =
      let state = state-of e LeafState.Shared is st in
      lost-as (Some LeafState.Shared) _ _ state (lose-some e LeafState.Shared is st)
      (leaf-told n x v ends None v.slot v.replies (unreserved x v.reservation) ok (fated-ends n x v ok) (change None v.slot (unreserved x v.reservation) (λ w. cc) (not-asked (Some LeafState.Shared) state refl None) same-slot still-reserves))
      refl
  lost-from e LeafState.Exclusive is st =
      let state = state-of e LeafState.Exclusive is st in
      lost-as (Some LeafState.Exclusive) _ _ state (lose-some e LeafState.Exclusive is st)
      (leaf-told n x v ends None v.slot v.replies (unreserved x v.reservation) ok (fated-ends n x v ok) (change None v.slot (unreserved x v.reservation) (λ w. cc) (not-asked (Some LeafState.Exclusive) state refl None) same-slot still-reserves))
      refl
  lost-from e LeafState.Waiting is st =
      let state = state-of e LeafState.Waiting is st in
      let waits : state_waits (state_at x v) ≡ true = ap state_waits state in
      let asks : Option RequestValue = Some (record { kind = ReadTx; item = x }) in
      lost-as (Some LeafState.Waiting) _ _ state (lose-some e LeafState.Waiting is st)
      (leaf-told n x v (becomes LeafState.ReadingWaiting (blank v.sizes.width)) (Some LeafState.ReadingWaiting) asks v.replies (unreserved x v.reservation) ok (fated-as LeafState.ReadingWaiting LeafState.Waiting e.words state) (change (Some LeafState.ReadingWaiting) asks (unreserved x v.reservation) (λ w. waits) (slot-asks (Some LeafState.ReadingWaiting) ReadTx refl) (asks-now waits ReadTx) still-reserves))
      (rw (nat_eq-same x) refl)
  lost-from e LeafState.Reading is st =
      let state = state-of e LeafState.Reading is st in
      lost-as (Some LeafState.Reading) _ _ state (lose-some e LeafState.Reading is st)
      (leaf-told n x v (becomes LeafState.Reading (blank v.sizes.width)) (Some LeafState.Reading) v.slot v.replies (unreserved x v.reservation) ok (fated-as LeafState.Reading LeafState.Reading e.words state) (change (Some LeafState.Reading) v.slot (unreserved x v.reservation) (λ w. ap state_waits state) (slot-stays (Some LeafState.Reading) (λ kind asks suits. subst (λ o. request_suits kind o ≡ true) state suits)) same-slot still-reserves))
      refl
  lost-from e LeafState.ReadingWaiting is st =
      let state = state-of e LeafState.ReadingWaiting is st in
      lost-as (Some LeafState.ReadingWaiting) _ _ state (lose-some e LeafState.ReadingWaiting is st)
      (leaf-told n x v (becomes LeafState.ReadingWaiting (blank v.sizes.width)) (Some LeafState.ReadingWaiting) v.slot v.replies (unreserved x v.reservation) ok (fated-as LeafState.ReadingWaiting LeafState.ReadingWaiting e.words state) (change (Some LeafState.ReadingWaiting) v.slot (unreserved x v.reservation) (λ w. ap state_waits state) (slot-stays (Some LeafState.ReadingWaiting) (λ kind asks suits. subst (λ o. request_suits kind o ≡ true) state suits)) same-slot still-reserves))
      refl

  pub leaf_lose-told : IsLost
  leaf_lose-told = at (leaf_entry x v) refl where
    at : (o : Option LeafEntry) → leaf_entry x v ≡ o → IsLost
    at None none =
        let state : state_at x v ≡ None = ap (option_map entry_state) none in
        lost-as None _ _ state (lose-none none)
        (leaf-told n x v stays (state_at x v) v.slot v.replies (unreserved x v.reservation) ok (fated-stays n x v ok) (change (state_at x v) v.slot (unreserved x v.reservation) (λ w. w) (slot-stays (state_at x v) (λ kind asks suits. suits)) same-slot still-reserves))
        (ap (λ o. state_face x o v.slot copies) state)
    at (Some e) is = lost-from e e.state is refl

  -- ---- told data

  take_data-some : (words : List ℕ) (e : LeafEntry) (s : LeafState) → leaf_entry x v ≡ Some e → e.state ≡ s → leaf_take_data x words v ≡ record (with_fate x (fate_by v.sizes.width words (state_with_data s)) v) { slot = slot_asking (asked_with_data s) x v.slot }
  unfolding leaf_take_data
  take_data-some words e s is st = rw is (rw st refl)

  -- by the state of its entry, it waits for data, and a read isn't asked for any more
  pub reads-by : (s : LeafState) → state_at x v ≡ Some s → (leaf_face x v).reads ≡ true → (is_reading s ≡ true) × (slot_has ReadTx x v.slot ≡ false)
  reads-by s is reads =
      let h : (is_reading s && not (slot_has ReadTx x v.slot)) ≡ true = ap (λ (f : ChildFace). f.reads) (sym (face-known (Some s) is)) ∙ reads in
      let parts = and_parts (is_reading s) (not (slot_has ReadTx x v.slot)) h in
      (parts.0, not-true (slot_has ReadTx x v.slot) parts.1)

  erases-by : (s : LeafState) → state_at x v ≡ Some s → (leaf_face x v).erases ≡ true → (is_upgrading s ≡ true) × (slot_has EraseTx x v.slot ≡ false)
  erases-by s is erases =
      let h : (is_upgrading s && not (slot_has EraseTx x v.slot)) ≡ true = ap (λ (f : ChildFace). f.erases) (sym (face-known (Some s) is)) ∙ erases in
      let parts = and_parts (is_upgrading s) (not (slot_has EraseTx x v.slot)) h in
      (parts.0, not-true (slot_has EraseTx x v.slot) parts.1)

  -- a request of the item suits no state that reads, where a read isn't asked for
  pub read-asked : (s : LeafState) → is_reading s ≡ true → slot_has ReadTx x v.slot ≡ false → (kind : TxKind) → v.slot ≡ Some (record { kind = kind; item = x }) → request_suits kind (Some s) ≡ true → ⊥
  read-asked s reading free TxKind.ReadTx is suits =
      let asked : slot_has ReadTx x v.slot ≡ true = ap (slot_has ReadTx x) is ∙ nat_eq-same x in
      cc
  read-asked LeafState.Shared reading free TxKind.EraseTx is suits = cc
  read-asked LeafState.Exclusive reading free TxKind.EraseTx is suits = cc
  read-asked LeafState.Waiting reading free TxKind.EraseTx is suits = cc
  read-asked LeafState.Reading reading free TxKind.EraseTx is suits = cc
  read-asked LeafState.ReadingWaiting reading free TxKind.EraseTx is suits = cc
  read-asked s reading free TxKind.DataTx is suits = cc
  read-asked s reading free TxKind.ExclusiveTx is suits = cc
  read-asked s reading free TxKind.InjectTx is suits = cc
  read-asked s reading free TxKind.OutTx is suits = cc

  erase-asked : slot_has EraseTx x v.slot ≡ false → (kind : TxKind) → v.slot ≡ Some (record { kind = kind; item = x }) → request_suits kind (Some LeafState.Waiting) ≡ true → ⊥
  erase-asked free TxKind.EraseTx is suits =
      let asked : slot_has EraseTx x v.slot ≡ true = ap (slot_has EraseTx x) is ∙ nat_eq-same x in
      cc
  erase-asked free TxKind.ReadTx is suits = cc
  erase-asked free TxKind.DataTx is suits = cc
  erase-asked free TxKind.ExclusiveTx is suits = cc
  erase-asked free TxKind.InjectTx is suits = cc
  erase-asked free TxKind.OutTx is suits = cc

  abbrev TakesData : List ℕ → Type 0
  TakesData words = IsTold n x (leaf_node v) (leaf_node (leaf_take_data x words v)) (child_seen Hold.Shared false false copies false)

  data-from : (words : List ℕ) (e : LeafEntry) (s : LeafState) → leaf_entry x v ≡ Some e → e.state ≡ s → (leaf_face x v).reads ≡ true → TakesData words
  data-from words e LeafState.Shared is st reads = let r = reads-by LeafState.Shared (state-of e LeafState.Shared is st) reads in let no : false ≡ true = r.0 in cc
  data-from words e LeafState.Exclusive is st reads = let r = reads-by LeafState.Exclusive (state-of e LeafState.Exclusive is st) reads in let no : false ≡ true = r.0 in cc
  data-from words e LeafState.Waiting is st reads = let r = reads-by LeafState.Waiting (state-of e LeafState.Waiting is st) reads in let no : false ≡ true = r.0 in cc
  data-from words e LeafState.Reading is st reads =
      let state = state-of e LeafState.Reading is st in
      let free = reads-by LeafState.Reading state reads in
      told-by (leaf_take_data x words v) _ _ _ (take_data-some words e LeafState.Reading is st)
      (leaf-told n x v (becomes LeafState.Shared words) (Some LeafState.Shared) v.slot v.replies v.reservation ok (fated-as LeafState.Shared LeafState.Reading words state) (change (Some LeafState.Shared) v.slot v.reservation (λ w. cc) (slot-stays (Some LeafState.Shared) (λ kind asks suits. absurd (read-asked LeafState.Reading refl free.1 kind asks (subst (λ o. request_suits kind o ≡ true) state suits)))) same-slot (ok.each reservation_fits)))
      refl
  data-from words e LeafState.ReadingWaiting is st reads =
      let state = state-of e LeafState.ReadingWaiting is st in
      let waits : state_waits (state_at x v) ≡ true = ap state_waits state in
      let asks : Option RequestValue = Some (record { kind = EraseTx; item = x }) in
      told-by (leaf_take_data x words v) _ _ _ (take_data-some words e LeafState.ReadingWaiting is st)
      (leaf-told n x v (becomes LeafState.Waiting words) (Some LeafState.Waiting) asks v.replies v.reservation ok (fated-as LeafState.Waiting LeafState.ReadingWaiting words state) (change (Some LeafState.Waiting) asks v.reservation (λ w. waits) (slot-asks (Some LeafState.Waiting) EraseTx refl) (asks-now waits EraseTx) (ok.each reservation_fits)))
      (rw (nat_eq-same x) refl)

  -- an item without an entry has nothing granted
  pub nothing-granted : leaf_entry x v ≡ None → leaf_face x v ≡ child_seen Hold.Invalid false false copies false
  nothing-granted none = face-known None (ap (option_map entry_state) none)

  pub leaf_take_data-told : (words : List ℕ) → (leaf_face x v).reads ≡ true → TakesData words
  leaf_take_data-told words reads = at (leaf_entry x v) refl where
    at : (o : Option LeafEntry) → leaf_entry x v ≡ o → TakesData words
    at None none = let no : false ≡ true = ap (λ (f : ChildFace). f.reads) (sym (nothing-granted none)) ∙ reads in cc
    at (Some e) is = data-from words e e.state is refl reads

  -- ---- told exclusive

  take_exclusive-some : (e : LeafEntry) (s : LeafState) → leaf_entry x v ≡ Some e → e.state ≡ s → leaf_take_exclusive x v ≡ with_fate x (fate_by v.sizes.width e.words (state_with_exclusive s)) v
  unfolding leaf_take_exclusive
  take_exclusive-some e s is st = rw is (rw st refl)

  abbrev TakesExclusive : Type 0
  TakesExclusive = IsTold n x (leaf_node v) (leaf_node (leaf_take_exclusive x v)) (child_seen Hold.Exclusive false false copies false)

  exclusive-from : (e : LeafEntry) (s : LeafState) → leaf_entry x v ≡ Some e → e.state ≡ s → (leaf_face x v).erases ≡ true → TakesExclusive
  exclusive-from e LeafState.Shared is st erases = let r = erases-by LeafState.Shared (state-of e LeafState.Shared is st) erases in let no : false ≡ true = r.0 in cc
  exclusive-from e LeafState.Exclusive is st erases = let r = erases-by LeafState.Exclusive (state-of e LeafState.Exclusive is st) erases in let no : false ≡ true = r.0 in cc
  exclusive-from e LeafState.Reading is st erases = let r = erases-by LeafState.Reading (state-of e LeafState.Reading is st) erases in let no : false ≡ true = r.0 in cc
  exclusive-from e LeafState.ReadingWaiting is st erases = let r = erases-by LeafState.ReadingWaiting (state-of e LeafState.ReadingWaiting is st) erases in let no : false ≡ true = r.0 in cc
  exclusive-from e LeafState.Waiting is st erases =
      let state = state-of e LeafState.Waiting is st in
      let free = erases-by LeafState.Waiting state erases in
      told-by (leaf_take_exclusive x v) _ _ _ (take_exclusive-some e LeafState.Waiting is st)
      (leaf-told n x v (becomes LeafState.Exclusive e.words) (Some LeafState.Exclusive) v.slot v.replies v.reservation ok (fated-as LeafState.Exclusive LeafState.Waiting e.words state) (change (Some LeafState.Exclusive) v.slot v.reservation (λ w. cc) (slot-stays (Some LeafState.Exclusive) (λ kind asks suits. absurd (erase-asked free.1 kind asks (subst (λ o. request_suits kind o ≡ true) state suits)))) same-slot (ok.each reservation_fits)))
      refl

  pub leaf_take_exclusive-told : (leaf_face x v).erases ≡ true → TakesExclusive
  leaf_take_exclusive-told erases = at (leaf_entry x v) refl where
    at : (o : Option LeafEntry) → leaf_entry x v ≡ o → TakesExclusive
    at None none = let no : false ≡ true = ap (λ (f : ChildFace). f.erases) (sym (nothing-granted none)) ∙ erases in cc
    at (Some e) is = exclusive-from e e.state is refl erases

  -- ---- told to answer a read

  answer-some : (e : LeafEntry) (s t : LeafState) → leaf_entry x v ≡ Some e → e.state ≡ s → state_answered s ≡ Some t → leaf_answer x v ≡ record (with_fate x (becomes t (words_in t v.sizes.width e.words)) v) { replies = v.replies ++ record { item = x; words = e.words } ∷ [] }
  unfolding leaf_answer
  answer-some e s t is st to = rw is (rw st (rw to refl))

  abbrev Answers : Type 0
  Answers = IsTold n x (leaf_node v) (leaf_node (leaf_answer x v)) (record (leaf_face x v) { hold = Hold.Shared; replies = copies + 1 })

  -- one reply more
  replied : (o : Option LeafState) (words : List ℕ) → x < n → leaf_replies_full v ≡ false → (state_waits o ≡ true → state_waits (state_at x v) ≡ true) → SlotSuits x o v v.slot → LeafChange n x v o v.slot (v.replies ++ record { item = x; words = words } ∷ []) v.reservation
  replied o words known room waits suits =
      let place : length v.replies < v.sizes.reply_room = leb-false _ _ room in
      record {
        waits = waits;
        suits = suits;
        asks = same-slot;
        copies = pass-pushed (copy_fits n) v.replies _ (ok.each leaf_replies) (lt-test x n known);
        room = omega (arith, length-append v.replies (record { item = x; words = words } ∷ []));
        copies_of = λ y ne. words-pushed_other y v.replies _ ne;
        reserves = ok.each reservation_fits;
      }

  one-more : (words : List ℕ) → length (words_of_item x (v.replies ++ record { item = x; words = words } ∷ [])) ≡ copies + 1
  one-more words = omega (arith, ap length (words-pushed x v.replies (record { item = x; words = words }) refl), length-append (words_of_item x v.replies) (words ∷ []))

  answered-as : (e : LeafEntry) (s t : LeafState) → leaf_entry x v ≡ Some e → e.state ≡ s → state_answered s ≡ Some t → x < n → leaf_replies_full v ≡ false → (state_waits (Some t) ≡ true → state_waits (Some s) ≡ true) → ((kind : TxKind) → request_suits kind (Some s) ≡ true → request_suits kind (Some t) ≡ true) → ((k : ℕ) → state_face x (Some t) v.slot k ≡ record (state_face x (Some s) v.slot copies) { hold = Hold.Shared; replies = k }) → Answers
  answered-as e s t is st to known room waits suits seen =
      let state = state-of e s is st in
      told-by (leaf_answer x v) _ _ _ (answer-some e s t is st to)
      (leaf-told n x v (becomes t (words_in t v.sizes.width e.words)) (Some t) v.slot (v.replies ++ record { item = x; words = e.words } ∷ []) v.reservation ok (fated-as t s e.words state) (replied (Some t) e.words known room (λ w. ap state_waits state ∙ waits w) (slot-stays (Some t) (λ kind asks suit. suits kind (subst (λ o. request_suits kind o ≡ true) state suit)))))
      (ap (state_face x (Some t) v.slot) (one-more e.words) ∙ (seen (copies + 1) ∙ ap (λ (f : ChildFace). (let g : ChildFace = record f { hold = Hold.Shared; replies = copies + 1 } in g)) (sym (face-known (Some s) state))))

  answered-from : (e : LeafEntry) (s : LeafState) → leaf_entry x v ≡ Some e → e.state ≡ s → x < n → is_held (leaf_face x v).hold ≡ true → leaf_replies_full v ≡ false → Answers
  answered-from e LeafState.Shared is st known held room = answered-as e LeafState.Shared LeafState.Shared is st refl known room (λ w. w) (λ kind suits. suits) (λ k. refl)
  answered-from e LeafState.Exclusive is st known held room = answered-as e LeafState.Exclusive LeafState.Shared is st refl known room (λ w. w) (λ kind suits. let w = suits-waits kind (Some LeafState.Exclusive) suits in cc) (λ k. refl)
  answered-from e LeafState.Waiting is st known held room = answered-as e LeafState.Waiting LeafState.Waiting is st refl known room (λ w. w) (λ kind suits. suits) (λ k. refl)
  answered-from e LeafState.Reading is st known held room = let no : false ≡ true = ap (λ (f : ChildFace). is_held f.hold) (sym (face-known (Some LeafState.Reading) (state-of e LeafState.Reading is st))) ∙ held in cc
  answered-from e LeafState.ReadingWaiting is st known held room = let no : false ≡ true = ap (λ (f : ChildFace). is_held f.hold) (sym (face-known (Some LeafState.ReadingWaiting) (state-of e LeafState.ReadingWaiting is st))) ∙ held in cc

  pub leaf_answer-told : x < n → is_held (leaf_face x v).hold ≡ true → leaf_replies_full v ≡ false → Answers
  leaf_answer-told known held room = at (leaf_entry x v) refl where
    at : (o : Option LeafEntry) → leaf_entry x v ≡ o → Answers
    at None none = let no : false ≡ true = ap (λ (f : ChildFace). is_held f.hold) (sym (nothing-granted none)) ∙ held in cc
    at (Some e) is = answered-from e e.state is refl known held room
