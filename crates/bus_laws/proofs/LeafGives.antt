-- What a bus takes from a leaf, and an inject that it tells a leaf, keep the leaf's rules, and what is seen of it then.
use Rattle.std.proofs.Common.{◌≡◌, ◌≢◌, ℕ, zero, suc, ◌-◌, ◌<◌, Bool, true, false, List, [], ◌∷◌, length, map, Option, Some, None, refl, sym, ap, subst, ◌∙◌, arith, ◌⊎◌, inl, inr}
use Rattle.std.specs.Prelude.{not, ◌&&◌, ◌||◌, nat_eq, filter, option_map, is_none, is_some, slice_get, slice_index_or, if◌then◌else◌}
use Rattle.std.specs.List.{All, list_any}
use Rattle.std.proofs.Math.Bool.{and-false}
use Rattle.std.proofs.lemmas.Bool.{ne_eqb, eqb-true, eqb-false, and_parts, or_parts}
use Rattle.std.proofs.lemmas.List.Elements.{All-nil, All-cons, All-head, All-tail}
use Rattle.bus_laws.specs.DdmTypes.declared.answers.TxKind.{TxKind}
use Rattle.bus_laws.specs.DdmTypes.declared.answers.TxKind.TheVariants.{ReadTx, EraseTx}
use Rattle.bus_laws.specs.DdmTypes.declared.sizes.Hold.{Hold}
use Rattle.bus_laws.specs.DdmTypes.declared.sizes.LeafState.{LeafState}
use Rattle.bus_laws.specs.TreeModel.State.Kinds.{is_kind}
use Rattle.bus_laws.specs.TreeModel.State.Lists.{rest_of, first_of}
use Rattle.bus_laws.specs.TreeModel.State.Shape.{are_distinct}
use Rattle.bus_laws.specs.TreeModel.State.States.{is_held, is_reading, state_with_inject, may_leave}
use Rattle.bus_laws.specs.TreeModel.State.Values.{RequestValue, CopyValue, BufferValue, LeafValue, leaf_node}
use Rattle.bus_laws.specs.TreeModel.State.Leaf.{stays, ends, becomes, enters, with_fate, slot_has, is_request, words_of_item, LeafEntry, leaf_entry, entry_at, buffered, buffer_item, entry_state, state_at, slot_struck, unreserved, fate_by, leaf_take_inject, leaf_give_up, leaf_room, free_way, way_at, may_leave_buffer, leaf_leaving}
use Rattle.bus_laws.proofs.TreeModel.LeafRooms.{leaf_within-facts, rest_of-length}
use Rattle.bus_laws.proofs.TreeModel.Tests.{not-true}
use Rattle.tree_rules.specs.Bus.Faces.{ChildFace, leaf_face}
use Rattle.tree_rules.specs.Bus.Own.{leaf_lists, slot_fits, leaf_replies, reservation_fits, IsLeafOk, state_waits, request_suits, slot_suits, copy_fits}
use Rattle.bus_laws.proofs.HartFacts.{entries-from_rules, state-known}
use Rattle.bus_laws.proofs.Lists.{pass-rest, chosen-get}
use Rattle.bus_laws.proofs.ItemLists.{nat_eq-same, words-first, words-first_other}
use Rattle.bus_laws.proofs.DirParts.{child_seen}
use Rattle.bus_laws.proofs.LeafTold.{fated-stays, fated-ends, fated-enters, SlotSuits, LeafChange, state_face, leaf_face-is, leaf-told}
use Rattle.bus_laws.proofs.LeafCalls.{words-suit, suits-waits, slot-stays, slot-none, change, still-reserves, told-by, face-known, state-of, same-slot, unasked, not-asked, fated-as, reads-by, read-asked, nothing-granted}
use Rattle.bus_laws.proofs.Told.{IsTold}

read-kind : (kind : TxKind) → is_kind ReadTx kind ≡ true → kind ≡ ReadTx
read-kind TxKind.ReadTx h = refl
read-kind TxKind.DataTx h = cc
read-kind TxKind.EraseTx h = cc
read-kind TxKind.ExclusiveTx h = cc
read-kind TxKind.InjectTx h = cc
read-kind TxKind.OutTx h = cc

-- ---- a copy in the buffer that may leave

pub get-filter : {X : Type 0} (t : X → Bool) (P : X → Type 0) (xs : List X) (k : ℕ) (e : X) → slice_get (filter t xs) k ≡ Some e → All P xs → P e × (t e ≡ true)
get-filter t P [] k e got all = cc
get-filter t P (x ∷ xs) k e got all = at (t x) refl k (subst (λ ys. slice_get ys k ≡ Some e) refl got) (λ j rest. get-filter t P xs j e rest (All-tail P x xs all)) where
  at : (b : Bool) → t x ≡ b → (k : ℕ) → slice_get (if◌then◌else◌ b (x ∷ filter t xs) (filter t xs)) k ≡ Some e → ((j : ℕ) → slice_get (filter t xs) j ≡ Some e → P e × (t e ≡ true)) → P e × (t e ≡ true)
  at true is zero got rest =
      let same : x ≡ e = cc in
      subst (λ y. P y × (t y ≡ true)) same (All-head P x xs all, is)
  at true is (suc k) got rest = rest k got
  at false is k got rest = rest k got

others-differ : (x : ℕ) (es : List BufferValue) → list_any (nat_eq x) (map buffer_item es) ≡ false → All (λ (f : BufferValue). nat_eq x f.item ≡ false) es
others-differ x [] h = All-nil (λ (f : BufferValue). nat_eq x f.item ≡ false)
others-differ x (e ∷ es) h =
    let parts = or_parts (nat_eq x e.item) (list_any (nat_eq x) (map buffer_item es)) h in
    All-cons (λ (f : BufferValue). nat_eq x f.item ≡ false) e es parts.0 (others-differ x es parts.1)

behind-found : (b f : BufferValue) (bs : List BufferValue) → nat_eq b.item f.item ≡ false → buffered f.item bs ≡ Some f → buffered f.item (b ∷ bs) ≡ Some f
behind-found b f bs other found =
    let back : nat_eq f.item b.item ≡ false = ne_eqb _ _ (λ same. eqb-false _ _ other (sym same)) in
    rw back found

-- each entry is the one of its item
pub each-buffered : (es : List BufferValue) → are_distinct (map buffer_item es) ≡ true → All (λ (e : BufferValue). buffered e.item es ≡ Some e) es
each-buffered [] once = All-nil (λ (e : BufferValue). buffered e.item [] ≡ Some e)
each-buffered (b ∷ bs) once =
    let parts = and_parts (not (list_any (nat_eq b.item) (map buffer_item bs))) (are_distinct (map buffer_item bs)) once in
    let differ = others-differ b.item bs (not-true _ parts.0) in
    let rest = each-buffered bs parts.1 in
    All-cons (λ (e : BufferValue). buffered e.item (b ∷ bs) ≡ Some e) b bs (rw (nat_eq-same b.item) refl) (λ k d l. behind-found b (slice_index_or bs k d) bs (differ k d l) (rest k d l))

-- its entry has a state that may leave
record MayLeave (x : ℕ) (v : LeafValue) : Type 0 where
  state : LeafState
  is : state_at x v ≡ Some state
  may : may_leave state ≡ true

may-leave : (n choice x : ℕ) (v : LeafValue) → IsLeafOk n v → leaf_leaving choice v.buffer ≡ Some x → MayLeave x v
unfolding leaf_leaving entry_at
may-leave n choice x v ok leaves =
    let has = entries-from_rules n v ok in
    let found = chosen-get buffer_item choice x (filter may_leave_buffer v.buffer) leaves in
    let e : BufferValue = found.0 in
    let held = get-filter may_leave_buffer (λ (f : BufferValue). (way_at f.item v.ways ≡ None) × (buffered f.item v.buffer ≡ Some f)) v.buffer found.1.0 e found.1.1 (λ k d l. ((has.aside k d l).alone, each-buffered v.buffer has.once k d l)) in
    let no_way : way_at e.item v.ways ≡ None = held.0.0 in
    let there : buffered e.item v.buffer ≡ Some e = held.0.1 in
    let state : state_at e.item v ≡ Some e.state = rw (no_way, there) refl in
    record { state = e.state; is = subst (λ i. state_at i v ≡ Some e.state) found.2 state; may = held.1 }

module _ (n x : ℕ) (v : LeafValue) (ok : IsLeafOk n v) where
  abbrev copies : ℕ
  copies = length (words_of_item x v.replies)

  -- ---- told inject

  -- where a read of the item is asked for, it waits for data
  asked-reads : slot_has ReadTx x v.slot ≡ true → request_suits ReadTx (state_at x v) ≡ true
  asked-reads asks = at v.slot refl asks where
    at : (o : Option RequestValue) → v.slot ≡ o → slot_has ReadTx x o ≡ true → request_suits ReadTx (state_at x v) ≡ true
    at None is has = cc
    at (Some r) is has =
        let parts = and_parts (is_kind ReadTx r.kind) (nat_eq x r.item) has in
        let kind : r.kind ≡ ReadTx = read-kind r.kind parts.0 in
        let item : r.item ≡ x = sym (eqb-true x r.item parts.1) in
        let suits : request_suits r.kind (state_at r.item v) ≡ true = subst (λ o. slot_suits v o ≡ true) is (ok.each slot_fits) in
        subst (λ k. request_suits k (state_at x v) ≡ true) kind (subst (λ i. request_suits r.kind (state_at i v) ≡ true) item suits)

  struck-other : (y : ℕ) (kind : TxKind) → y ≢ x → slot_has kind y (slot_struck x v.slot) ≡ slot_has kind y v.slot
  struck-other y kind ne = at v.slot where
    none : (r : RequestValue) → is_request ReadTx x r ≡ true → is_request kind y r ≡ false
    none r has =
        let parts = and_parts (is_kind ReadTx r.kind) (nat_eq x r.item) has in
        let item : x ≡ r.item = eqb-true x r.item parts.1 in
        let other : nat_eq y r.item ≡ false = ne_eqb y r.item (λ e. ne (e ∙ sym item)) in
        rw other (and-false (is_kind kind r.kind))

    at : (o : Option RequestValue) → slot_has kind y (slot_struck x o) ≡ slot_has kind y o
    at None = refl
    at (Some r) = by (is_request ReadTx x r) refl where
      by : (b : Bool) → is_request ReadTx x r ≡ b → slot_has kind y (if◌then◌else◌ b None (Some r)) ≡ is_request kind y r
      by true has = sym (none r has)
      by false has = refl

  struck-suits : (o : Option LeafState) → (slot_has ReadTx x v.slot ≡ false → SlotSuits x o v v.slot) → SlotSuits x o v (slot_struck x v.slot)
  struck-suits o still = at (slot_has ReadTx x v.slot) refl where
    at : (b : Bool) → slot_has ReadTx x v.slot ≡ b → SlotSuits x o v (if◌then◌else◌ b None v.slot)
    at true has = slot-none n x v ok o
    at false has = still has

  abbrev TakesInject : List ℕ → Type 0
  TakesInject words = IsTold n x (leaf_node v) (leaf_node (leaf_take_inject x words v)) (child_seen Hold.Exclusive false false copies false)

  take_inject-some : (words : List ℕ) (e : LeafEntry) (s : LeafState) → leaf_entry x v ≡ Some e → e.state ≡ s → leaf_take_inject x words v ≡ record (with_fate x (fate_by v.sizes.width words (state_with_inject s)) v) { slot = slot_struck x v.slot }
  unfolding leaf_take_inject
  take_inject-some words e s is st = rw is (rw st refl)

  take_inject-none : (words : List ℕ) (way : ℕ) → leaf_entry x v ≡ None → free_way v.sizes x v.ways ≡ Some way → leaf_take_inject x words v ≡ record (with_fate x (enters way LeafState.Exclusive words) v) { slot = slot_struck x v.slot }
  unfolding leaf_take_inject
  take_inject-none words way none free = rw none (rw free refl)

  injected : (words : List ℕ) (e : LeafEntry) (s : LeafState) → leaf_entry x v ≡ Some e → e.state ≡ s → is_reading s ≡ true → state_with_inject s ≡ Some LeafState.Exclusive → TakesInject words
  injected words e s is st reading becomes_e =
      let state = state-of n x v ok e s is st in
      told-by n x v ok (leaf_take_inject x words v) _ _ _ (take_inject-some words e s is st ∙ ap (λ o. record (with_fate x (fate_by v.sizes.width words o) v) { slot = slot_struck x v.slot }) becomes_e)
      (leaf-told n x v (becomes LeafState.Exclusive words) (Some LeafState.Exclusive) (slot_struck x v.slot) v.replies v.reservation ok (fated-as n x v ok LeafState.Exclusive s words state) (change n x v ok (Some LeafState.Exclusive) (slot_struck x v.slot) v.reservation (λ w. cc) (struck-suits (Some LeafState.Exclusive) (λ free. slot-stays n x v ok (Some LeafState.Exclusive) (λ kind asks suits. absurd (read-asked n x v ok s reading free kind asks (subst (λ o. request_suits kind o ≡ true) state suits))))) struck-other (ok.each reservation_fits)))
      refl

  -- it waits for data, or has no entry and a free way
  abbrev Takes : Type 0
  Takes = ((leaf_face x v).reads ≡ true) ⊎ (leaf_room x v ≡ true)

  room-parts : leaf_room x v ≡ true → (slot_has ReadTx x v.slot ≡ true) ⊎ ((is_none (leaf_entry x v) ≡ true) × (is_some (free_way v.sizes x v.ways) ≡ true))
  unfolding leaf_room
  room-parts room = at (slot_has ReadTx x v.slot) refl room where
    at : (b : Bool) → slot_has ReadTx x v.slot ≡ b → (b || (is_none (leaf_entry x v) && is_some (free_way v.sizes x v.ways))) ≡ true → (slot_has ReadTx x v.slot ≡ true) ⊎ ((is_none (leaf_entry x v) ≡ true) × (is_some (free_way v.sizes x v.ways) ≡ true))
    at true is h = inl is
    at false is h = let parts = and_parts (is_none (leaf_entry x v)) (is_some (free_way v.sizes x v.ways)) h in inr (parts.0, parts.1)

  wants-read : (e : LeafEntry) (s : LeafState) → leaf_entry x v ≡ Some e → e.state ≡ s → Takes → is_reading s ≡ true
  wants-read e s is st (inl reads) = (reads-by n x v ok s (state-of n x v ok e s is st) reads).0
  wants-read e s is st (inr room) =
      elim (room-parts room) as (λ _. is_reading s ≡ true) [
        | inl asks ↦ subst (λ o. request_suits ReadTx o ≡ true) (state-of n x v ok e s is st) (asked-reads asks)
        | inr both ↦ (let no : false ≡ true = rw is at both.0 in cc)
      ]

  injected-from : (words : List ℕ) (e : LeafEntry) (s : LeafState) → leaf_entry x v ≡ Some e → e.state ≡ s → is_reading s ≡ true → TakesInject words
  injected-from words e LeafState.Shared is st reading = cc
  injected-from words e LeafState.Exclusive is st reading = cc
  injected-from words e LeafState.Waiting is st reading = cc
  injected-from words e LeafState.Reading is st reading = injected words e LeafState.Reading is st refl refl
  injected-from words e LeafState.ReadingWaiting is st reading = injected words e LeafState.ReadingWaiting is st refl refl

  comes-in : (words : List ℕ) (way : ℕ) → x < n → leaf_entry x v ≡ None → free_way v.sizes x v.ways ≡ Some way → TakesInject words
  comes-in words way known none free =
      let state : state_at x v ≡ None = ap (option_map entry_state) none in
      told-by n x v ok (leaf_take_inject x words v) _ _ _ (take_inject-none words way none free)
      (leaf-told n x v (enters way LeafState.Exclusive words) (Some LeafState.Exclusive) (slot_struck x v.slot) v.replies v.reservation ok (fated-enters n x v ok LeafState.Exclusive words way known none free (words-suit LeafState.Exclusive v.sizes.width words)) (change n x v ok (Some LeafState.Exclusive) (slot_struck x v.slot) v.reservation (λ w. cc) (struck-suits (Some LeafState.Exclusive) (λ _. not-asked n x v ok None state refl (Some LeafState.Exclusive))) struck-other (ok.each reservation_fits)))
      refl

  free-known : (words : List ℕ) → x < n → leaf_entry x v ≡ None → (o : Option ℕ) → free_way v.sizes x v.ways ≡ o → is_some o ≡ true → TakesInject words
  free-known words known none None is some = cc
  free-known words known none (Some way) is some = comes-in words way known none is

  absent-takes : (words : List ℕ) → x < n → leaf_entry x v ≡ None → Takes → TakesInject words
  absent-takes words known none (inl reads) = let no : false ≡ true = ap (λ (f : ChildFace). f.reads) (sym (nothing-granted n x v ok none)) ∙ reads in cc
  absent-takes words known none (inr room) =
      elim (room-parts room) as (λ _. TakesInject words) [
        | inl asks ↦ (let no : request_suits ReadTx None ≡ true = subst (λ o. request_suits ReadTx o ≡ true) (ap (option_map entry_state) none) (asked-reads asks) in cc)
        | inr both ↦ free-known words known none (free_way v.sizes x v.ways) refl both.1
      ]

  pub leaf_take_inject-told : (words : List ℕ) → x < n → Takes → TakesInject words
  leaf_take_inject-told words known takes = at (leaf_entry x v) refl where
    at : (o : Option LeafEntry) → leaf_entry x v ≡ o → TakesInject words
    at None none = absent-takes words known none takes
    at (Some e) is = injected-from words e e.state is refl (wants-read e e.state is refl takes)

  -- ---- a request is granted

  stays-told : (slot : Option RequestValue) (replies : List CopyValue) → LeafChange n x v (state_at x v) slot replies v.reservation → IsTold n x (leaf_node v) (leaf_node (record v { slot = slot; replies = replies })) (state_face x (state_at x v) slot (length (words_of_item x replies)))
  stays-told slot replies c = leaf-told n x v stays (state_at x v) slot replies v.reservation ok (fated-stays n x v ok) c

  -- it is told so, and was seen so before
  pub record IsGranted (hold : Hold) (reads erases : Bool) : Type 0 where
    pub told : IsTold n x (leaf_node v) (leaf_node (record v { slot = None })) (child_seen hold reads erases copies false)
    pub was : leaf_face x v ≡ child_seen hold false false copies false

  granted-as : (kind : TxKind) (hold : Hold) (reads erases : Bool) → v.slot ≡ Some (record { kind = kind; item = x }) → state_face x (state_at x v) None copies ≡ child_seen hold reads erases copies false → state_face x (state_at x v) v.slot copies ≡ child_seen hold false false copies false → IsGranted hold reads erases
  granted-as kind hold reads erases asks after before = record {
    told = subst (λ f. IsTold n x (leaf_node v) (leaf_node (record v { slot = None })) f) after (stays-told None v.replies (change n x v ok (state_at x v) None v.reservation (λ w. w) (slot-none n x v ok (state_at x v)) (unasked n x v ok kind asks) (ok.each reservation_fits)));
    was = leaf_face-is x v ∙ before;
  }

  suits-asked : (kind : TxKind) → v.slot ≡ Some (record { kind = kind; item = x }) → request_suits kind (state_at x v) ≡ true
  suits-asked kind asks = subst (λ o. slot_suits v o ≡ true) asks (ok.each slot_fits)

  read-before : (o : Option LeafState) (slot : Option RequestValue) → request_suits ReadTx o ≡ true → slot ≡ Some (record { kind = ReadTx; item = x }) → state_face x o slot copies ≡ child_seen Hold.Invalid false false copies false
  read-before None slot suits asks = cc
  read-before (Some LeafState.Shared) slot suits asks = cc
  read-before (Some LeafState.Exclusive) slot suits asks = cc
  read-before (Some LeafState.Waiting) slot suits asks = cc
  read-before (Some LeafState.Reading) slot suits asks = rw asks (rw (nat_eq-same x) refl)
  read-before (Some LeafState.ReadingWaiting) slot suits asks = rw asks (rw (nat_eq-same x) refl)

  read-after : (o : Option LeafState) → request_suits ReadTx o ≡ true → state_face x o None copies ≡ child_seen Hold.Invalid true false copies false
  read-after None suits = cc
  read-after (Some LeafState.Shared) suits = cc
  read-after (Some LeafState.Exclusive) suits = cc
  read-after (Some LeafState.Waiting) suits = cc
  read-after (Some LeafState.Reading) suits = refl
  read-after (Some LeafState.ReadingWaiting) suits = refl

  erase-before : (o : Option LeafState) (slot : Option RequestValue) → request_suits EraseTx o ≡ true → slot ≡ Some (record { kind = EraseTx; item = x }) → state_face x o slot copies ≡ child_seen Hold.Shared false false copies false
  erase-before None slot suits asks = cc
  erase-before (Some LeafState.Shared) slot suits asks = cc
  erase-before (Some LeafState.Exclusive) slot suits asks = cc
  erase-before (Some LeafState.Waiting) slot suits asks = rw asks (rw (nat_eq-same x) refl)
  erase-before (Some LeafState.Reading) slot suits asks = cc
  erase-before (Some LeafState.ReadingWaiting) slot suits asks = cc

  erase-after : (o : Option LeafState) → request_suits EraseTx o ≡ true → state_face x o None copies ≡ child_seen Hold.Shared false true copies false
  erase-after None suits = cc
  erase-after (Some LeafState.Shared) suits = cc
  erase-after (Some LeafState.Exclusive) suits = cc
  erase-after (Some LeafState.Waiting) suits = refl
  erase-after (Some LeafState.Reading) suits = cc
  erase-after (Some LeafState.ReadingWaiting) suits = cc

  pub leaf_read-taken : v.slot ≡ Some (record { kind = ReadTx; item = x }) → IsGranted Hold.Invalid true false
  leaf_read-taken asks =
      let suits = suits-asked ReadTx asks in
      granted-as ReadTx Hold.Invalid true false asks (read-after (state_at x v) suits) (read-before (state_at x v) v.slot suits asks)

  pub leaf_erase-taken : v.slot ≡ Some (record { kind = EraseTx; item = x }) → IsGranted Hold.Shared false true
  leaf_erase-taken asks =
      let suits = suits-asked EraseTx asks in
      granted-as EraseTx Hold.Shared false true asks (erase-after (state_at x v) suits) (erase-before (state_at x v) v.slot suits asks)

  -- who asks is one of the n items
  pub asks-known : (kind : TxKind) → v.slot ≡ Some (record { kind = kind; item = x }) → x < n
  asks-known kind asks = at (state_at x v) refl (suits-waits kind (state_at x v) (suits-asked kind asks)) where
    at : (o : Option LeafState) → state_at x v ≡ o → state_waits o ≡ true → x < n
    at None is waits = cc
    at (Some s) is waits = state-known n v.sizes v.ways v.buffer (entries-from_rules n v ok) x s is

  -- ---- a reply is taken

  pub leaf_reply-taken : (words : List ℕ) → first_of v.replies ≡ Some (record { item = x; words = words }) → IsTold n x (leaf_node v) (leaf_node (record v { replies = rest_of v.replies })) (record (leaf_face x v) { replies = copies - 1 })
  leaf_reply-taken words has =
      let w = leaf_within-facts n v (ok.each leaf_lists) in
      let fewer : length (words_of_item x (rest_of v.replies)) ≡ copies - 1 = omega (arith, ap length (words-first v.replies _ has)) in
      let told = stays-told v.slot (rest_of v.replies) (record {
        waits = λ w. w;
        suits = slot-stays n x v ok (state_at x v) (λ kind asks suits. suits);
        asks = same-slot n x v ok;
        copies = pass-rest (copy_fits n) v.replies (ok.each leaf_replies);
        room = omega (arith, rest_of-length v.replies, w.replies);
        copies_of = λ y ne. words-first_other y v.replies _ has ne;
        reserves = ok.each reservation_fits;
      }) in
      subst (λ f. IsTold n x (leaf_node v) (leaf_node (record v { replies = rest_of v.replies })) f) (ap (state_face x (state_at x v) v.slot) fewer ∙ ap (λ (f : ChildFace). (let g : ChildFace = record f { replies = copies - 1 } in g)) (sym (leaf_face-is x v))) told

  -- ---- the copy leaves

  -- it is one of the items, is told so, and was held
  pub record Leaves : Type 0 where
    pub known : x < n
    pub told : IsTold n x (leaf_node v) (leaf_node (leaf_give_up x v)) (child_seen Hold.Invalid false false copies false)
    pub held : is_held (leaf_face x v).hold ≡ true

  quiet-held : (s : LeafState) → may_leave s ≡ true → (state_waits (Some s) ≡ false) × (is_held (state_face x (Some s) v.slot copies).hold ≡ true)
  quiet-held LeafState.Shared may = (refl, refl)
  quiet-held LeafState.Exclusive may = (refl, refl)
  quiet-held LeafState.Waiting may = cc
  quiet-held LeafState.Reading may = cc
  quiet-held LeafState.ReadingWaiting may = cc

  pub leaf_give_up-told : (choice : ℕ) → leaf_leaving choice v.buffer ≡ Some x → Leaves
  leaf_give_up-told choice leaves =
      let m = may-leave n choice x v ok leaves in
      let q = quiet-held m.state m.may in
      record {
        known = state-known n v.sizes v.ways v.buffer (entries-from_rules n v ok) x m.state m.is;
        told = leaf-told n x v ends None v.slot v.replies (unreserved x v.reservation) ok (fated-ends n x v ok) (change n x v ok None v.slot (unreserved x v.reservation) (λ w. cc) (not-asked n x v ok (Some m.state) m.is q.0 None) (same-slot n x v ok) (still-reserves n x v ok));
        held = ap (λ (f : ChildFace). is_held f.hold) (face-known n x v ok (Some m.state) m.is) ∙ q.1;
      }
