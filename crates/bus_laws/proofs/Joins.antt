-- A request to read joins a read that is under way.
-- Letters: c is the child that asks, x the item, k the bits before, ms the children after.
use Rattle.std.proofs.Common.{◌≡◌, ◌≢◌, ℕ, ◌^◌, ◌<◌, Bool, true, false, List, length, Some, refl, sym, ap, subst, ◌∙◌, arith}
use Rattle.std.specs.Prelude.{not, ◌&&◌, ◌||◌, nat_eq, nat_lt}
use Rattle.std.specs.List.{AllByRecursion}
use native.Mathlib.Decide.{ℕ_discrete}
use Rattle.std.specs.Cmp.Derive.{both_true}
use Rattle.std.proofs.lemmas.Bool.{and_parts, or_parts, eqb-false}
use Rattle.std.proofs.lemmas.Nat.{or_lt, pow_below}
use Rattle.bus_laws.specs.DdmTypes.declared.answers.TxKind.TheVariants.{ReadTx}
use Rattle.bus_laws.specs.DdmTypes.declared.answers.TurnAnswer.{TurnAnswer}
use Rattle.bus_laws.specs.DdmTypes.declared.sizes.Hold.{Hold}
use Rattle.bus_laws.specs.DdmTypes.declared.keys.Stamp.{Stamp}
use Rattle.bus_laws.specs.TreeModel.State.Lists.{map_from}
use Rattle.bus_laws.specs.TreeModel.State.States.{is_held, is_shared}
use Rattle.bus_laws.specs.TreeModel.State.Values.{Note, no_note, local, up_read, up_erase, DirValue, Node}
use Rattle.bus_laws.specs.TreeModel.State.Directory.{dir_note, is_reader, is_eraser, is_local, is_up_read, in_set, set_with, joined_by, with_note, counted}
use Rattle.bus_laws.specs.TreeModel.State.Child.{child_request, child_request_taken}
use Rattle.bus_laws.specs.TreeModel.State.Blank.{no_node}
use Rattle.bus_laws.specs.TreeModel.Turns.Children.{child_at, only}
use Rattle.bus_laws.proofs.TreeModel.Sets.{in_set-with, in_set-others}
use Rattle.tree_rules.specs.Bus.Faces.{ChildFace, ParentFace, parent_face, child_face, faces_of}
use Rattle.tree_rules.specs.Bus.Own.{note_fits, readers_fit}
use Rattle.tree_rules.specs.Bus.Item.{implies, holds_it, holds_exclusive, gives_none, gives_one, giver_holds, granted_fits, has_reply, reader_is_granted, eraser_is_granted, Bits, bits_of}
use Rattle.tree_rules.specs.Bus.Rules.{IsBusOk, IsChildOk}
use Rattle.tree_rules.proofs.Implying.{implies-use, implies-by}
use Rattle.bus_laws.specs.KeepsBus.{KeepsBus}
use Rattle.bus_laws.proofs.States.{bits, each_state, state-at}
use Rattle.bus_laws.proofs.BitsOf.{any-same, all-same, sole-same, gift-same, each-true}
use Rattle.bus_laws.proofs.DirParts.{dir-parts, note-at, child_seen, lt-test, lt-fact}
use Rattle.bus_laws.proofs.Calls.{IsGranted, child-read-taken}
use Rattle.bus_laws.proofs.Parents.{as-it-was, takes_count, noted}
use Rattle.bus_laws.proofs.TopParent.{top-counted, top-noted}
use Rattle.bus_laws.proofs.Before.{granted-at, giver-at, reads-at, erases-at, reader-at}
use Rattle.bus_laws.proofs.OneChild.{asks-there, one_after, one-told, one-many, one-here, one-other}
use Rattle.bus_laws.proofs.RowFrame.{all-kids_at, fits, rules-after}
use Rattle.bus_laws.proofs.RowChecks.{done_top, keeps-top}

-- ---- what is computed

-- a read is under way
abbrev reads_note : Note → Bool
reads_note note = is_local note || is_up_read note

-- the parent after it
abbrev joining : ℕ → ParentFace → ParentFace
joining c p = record p { note = joined_by c p.note }

-- the same bits
abbrev as_before_bits : Bits → Bits
as_before_bits k = bits k.held k.sole k.exclusive k.one_gift k.no_gift true true

-- what is known before it and kept after it
abbrev may_join : ℕ → ParentFace → Bits → Bool
may_join c p k = implies (reads_note p.note) (k.readers && done_top p (joining c p) k (as_before_bits k))

each-may_join : (c : ℕ) (note : Note) → each_state (may_join c) note ≡ true
unfolding implies
each-may_join c no_note = refl
each-may_join c (local first joined) = refl
each-may_join c (up_read first joined) = refl
each-may_join c (up_erase d) = refl

-- ---- the note after it

joined-reads : (c : ℕ) (note : Note) → reads_note note ≡ true → is_reader (joined_by c note) c ≡ true
joined-reads c no_note h = cc
joined-reads c (local first joined) h = rw (in_set-with c joined) (or-true (nat_eq c first)) where
  or-true : (b : Bool) → (b || true) ≡ true
  or-true true = refl
  or-true false = refl
joined-reads c (up_read first joined) h = rw (in_set-with c joined) (or-true (nat_eq c first)) where
  or-true : (b : Bool) → (b || true) ≡ true
  or-true true = refl
  or-true false = refl
joined-reads c (up_erase d) h = cc

joined-others : (c i : ℕ) (note : Note) → i ≢ c → is_reader (joined_by c note) i ≡ is_reader note i
joined-others c i no_note ne = refl
joined-others c i (local first joined) ne = ap (λ b. nat_eq i first || b) (in_set-others c i joined ne)
joined-others c i (up_read first joined) ne = ap (λ b. nat_eq i first || b) (in_set-others c i joined ne)
joined-others c i (up_erase d) ne = refl

joined-eraser : (c i : ℕ) (note : Note) → is_eraser (joined_by c note) i ≡ is_eraser note i
joined-eraser c i no_note = refl
joined-eraser c i (local first joined) = refl
joined-eraser c i (up_read first joined) = refl
joined-eraser c i (up_erase d) = refl

joined-granted : (c : ℕ) (note : Note) (cs : List ChildFace) → reads_note note ≡ true → eraser_is_granted (joined_by c note) cs ≡ true
joined-granted c no_note cs h = cc
joined-granted c (local first joined) cs h = refl
joined-granted c (up_read first joined) cs h = refl
joined-granted c (up_erase d) cs h = cc

readers-joined : (kids c first joined : ℕ) → readers_fit kids first joined ≡ true → c < kids → (nat_eq c first || in_set c joined) ≡ false → readers_fit kids first (set_with c joined) ≡ true
readers-joined kids c first joined fit l other =
    let a = and_parts (nat_lt first kids) _ fit in
    let b = and_parts (nat_lt joined (2 ^ kids)) (not (in_set first joined)) a.1 in
    let differs = eqb-false c first (or_parts (nat_eq c first) (in_set c joined) other).0 in
    let bound : set_with c joined < 2 ^ kids = or_lt kids joined (2 ^ c) (lt-fact joined (2 ^ kids) b.0) (pow_below c kids l) in
    both_true a.0 (both_true (lt-test (set_with c joined) (2 ^ kids) bound) (ap not (in_set-others c first joined (λ same. differs (sym same))) ∙ b.1))

joined-fits : (kids c : ℕ) (note : Note) → note_fits kids note ≡ true → c < kids → is_reader note c ≡ false → note_fits kids (joined_by c note) ≡ true
joined-fits kids c no_note fit l other = refl
joined-fits kids c (local first joined) fit l other = readers-joined kids c first joined fit l other
joined-fits kids c (up_read first joined) fit l other = readers-joined kids c first joined fit l other
joined-fits kids c (up_erase d) fit l other = fit

module _ (n c x : ℕ) (above : Stamp) (p : DirValue) (ns : List Node) (bus : IsBusOk n p ns) (kids : AllByRecursion (IsChildOk n) ns) (asks : child_request (child_at c ns) ≡ Some (record { kind = ReadTx; item = x })) (read : reads_note (dir_note x p) ≡ true) (answer : TurnAnswer) where
  there : c < length ns
  there = asks-there c ns _ asks

  granted : IsGranted n x (child_at c ns) Hold.Invalid true false
  granted = child-read-taken n x (child_at c ns) (all-kids_at (IsChildOk n) no_node ns c kids there) asks

  within : x < n
  within = granted.known

  abbrev before : ParentFace
  before = parent_face x p

  abbrev k : Bits
  k = bits_of before (faces_of x ns)

  abbrev old : ChildFace
  old = child_face x (child_at c ns)

  abbrev new : ChildFace
  new = child_seen Hold.Invalid true false old.replies old.answers

  abbrev note : Note
  note = joined_by c (dir_note x p)

  abbrev ms : List Node
  ms = map_from (only c child_request_taken) 0 ns

  checked : (k.readers && done_top before (joining c before) k (as_before_bits k)) ≡ true
  checked = implies-use (reads_note before.note) _ (state-at (may_join c) (each-may_join c) before (faces_of x ns) (bus.rules x within)) read

  readers : k.readers ≡ true
  readers = (and_parts k.readers _ checked).0

  not-reader : is_reader before.note c ≡ false
  not-reader = at (is_reader before.note c) refl where
    at : (b : Bool) → is_reader before.note c ≡ b → b ≡ false
    at true is =
        let reads = reader-at n x p ns bus kids within readers c there is in
        let no : true ≡ false = sym reads ∙ ap (λ (f : ChildFace). f.reads) granted.was in
        cc
    at false is = refl

  many : length ms ≡ length ns
  many = one-many n x p ns bus kids within c child_request_taken new granted.told

  each-after : (P : ℕ → ChildFace → ChildFace → Type 0) → P c old new → ((i : ℕ) → i < length ns → i ≢ c → P i (child_face x (child_at i ns)) (child_face x (child_at i ns))) → (i : ℕ) → i < length ns → P i (child_face x (child_at i ns)) (child_face x (child_at i ms))
  each-after P at_c others i l = at (ℕ_discrete i c) where
    at : Dec (i ≡ c) → P i (child_face x (child_at i ns)) (child_face x (child_at i ms))
    at (yes same) = subst (λ j. P j (child_face x (child_at j ns)) (child_face x (child_at j ms))) (sym same) (subst (P c old) (sym (one-here n x p ns bus kids within c child_request_taken new granted.told there)) at_c)
    at (no ne) = subst (P i (child_face x (child_at i ns))) (sym (one-other n x p ns bus kids within c child_request_taken new granted.told i l ne)) (others i l ne)

  -- all but its granted read is as before
  alike : (t : ChildFace → Bool) → t new ≡ t old → (i : ℕ) → i < length ns → t (child_face x (child_at i ms)) ≡ t (child_face x (child_at i ns))
  alike t e = each-after (λ i f g. t g ≡ t f) e (λ i l ne. refl)

  absent : holds_it new ≡ holds_it old
  absent = sym (ap (λ (f : ChildFace). holds_it f) granted.was)

  not_exclusive : holds_exclusive new ≡ holds_exclusive old
  not_exclusive = sym (ap (λ (f : ChildFace). holds_exclusive f) granted.was)

  giver-new : giver_holds new ≡ true
  giver-new = subst (λ h. (implies old.answers (is_held h) && implies (has_reply old) (is_shared h)) ≡ true) (ap (λ (f : ChildFace). f.hold) granted.was) (giver-at n x p ns bus kids within c there)

  granted-new : (r : ℕ) (a : Bool) → granted_fits (child_seen Hold.Invalid true false r a) ≡ true
  unfolding implies
  granted-new r a = refl

  new-fits : fits note c new ≡ true
  new-fits = both_true (granted-new old.replies old.answers) (both_true giver-new (both_true (implies-by true (is_reader note c) (λ _. joined-reads c (dir_note x p) read)) (implies-by false (is_eraser note c) (λ e. cc))))

  old-fits : (i : ℕ) → i < length ns → i ≢ c → fits note i (child_face x (child_at i ns)) ≡ true
  old-fits i l ne = both_true (granted-at n x p ns bus kids within i l) (both_true (giver-at n x p ns bus kids within i l) (both_true (ap (implies (child_face x (child_at i ns)).reads) (joined-others c i (dir_note x p) ne) ∙ reads-at n x p ns bus kids within i l) (ap (implies (child_face x (child_at i ns)).erases) (joined-eraser c i (dir_note x p)) ∙ erases-at n x p ns bus kids within i l)))

  fits-after : (i : ℕ) → i < length ns → fits note i (child_face x (child_at i ms)) ≡ true
  fits-after = each-after (λ i f g. fits note i g ≡ true) new-fits old-fits

  reader-after : (i : ℕ) → i < length ns → reader_is_granted note i (child_face x (child_at i ms)) ≡ true
  reader-after = each-after (λ i f g. reader_is_granted note i g ≡ true) (implies-by (is_reader note c) true (λ _. refl)) (λ i l ne. implies-by (is_reader note i) (child_face x (child_at i ns)).reads (λ is. reader-at n x p ns bus kids within readers i l (sym (joined-others c i (dir_note x p) ne) ∙ is)))

  bits-after : bits_of (joining c before) (faces_of x ms) ≡ as_before_bits k
  bits-after =
      rules-after x (joining c before) ms (as_before_bits k)
      (λ i l. fits-after i (omega (arith, l, many)))
      (ap (λ b. before.parked || b) (any-same (child_face x) no_node holds_it ns ms many (alike holds_it absent)))
      (sole-same (child_face x) no_node before.parked ns ms many (alike holds_it absent))
      (any-same (child_face x) no_node holds_exclusive ns ms many (alike holds_exclusive not_exclusive))
      (gift-same (child_face x) no_node ns ms many (alike gives_none refl) (alike gives_one refl))
      (all-same (child_face x) no_node gives_none ns ms many (alike gives_none refl))
      (each-true (child_face x) no_node (reader_is_granted note) ms (λ i l. reader-after i (omega (arith, l, many))))
      (joined-granted c (dir_note x p) (faces_of x ms) read)

  pub joins-keeps : KeepsBus n above p ns (record { answer = answer; parent = with_note x note (counted p); kids = ms })
  joins-keeps =
      keeps-top n x above p (with_note x note (counted p)) ns ms (joining c before) (as_before_bits k)
      (record {
        bus = bus;
        known = within;
        as_many = many;
        after = one_after n x p ns bus kids within c child_request_taken new granted.told;
        told = one-told n x p ns bus kids within c child_request_taken new granted.told;
        parent = noted n (length ns) x within p _ _ (takes_count n (length ns) x within p p before (as-it-was n (length ns) x within p (dir-parts n (length ns) p bus.own))) note (joined-fits (length ns) c (dir_note x p) (note-at n (length ns) x p (dir-parts n (length ns) p bus.own)) there not-reader);
        bits = bits-after;
        reserved = refl;
        replies = refl;
      })
      (and_parts k.readers _ checked).1
      (λ zero top exclusive calm. top-noted (counted p) (top-counted p top) x note exclusive calm)
      answer
