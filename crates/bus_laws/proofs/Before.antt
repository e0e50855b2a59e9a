-- What the rules of an item say of each child before a turn.
use Rattle.std.proofs.Common.{◌≡◌, ℕ, ◌<◌, Bool, true, false, List, ◌∷◌, length, refl, ap, subst, ◌∙◌}
use Rattle.std.specs.Prelude.{not, ◌||◌, nat_eq, if◌then◌else◌}
use Rattle.std.specs.List.{list_any, list_all, AllByRecursion}
use Rattle.std.proofs.lemmas.Bool.{and_parts, not-true, eqb-true}
use Rattle.bus_laws.specs.DdmTypes.declared.answers.TxKind.{TxKind}
use Rattle.bus_laws.specs.DdmTypes.declared.sizes.Hold.{Hold}
use Rattle.bus_laws.specs.TreeModel.State.Kinds.{is_kind}
use Rattle.bus_laws.specs.TreeModel.State.States.{is_held, is_exclusive, is_shared}
use Rattle.bus_laws.specs.TreeModel.State.Values.{Note, no_note, local, up_read, up_erase, DownValue, DirValue, Node}
use Rattle.bus_laws.specs.TreeModel.State.Directory.{is_reader, is_eraser, is_up_erase, queue_kinds}
use Rattle.bus_laws.specs.TreeModel.State.Blank.{no_node}
use Rattle.bus_laws.specs.TreeModel.Turns.Children.{child_at}
use Rattle.tree_rules.specs.Bus.Faces.{ChildFace, ParentFace, parent_face, child_face, faces_of}
use Rattle.tree_rules.specs.Bus.Own.{down_fits}
use Rattle.tree_rules.specs.Bus.Item.{implies, holds_it, holds_exclusive, one_holds, gives_none, giver_holds, granted_fits, reader_is_granted, reader_is_noted, eraser_is_noted, eraser_is_granted, Bits, bits_of, reads_noted, erases_noted, granted_held, givers_held, ItemRules}
use Rattle.tree_rules.specs.Bus.Rules.{IsBusOk, IsChildOk}
use Rattle.tree_rules.proofs.Implying.{implies-use, implies-by}
use Rattle.bus_laws.proofs.Lists.{pass-first}
use Rattle.bus_laws.proofs.ItemLists.{queue-front}
use Rattle.bus_laws.proofs.States.{bits}
use Rattle.bus_laws.proofs.BitsOf.{any-none, any-false, all-at, all-true, each-at, each-true, one-none, gift-none}
use Rattle.bus_laws.proofs.DirCalls.{face_lost}
use Rattle.bus_laws.proofs.DirParts.{dir-parts, lt-fact, child_seen, starts_with}
use Rattle.bus_laws.proofs.RowFrame.{all-kids_at, fits, rules-after}

-- ---- faces

-- it gives nothing, and nothing is granted to it
abbrev pub idle_of : Hold → ChildFace
idle_of h = child_seen h false false 0 false

pub gives-nothing : (c : ChildFace) → gives_none c ≡ true → (c.answers ≡ false) × (c.replies ≡ 0)
gives-nothing c h =
    let parts = and_parts (not c.answers) (nat_eq c.replies 0) h in
    (not-true c.answers parts.0, eqb-true c.replies 0 parts.1)

pub seen-as : (c : ChildFace) (r e : Bool) (k : ℕ) (a : Bool) → c.reads ≡ r → c.erases ≡ e → c.replies ≡ k → c.answers ≡ a → c ≡ child_seen c.hold r e k a
seen-as c r e k a e1 e2 e3 e4 =
    let same : c ≡ child_seen c.hold c.reads c.erases c.replies c.answers = refl in
    same ∙ rw (e1, e2, e3, e4) refl

pub not-held : (h : Hold) → is_held h ≡ false → h ≡ Hold.Invalid
not-held Hold.Invalid e = refl
not-held Hold.Shared e = cc
not-held Hold.Exclusive e = cc

pub shared-is : (h : Hold) → is_shared h ≡ true → h ≡ Hold.Shared
shared-is Hold.Invalid e = cc
shared-is Hold.Shared e = refl
shared-is Hold.Exclusive e = cc

pub exclusive-is : (h : Hold) → is_exclusive h ≡ true → h ≡ Hold.Exclusive
exclusive-is Hold.Invalid e = cc
exclusive-is Hold.Shared e = cc
exclusive-is Hold.Exclusive e = refl

module _ (n x : ℕ) (p : DirValue) (ns : List Node) (bus : IsBusOk n p ns) (kids : AllByRecursion (IsChildOk n) ns) (within : x < n) where
  abbrev pub face : ParentFace
  face = parent_face x p

  abbrev pub seen : Bits
  seen = bits_of face (faces_of x ns)

  abbrev pub child : ℕ → ChildFace
  child i = child_face x (child_at i ns)

  abbrev pub rules : ItemRules face (faces_of x ns)
  rules = bus.rules x within

  pub kid-ok : (i : ℕ) → i < length ns → IsChildOk n (child_at i ns)
  kid-ok i l = all-kids_at (IsChildOk n) no_node ns i kids l

  pub granted-at : (i : ℕ) → i < length ns → granted_fits (child i) ≡ true
  granted-at i l = all-at (child_face x) no_node granted_fits ns i (rules.each granted_held) l

  pub giver-at : (i : ℕ) → i < length ns → giver_holds (child i) ≡ true
  giver-at i l = all-at (child_face x) no_node giver_holds ns i (rules.each givers_held) l

  pub reads-at : (i : ℕ) → i < length ns → reader_is_noted face.note i (child i) ≡ true
  reads-at i l = each-at (child_face x) no_node (reader_is_noted face.note) ns i (rules.each reads_noted) l

  pub erases-at : (i : ℕ) → i < length ns → eraser_is_noted face.note i (child i) ≡ true
  erases-at i l = each-at (child_face x) no_node (eraser_is_noted face.note) ns i (rules.each erases_noted) l

  -- who isn't noted has nothing granted
  pub not-reads : (i : ℕ) → i < length ns → is_reader face.note i ≡ false → (child i).reads ≡ false
  not-reads i l other = at (child i).reads refl where
    at : (b : Bool) → (child i).reads ≡ b → b ≡ false
    at true is = let noted = implies-use (child i).reads (is_reader face.note i) (reads-at i l) is in cc
    at false is = refl

  pub not-erases : (i : ℕ) → i < length ns → is_eraser face.note i ≡ false → (child i).erases ≡ false
  not-erases i l other = at (child i).erases refl where
    at : (b : Bool) → (child i).erases ≡ b → b ≡ false
    at true is = let noted = implies-use (child i).erases (is_eraser face.note i) (erases-at i l) is in cc
    at false is = refl

  pub gives-at : seen.no_gift ≡ true → (i : ℕ) → i < length ns → ((child i).answers ≡ false) × ((child i).replies ≡ 0)
  gives-at none i l = gives-nothing (child i) (all-at (child_face x) no_node gives_none ns i none l)

  -- a reader's read was granted, and it holds nothing
  pub reader-at : seen.readers ≡ true → (i : ℕ) → i < length ns → is_reader face.note i ≡ true → (child i).reads ≡ true
  reader-at readers i l is = implies-use (is_reader face.note i) (child i).reads (each-at (child_face x) no_node (reader_is_granted face.note) ns i readers l) is

  pub reads-absent : (i : ℕ) → i < length ns → (child i).reads ≡ true → (child i).hold ≡ Hold.Invalid
  reads-absent i l reads =
      let parts = and_parts (implies (child i).reads (not (holds_it (child i)))) (implies (child i).erases (is_shared (child i).hold)) (granted-at i l) in
      not-held (child i).hold (not-true _ (implies-use (child i).reads (not (holds_it (child i))) parts.0 reads))

  pub erases-shared : (i : ℕ) → i < length ns → (child i).erases ≡ true → (child i).hold ≡ Hold.Shared
  erases-shared i l erases =
      let parts = and_parts (implies (child i).reads (not (holds_it (child i)))) (implies (child i).erases (is_shared (child i).hold)) (granted-at i l) in
      shared-is (child i).hold (implies-use (child i).erases (is_shared (child i).hold) parts.1 erases)

  -- nobody is exclusive; nobody holds it
  pub none-exclusive : seen.exclusive ≡ false → (i : ℕ) → i < length ns → is_exclusive (child i).hold ≡ false
  none-exclusive none i l = any-none (child_face x) no_node holds_exclusive ns i none l

  pub none-held : list_any holds_it (faces_of x ns) ≡ false → (i : ℕ) → i < length ns → is_held (child i).hold ≡ false
  none-held none i l = any-none (child_face x) no_node holds_it ns i none l

  -- who isn't noted is idle, where nobody gives
  pub idle-at : seen.no_gift ≡ true → (i : ℕ) → i < length ns → is_reader face.note i ≡ false → is_eraser face.note i ≡ false → child i ≡ idle_of (child i).hold
  idle-at none i l reader eraser =
      let gives = gives-at none i l in
      seen-as (child i) false false 0 false (not-reads i l reader) (not-erases i l eraser) gives.1 gives.0

-- ---- the first entry of the down list

module _ (n x : ℕ) (p : DirValue) (ns : List Node) (bus : IsBusOk n p ns) (e : DownValue) (rest : List DownValue) (front : p.down ≡ e ∷ rest) where
  pub entry-known : e.item < n
  entry-known =
      let parts = dir-parts n (length ns) p bus.own in
      let fits : down_fits n e ≡ true = pass-first (down_fits n) e rest (subst (λ down. list_all (down_fits n) down ≡ true) front parts.down) in
      lt-fact e.item n (and_parts _ _ fits).0

  pub entry-starts : (kind : TxKind) → e.kind ≡ kind → is_kind kind kind ≡ true → starts_with kind (queue_kinds e.item p.down) ≡ true
  entry-starts kind is self = ap (starts_with kind) (ap (queue_kinds e.item) front ∙ queue-front e rest) ∙ (ap (is_kind kind) is ∙ self)

-- a child that is told to lose the item and gives nothing does nothing with it then
lost-by : (h : Hold) (e : Bool) → (is_shared h ≡ false → e ≡ false) → face_lost (child_seen h false e 0 false) ≡ idle_of Hold.Invalid
lost-by Hold.Invalid e free = ap (λ b. child_seen Hold.Invalid false b 0 false) (free refl)
lost-by Hold.Shared e free = refl
lost-by Hold.Exclusive e free = refl

pub lost-idle : (c : ChildFace) → granted_fits c ≡ true → c.reads ≡ false → c.answers ≡ false → c.replies ≡ 0 → face_lost c ≡ idle_of Hold.Invalid
lost-idle c fits reads answers replies =
    let parts = and_parts (implies c.reads (not (holds_it c))) (implies c.erases (is_shared c.hold)) fits in
    ap face_lost (seen-as c false c.erases 0 false reads refl replies answers) ∙ lost-by c.hold c.erases (λ other. no-erase c.erases refl parts.1 other) where
      no-erase : (b : Bool) → c.erases ≡ b → implies c.erases (is_shared c.hold) ≡ true → is_shared c.hold ≡ false → c.erases ≡ false
      no-erase true is fit other = let shared = implies-use c.erases (is_shared c.hold) fit is in cc
      no-erase false is fit other = is

-- ---- children of which none does anything with the item

module _ (x : ℕ) (f : ParentFace) (ms : List Node) (all : (i : ℕ) → i < length ms → child_face x (child_at i ms) ≡ idle_of Hold.Invalid) (unnoted : (i : ℕ) → is_reader f.note i ≡ false) (no_eraser : is_up_erase f.note ≡ false) where
  test-at : (t : ChildFace → Bool) (b : Bool) → t (idle_of Hold.Invalid) ≡ b → (i : ℕ) → i < length ms → t (child_face x (child_at i ms)) ≡ b
  test-at t b e i l = ap t (all i l) ∙ e

  nobody : list_any holds_it (faces_of x ms) ≡ false
  nobody = any-false (child_face x) no_node holds_it ms (test-at holds_it false refl)

  idle-fits : (note : Note) (i : ℕ) → fits note i (idle_of Hold.Invalid) ≡ true
  unfolding implies
  idle-fits note i = refl

  no-reader : (i : ℕ) (c : ChildFace) → reader_is_granted f.note i c ≡ true
  no-reader i c = implies-by (is_reader f.note i) c.reads (λ is. let no = unnoted i in cc)

  eraser-none : (note : Note) → is_up_erase note ≡ false → eraser_is_granted note (faces_of x ms) ≡ true
  eraser-none no_note e = refl
  eraser-none (local first joined) e = refl
  eraser-none (up_read first joined) e = refl
  eraser-none (up_erase d) e = cc

  sole-by : (b : Bool) → (if◌then◌else◌ b (not (list_any holds_it (faces_of x ms))) (one_holds (faces_of x ms))) ≡ b
  sole-by true = ap not nobody
  sole-by false = one-none (faces_of x ms) nobody

  held-by : (b : Bool) → (b || list_any holds_it (faces_of x ms)) ≡ b
  held-by true = refl
  held-by false = nobody

  -- the bits then: a parked copy is the only holder
  pub idle-bits : bits_of f (faces_of x ms) ≡ bits f.parked f.parked false false true true true
  idle-bits =
      let none = all-true (child_face x) no_node gives_none ms (test-at gives_none true refl) in
      rules-after x f ms (bits f.parked f.parked false false true true true) (λ i l. ap (fits f.note i) (all i l) ∙ idle-fits f.note i) (held-by f.parked) (sole-by f.parked) (any-false (child_face x) no_node holds_exclusive ms (test-at holds_exclusive false refl)) (gift-none (faces_of x ms) none) none (each-true (child_face x) no_node (reader_is_granted f.note) ms (λ i l. no-reader i (child_face x (child_at i ms)))) (eraser-none f.note no_eraser)
