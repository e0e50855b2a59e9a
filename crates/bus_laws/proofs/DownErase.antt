-- An erase comes down: every child is told to lose the item, and the parked copy ends.
-- Letters: x is the item, k the bits before, q the parent after, ms the children after, s the stamp of the bus.
use Rattle.std.proofs.Common.{◌≡◌, ℕ, ◌+◌, ◌<◌, Bool, true, false, List, ◌∷◌, length, None, refl, sym, ap, subst, arith}
use Rattle.std.specs.Prelude.{not, ◌&&◌, nat_eq}
use Rattle.std.specs.List.{AllByRecursion}
use Rattle.std.specs.Cmp.Derive.{both_true}
use Rattle.std.proofs.lemmas.Bool.{and_parts, eqb-true, not-true}
use Rattle.bus_laws.specs.DdmTypes.declared.answers.TxKind.TheVariants.{EraseTx}
use Rattle.bus_laws.specs.DdmTypes.declared.answers.TurnAnswer.{TurnAnswer}
use Rattle.bus_laws.specs.DdmTypes.declared.sizes.Hold.{Hold}
use Rattle.bus_laws.specs.DdmTypes.declared.keys.Stamp.{Stamp}
use Rattle.bus_laws.specs.TreeModel.State.Lists.{map_from, first_given, rest_of}
use Rattle.bus_laws.specs.TreeModel.State.Values.{DownValue, Note, no_note, local, up_read, up_erase, DirValue, Node}
use Rattle.bus_laws.specs.TreeModel.State.Directory.{dir_note, is_local, is_up_read, is_up_erase, is_reader, stamp_of, without_parked, with_note, front_taken}
use Rattle.bus_laws.specs.TreeModel.State.Child.{child_lose}
use Rattle.bus_laws.specs.TreeModel.State.Blank.{no_node}
use Rattle.bus_laws.specs.TreeModel.Turns.Children.{child_at, full_to_lose, loses}
use Rattle.bus_laws.specs.TreeModel.Turns.Down.{without_up_erase}
use Rattle.bus_laws.proofs.TreeModel.Children.{map_from-length, child_at-map_from, none-given}
use Rattle.tree_rules.specs.Bus.Faces.{ParentFace, parent_face, face_reads, face_erases, child_face, faces_of}
use Rattle.tree_rules.specs.Bus.Own.{note_fits}
use Rattle.tree_rules.specs.Bus.Item.{implies, Bits, bits_of, item_holds, kept_place}
use Rattle.tree_rules.specs.Bus.Rules.{IsBusOk, IsChildOk}
use Rattle.tree_rules.proofs.Implying.{implies-use}
use Rattle.bus_laws.specs.KeepsBus.{KeepsBus}
use Rattle.bus_laws.proofs.States.{each_state, state-at}
use Rattle.bus_laws.proofs.DirParts.{is_seen, dir-parts, note-at, starts_with}
use Rattle.bus_laws.proofs.DirCalls.{face_lost}
use Rattle.bus_laws.proofs.Calls.{child-lose}
use Rattle.bus_laws.proofs.Parents.{as-it-was, takes_front, unparks, noted}
use Rattle.bus_laws.proofs.Before.{idle_of, lost-idle, idle-bits, kid-ok, granted-at, not-reads, gives-at, none-exclusive, entry-known, entry-starts}
use Rattle.bus_laws.proofs.RowFrame.{same-seen, RowFacts, row-keeps}
use Rattle.bus_laws.proofs.RowChecks.{stays_seen, never_top, rules-by, never-top}
use Rattle.bus_laws.proofs.Shapes.{nobody_holds}
use Rattle.bus_laws.proofs.Told.{IsTold}

-- the parent after it
abbrev erased : ParentFace → ParentFace
erased p = record p { queue = rest_of p.queue; parked = false; note = without_up_erase p.note }

-- what is known before it and kept after it
abbrev may_erase_down : ParentFace → Bits → Bool
may_erase_down p k =
    implies (starts_with EraseTx p.queue && not (is_local p.note))
    (k.no_gift && (not k.exclusive && (not (is_up_read p.note) && (nat_eq (kept_place (erased p)) (kept_place p) && (never_top p k && stays_seen p (erased p) nobody_holds)))))

each-may_erase_down : (note : Note) → each_state may_erase_down note ≡ true
unfolding implies
each-may_erase_down no_note = refl
each-may_erase_down (local first joined) = refl
each-may_erase_down (up_read first joined) = refl
each-may_erase_down (up_erase d) = refl

no_reader : (note : Note) → is_local note ≡ false → is_up_read note ≡ false → (i : ℕ) → is_reader note i ≡ false
no_reader no_note l u i = refl
no_reader (local first joined) l u i = cc
no_reader (up_read first joined) l u i = cc
no_reader (up_erase d) l u i = refl

-- the note after it
note-fits : (kids : ℕ) (note : Note) → note_fits kids note ≡ true → note_fits kids (without_up_erase note) ≡ true
note-fits kids no_note h = refl
note-fits kids (local first joined) h = h
note-fits kids (up_read first joined) h = h
note-fits kids (up_erase d) h = refl

unnoted : (note : Note) → is_local note ≡ false → is_up_read note ≡ false → (i : ℕ) → is_reader (without_up_erase note) i ≡ false
unnoted no_note l u i = refl
unnoted (local first joined) l u i = cc
unnoted (up_read first joined) l u i = cc
unnoted (up_erase d) l u i = refl

no-eraser : (note : Note) → is_up_erase (without_up_erase note) ≡ false
no-eraser no_note = refl
no-eraser (local first joined) = refl
no-eraser (up_read first joined) = refl
no-eraser (up_erase d) = refl

module _ (n : ℕ) (above : Stamp) (p : DirValue) (ns : List Node) (bus : IsBusOk n p ns) (kids : AllByRecursion (IsChildOk n) ns) (answer : TurnAnswer) where
  module _ (e : DownValue) (rest : List DownValue) (front : p.down ≡ e ∷ rest) (kind : e.kind ≡ EraseTx) (other : is_local (dir_note e.item p) ≡ false) (room : first_given (full_to_lose e.item) 0 ns ≡ None) where
    abbrev x : ℕ
    x = e.item

    within : x < n
    within = entry-known n x p ns bus e rest front

    abbrev before : ParentFace
    before = parent_face x p

    abbrev k : Bits
    k = bits_of before (faces_of x ns)

    abbrev q : DirValue
    q = with_note x (without_up_erase (dir_note x p)) (without_parked x (front_taken e.stamp rest p))

    abbrev s : Stamp
    s = stamp_of (front_taken e.stamp rest p)

    abbrev ms : List Node
    ms = map_from (loses x s) 0 ns

    -- the same as facts
    record Known : Type 0 where
      no_gift : k.no_gift ≡ true
      shared : k.exclusive ≡ false
      up : is_up_read before.note ≡ false
      kept : kept_place (erased before) ≡ kept_place before
      never : never_top before k ≡ true
      holds : item_holds (erased before) nobody_holds ≡ true
      same : is_seen (erased before) before.hold (face_reads before) (face_erases before) before.answering ≡ true

    known : Known
    known =
        let h = implies-use (starts_with EraseTx before.queue && not (is_local before.note)) _ (state-at may_erase_down each-may_erase_down before (faces_of x ns) (bus.rules x within)) (both_true (entry-starts n x p ns bus e rest front EraseTx kind refl) (ap not other)) in
        let a = and_parts k.no_gift _ h in
        let b = and_parts (not k.exclusive) _ a.1 in
        let c = and_parts (not (is_up_read before.note)) _ b.1 in
        let d = and_parts (nat_eq (kept_place (erased before)) (kept_place before)) _ c.1 in
        let f = and_parts (never_top before k) _ d.1 in
        let g = and_parts (item_holds (erased before) nobody_holds) _ f.1 in
        record { no_gift = a.0; shared = not-true _ b.0; up = not-true _ c.0; kept = eqb-true _ _ d.0; never = f.0; holds = g.0; same = g.1 }

    told : (i : ℕ) → i < length ns → IsTold n x (child_at i ns) (child_at i ms) (idle_of Hold.Invalid)
    told i l =
        let gives = gives-at n x p ns bus kids within known.no_gift i l in
        let reads = not-reads n x p ns bus kids within i l (no_reader before.note other known.up i) in
        let lost = child-lose n x within s (child_at i ns) (kid-ok n x p ns bus kids within i l) (none-exclusive n x p ns bus kids within known.shared i l) gives.0 (none-given (full_to_lose x) i ns no_node room l) in
        let seen : face_lost (child_face x (child_at i ns)) ≡ idle_of Hold.Invalid = lost-idle (child_face x (child_at i ns)) (granted-at n x p ns bus kids within i l) reads gives.0 gives.1 in
        subst (λ m. IsTold n x (child_at i ns) m (idle_of Hold.Invalid)) (sym (child_at-map_from (loses x s) i ns l)) (subst (λ f. IsTold n x (child_at i ns) (child_lose x s (child_at i ns)) f) seen lost)

    as_many : length ms ≡ length ns
    as_many = map_from-length (loses x s) 0 ns

    facts : RowFacts n x above p q ns ms (erased before)
    facts =
        let parts = dir-parts n (length ns) p bus.own in
        let start = as-it-was n (length ns) x within p parts in
        let m1 = takes_front n (length ns) x within p p before start e rest front refl in
        let m2 = unparks n (length ns) x within p _ _ m1 in
        let m3 = noted n (length ns) x within p _ _ m2 (without_up_erase (dir_note x p)) (note-fits (length ns) (dir_note x p) (note-at n (length ns) x p parts)) in
        record {
          known = within;
          as_many = as_many;
          after = λ i. idle_of Hold.Invalid;
          told = told;
          parent = m3;
          rules = rules-by (erased before) x ms nobody_holds (idle-bits x (erased before) ms (λ i l. (told i (omega (arith, l, as_many))).here) (unnoted before.note other known.up) (no-eraser before.note)) known.holds;
          reserved = ap (λ k. p.reserved + k) (sym known.kept);
          seen = same-seen x p q (erased before) m3.face refl known.same;
          top = never-top n x above p q ns ms (erased before) known.never;
        }

    pub erase-keeps : KeepsBus n above p ns (record { answer = answer; parent = q; kids = ms })
    erase-keeps = row-keeps n x above p q ns ms (erased before) answer bus facts
