-- An exclusive comes down: the child that erases is told exclusive.
-- Letters: d is the child that erases, x the item, k the bits before, ms the children after, s the stamp of the bus.
use Rattle.std.proofs.Common.{◌≡◌, ◌≢◌, ℕ, ◌<◌, Bool, true, false, List, ◌∷◌, length, None, refl, ap, subst, ◌∙◌, arith}
use Rattle.std.specs.Prelude.{not, ◌&&◌}
use Rattle.std.specs.List.{AllByRecursion}
use Rattle.std.specs.Cmp.Derive.{both_true}
use Rattle.std.proofs.lemmas.Bool.{and_parts, ne_eqb}
use Rattle.bus_laws.specs.DdmTypes.declared.answers.TxKind.TheVariants.{ExclusiveTx}
use Rattle.bus_laws.specs.DdmTypes.declared.answers.TurnAnswer.{TurnAnswer}
use Rattle.bus_laws.specs.DdmTypes.declared.sizes.Hold.{Hold}
use Rattle.bus_laws.specs.DdmTypes.declared.keys.Stamp.{Stamp}
use Rattle.bus_laws.specs.TreeModel.State.Lists.{map_from, rest_of}
use Rattle.bus_laws.specs.TreeModel.State.States.{is_held}
use Rattle.bus_laws.specs.TreeModel.State.Values.{DownValue, Note, no_note, local, up_read, up_erase, DirValue, Node}
use Rattle.bus_laws.specs.TreeModel.State.Directory.{dir_note, is_reader, is_eraser, is_up_erase, stamp_of, with_note, front_taken}
use Rattle.bus_laws.specs.TreeModel.State.Child.{child_take_exclusive, child_full_for}
use Rattle.bus_laws.specs.TreeModel.State.Blank.{no_node}
use Rattle.bus_laws.specs.TreeModel.Turns.Children.{child_at, only}
use Rattle.tree_rules.specs.Bus.Faces.{ParentFace, parent_face, child_face, faces_of}
use Rattle.tree_rules.specs.Bus.Item.{implies, holds_it, may_erase, eraser_is_granted, up_erase_noted, Bits, bits_of}
use Rattle.tree_rules.specs.Bus.Rules.{IsBusOk, IsChildOk}
use Rattle.tree_rules.proofs.Implying.{implies-use}
use Rattle.bus_laws.specs.KeepsBus.{KeepsBus}
use Rattle.bus_laws.proofs.States.{each_state, state-at}
use Rattle.bus_laws.proofs.BitsOf.{passes-at}
use Rattle.bus_laws.proofs.DirParts.{dir-parts, child_seen, starts_with}
use Rattle.bus_laws.proofs.Calls.{child-take_exclusive}
use Rattle.bus_laws.proofs.Parents.{as-it-was, takes_front, noted}
use Rattle.bus_laws.proofs.TopParent.{top-front, top-noted}
use Rattle.bus_laws.proofs.Before.{idle_of, not-held, kid-ok, idle-at, gives-at, entry-known, entry-starts}
use Rattle.bus_laws.proofs.OneChild.{not-parked, others-absent, one_after, one-told, one-many, one-here, one-other}
use Rattle.bus_laws.proofs.RowChecks.{done_top, keeps-top}
use Rattle.bus_laws.proofs.Shapes.{one_exclusive, exclusive-fits, no-readers, lone-bits}
use Rattle.bus_laws.proofs.Told.{IsTold}

-- the parent after it
abbrev upgraded : ParentFace → ParentFace
upgraded p = record p { queue = rest_of p.queue; note = no_note }

-- what is known before it and kept after it
abbrev may_upgrade : ParentFace → Bits → Bool
may_upgrade p k = implies (starts_with ExclusiveTx p.queue && (is_up_erase p.note && not p.parked)) (k.no_gift && done_top p (upgraded p) k one_exclusive)

each-may_upgrade : (note : Note) → each_state may_upgrade note ≡ true
unfolding implies
each-may_upgrade no_note = refl
each-may_upgrade (local first joined) = refl
each-may_upgrade (up_read first joined) = refl
each-may_upgrade (up_erase d) = refl

module _ (n : ℕ) (above : Stamp) (p : DirValue) (ns : List Node) (bus : IsBusOk n p ns) (kids : AllByRecursion (IsChildOk n) ns) (answer : TurnAnswer) where
  module _ (e : DownValue) (rest : List DownValue) (d : ℕ) (front : p.down ≡ e ∷ rest) (kind : e.kind ≡ ExclusiveTx) (note : dir_note e.item p ≡ up_erase d) (room : child_full_for ExclusiveTx e.item (child_at d ns) ≡ None) where
    abbrev x : ℕ
    x = e.item

    within : x < n
    within = entry-known n x p ns bus e rest front

    abbrev before : ParentFace
    before = parent_face x p

    abbrev k : Bits
    k = bits_of before (faces_of x ns)

    abbrev s : Stamp
    s = stamp_of (front_taken e.stamp rest p)

    abbrev ms : List Node
    ms = map_from (only d (child_take_exclusive x s)) 0 ns

    noted-eraser : (k.eraser && k.sole) ≡ true
    noted-eraser = implies-use (is_up_erase before.note) (k.eraser && k.sole) ((bus.rules x within).each up_erase_noted) (ap is_up_erase note)

    sole : k.sole ≡ true
    sole = (and_parts k.eraser k.sole noted-eraser).1

    eraser : (d < length ns) × (may_erase (child_face x (child_at d ns)) ≡ true)
    eraser = passes-at (child_face x) no_node may_erase ns d (subst (λ note. eraser_is_granted note (faces_of x ns) ≡ true) note (and_parts k.eraser k.sole noted-eraser).0)

    there : d < length ns
    there = eraser.0

    erases : (child_face x (child_at d ns)).erases ≡ true
    erases = (and_parts (child_face x (child_at d ns)).erases (holds_it (child_face x (child_at d ns))) eraser.1).0

    holds : is_held (child_face x (child_at d ns)).hold ≡ true
    holds = (and_parts (child_face x (child_at d ns)).erases (holds_it (child_face x (child_at d ns))) eraser.1).1

    free : before.parked ≡ false
    free = not-parked n x p ns bus kids within d there holds

    checked : (k.no_gift && done_top before (upgraded before) k one_exclusive) ≡ true
    checked = implies-use (starts_with ExclusiveTx before.queue && (is_up_erase before.note && not before.parked)) _ (state-at may_upgrade each-may_upgrade before (faces_of x ns) (bus.rules x within)) (both_true (entry-starts n x p ns bus e rest front ExclusiveTx kind refl) (both_true (ap is_up_erase note) (ap not free)))

    none : k.no_gift ≡ true
    none = (and_parts k.no_gift _ checked).0

    told : IsTold n x (child_at d ns) (child_take_exclusive x s (child_at d ns)) (idle_of Hold.Exclusive)
    told =
        let gives = gives-at n x p ns bus kids within none d there in
        let same : child_seen Hold.Exclusive false false (child_face x (child_at d ns)).replies (child_face x (child_at d ns)).answers ≡ idle_of Hold.Exclusive = rw (gives.0, gives.1) refl in
        subst (λ f. IsTold n x (child_at d ns) (child_take_exclusive x s (child_at d ns)) f) same (child-take_exclusive n x within s (child_at d ns) (kid-ok n x p ns bus kids within d there) erases gives.0 room)

    many : length ms ≡ length ns
    many = one-many n x p ns bus kids within d (child_take_exclusive x s) (idle_of Hold.Exclusive) told

    others-after : (i : ℕ) → i < length ms → i ≢ d → child_face x (child_at i ms) ≡ idle_of Hold.Invalid
    others-after i l ne =
        let li : i < length ns = omega (arith, l, many) in
        one-other n x p ns bus kids within d (child_take_exclusive x s) (idle_of Hold.Exclusive) told i li ne ∙
        (idle-at n x p ns bus kids within none i li (ap (λ note. is_reader note i) note) (ap (λ note. is_eraser note i) note ∙ ne_eqb i d ne) ∙
        ap idle_of (not-held (child_face x (child_at i ns)).hold (others-absent n x p ns bus kids within d there holds sole i li ne)))

    bits-after : bits_of (upgraded before) (faces_of x ms) ≡ one_exclusive
    bits-after =
        lone-bits x (upgraded before) ms d (omega (arith, there, many)) (idle_of Hold.Exclusive) (one-here n x p ns bus kids within d (child_take_exclusive x s) (idle_of Hold.Exclusive) told there) others-after free refl (exclusive-fits d) (no-readers x no_note ms (λ i. refl)) refl

    pub exclusive-keeps : KeepsBus n above p ns (record { answer = answer; parent = with_note x no_note (front_taken e.stamp rest p); kids = ms })
    exclusive-keeps =
        keeps-top n x above p (with_note x no_note (front_taken e.stamp rest p)) ns ms (upgraded before) one_exclusive
        (record {
          bus = bus;
          known = within;
          as_many = many;
          after = one_after n x p ns bus kids within d (child_take_exclusive x s) (idle_of Hold.Exclusive) told;
          told = one-told n x p ns bus kids within d (child_take_exclusive x s) (idle_of Hold.Exclusive) told;
          parent = noted n (length ns) x within p _ _ (takes_front n (length ns) x within p p before (as-it-was n (length ns) x within p (dir-parts n (length ns) p bus.own)) e rest front refl) no_note refl;
          bits = bits-after;
          reserved = refl;
          replies = refl;
        })
        (and_parts k.no_gift _ checked).1
        (λ zero top exclusive calm. top-noted (front_taken e.stamp rest p) (top-front p top e rest front) x no_note exclusive calm)
        answer
