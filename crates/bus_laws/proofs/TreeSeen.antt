-- The rules of a bus stay where one of its children is seen as before, or has answered.
use Rattle.std.proofs.Common.{◌≡◌, ℕ, zero, suc, ◌+◌, Bool, true, false, List, ◌∷◌, length, refl, sym, ap, subst, ◌∙◌, arith}
use Rattle.std.specs.Prelude.{not, ◌&&◌, ◌||◌, nat_eq}
use Rattle.std.specs.List.{list_any, list_all}
use Rattle.std.specs.Cmp.Derive.{both_true}
use Rattle.std.proofs.lemmas.Bool.{eqb-true, and_parts, and_right, or_right}
use Rattle.bus_laws.specs.TreeModel.State.States.{is_shared}
use Rattle.bus_laws.specs.TreeModel.State.Values.{Note, no_note, local, up_read, up_erase, DirValue, Node}
use Rattle.bus_laws.specs.TreeModel.State.Lists.{all_from}
use Rattle.tree_rules.specs.Bus.Faces.{ChildFace, ParentFace, child_face, parent_face, faces_of}
use Rattle.tree_rules.specs.Bus.Item.{implies, holds_it, holds_exclusive, one_holds, gives_none, gives_one, one_gives, giver_holds, granted_fits, reader_is_granted, reader_is_noted, eraser_is_noted, may_erase, child_passes, eraser_is_granted, Bits, bits_of, ItemRule, answering_held, exclusive_alone, parked_alone, exclusive_covered, queue_in_order, queue_start, inject_covered, erased_shared, hold_follows, local_noted, up_read_noted, data_read, up_erase_noted, erase_end, reads_noted, erases_noted, granted_held, exclusive_noted, giver, givers_held, read_answered, asked_alone, one_request, request_open, request_noted, item_test, ItemRules, asked_below, top_holds}
use Rattle.bus_laws.specs.TreeModel.State.Directory.{is_reader, is_eraser, is_local}
use Rattle.tree_rules.specs.Bus.Own.{IsDirOk}
use Rattle.tree_rules.specs.Bus.Rules.{IsBusOk}
use Rattle.tree_rules.proofs.Implying.{implies-use, implies-by}
use Rattle.bus_laws.specs.KeepsBus.{HasAnswered, IsSeenAbove, as_before, having_answered}

-- ---- one of several

-- what a bus sees of a child, before and after
abbrev pub IsSeenAs : Node → Node → Type 0
IsSeenAs m k = (x : ℕ) → IsSeenAbove (child_face x m) (child_face x k)

-- of these children one alone was changed, and is seen so
pub data OneSeen : List Node → List Node → Type 0 where
  seen_first : {m k : Node} {ms : List Node} → IsSeenAs m k → OneSeen (m ∷ ms) (k ∷ ms)
  seen_later : {m : Node} {ms ks : List Node} → OneSeen ms ks → OneSeen (m ∷ ms) (m ∷ ks)

-- of these faces one has answered
data OneAnswered : List ChildFace → List ChildFace → Type 0 where
  answered_first : {f g : ChildFace} {cs : List ChildFace} → HasAnswered f g → OneAnswered (f ∷ cs) (g ∷ cs)
  answered_later : {f : ChildFace} {cs ds : List ChildFace} → OneAnswered cs ds → OneAnswered (f ∷ cs) (f ∷ ds)

-- ---- tests of the faces

any-same : (t : ChildFace → Bool) → ((f g : ChildFace) → HasAnswered f g → t g ≡ t f) → (cs ds : List ChildFace) → OneAnswered cs ds → list_any t ds ≡ list_any t cs
any-same t same cs ds (answered_first {f = f} {g = g} {cs = rest} a) = ap (λ b. b || list_any t rest) (same f g a)
any-same t same cs ds (answered_later {f = f} {cs = old} {ds = new} a) = ap (λ b. t f || b) (any-same t same old new a)

all_from-same : (t : ℕ → ChildFace → Bool) → ((i : ℕ) (f g : ChildFace) → HasAnswered f g → t i g ≡ t i f) → (i : ℕ) (cs ds : List ChildFace) → OneAnswered cs ds → all_from t i ds ≡ all_from t i cs
all_from-same t same i cs ds (answered_first {f = f} {g = g} {cs = rest} a) = ap (λ b. b && all_from t (i + 1) rest) (same i f g a)
all_from-same t same i cs ds (answered_later {f = f} {cs = old} {ds = new} a) = ap (λ b. t i f && b) (all_from-same t same (i + 1) old new a)

child_passes-same : (t : ChildFace → Bool) → ((f g : ChildFace) → HasAnswered f g → t g ≡ t f) → (d : ℕ) (cs ds : List ChildFace) → OneAnswered cs ds → child_passes t d ds ≡ child_passes t d cs
child_passes-same t same zero cs ds (answered_first {f = f} {g = g} {cs = rest} a) = same f g a
child_passes-same t same (suc d) cs ds (answered_first {f = f} {g = g} {cs = rest} a) = refl
child_passes-same t same zero cs ds (answered_later {f = f} {cs = old} {ds = new} a) = refl
child_passes-same t same (suc d) cs ds (answered_later {f = f} {cs = old} {ds = new} a) = child_passes-same t same d old new a

all-kept : (t : ChildFace → Bool) → ((f g : ChildFace) → HasAnswered f g → t f ≡ true → t g ≡ true) → (cs ds : List ChildFace) → OneAnswered cs ds → list_all t cs ≡ true → list_all t ds ≡ true
all-kept t kept cs ds (answered_first {f = f} {g = g} {cs = rest} a) h =
    let parts = and_parts (t f) (list_all t rest) h in
    both_true (kept f g a parts.0) parts.1
all-kept t kept cs ds (answered_later {f = f} {cs = old} {ds = new} a) h =
    let parts = and_parts (t f) (list_all t old) h in
    both_true parts.0 (all-kept t kept old new a parts.1)

any-kept : (t : ChildFace → Bool) → ((f g : ChildFace) → HasAnswered f g → t g ≡ false) → (cs ds : List ChildFace) → OneAnswered cs ds → list_any t ds ≡ true → list_any t cs ≡ true
any-kept t none cs ds (answered_first {f = f} {g = g} {cs = rest} a) h =
    let later : list_any t rest ≡ true = rw (none f g a) at h in
    or_right (t f) (list_any t rest) later
any-kept t none cs ds (answered_later {f = f} {cs = old} {ds = new} a) h =
    elim (t f) as (λ b. t f ≡ b → list_any t (f ∷ old) ≡ true) [
      | true ↦ λ is. rw is refl
      | false ↦ λ other.
          let later : list_any t new ≡ true = rw other at h in
          rw other (any-kept t none old new a later)
    ] refl

-- ---- each test of a face

holds_it-answered : (f g : ChildFace) → HasAnswered f g → holds_it g ≡ holds_it f
holds_it-answered f g a = rw (a.holds_shared, a.held) refl

exclusive-answered : (f g : ChildFace) → HasAnswered f g → holds_exclusive g ≡ false
exclusive-answered f g a = rw a.holds_shared refl

may_erase-answered : (f g : ChildFace) → HasAnswered f g → may_erase g ≡ may_erase f
may_erase-answered f g a = rw (a.erases, holds_it-answered f g a) refl

giver_holds-answered : (f g : ChildFace) → HasAnswered f g → giver_holds f ≡ true → giver_holds g ≡ true
giver_holds-answered f g a h = both_true (implies-by _ _ (λ e. rw a.holds_shared refl)) (implies-by _ _ (λ e. rw a.holds_shared refl))

granted_fits-answered : (f g : ChildFace) → HasAnswered f g → granted_fits f ≡ true → granted_fits g ≡ true
granted_fits-answered f g a h =
    let parts = and_parts (implies f.reads (not (holds_it f))) (implies f.erases (is_shared f.hold)) h in
    let reads : implies g.reads (not (holds_it g)) ≡ true = rw (a.reads, holds_it-answered f g a) parts.0 in
    both_true reads (implies-by _ _ (λ e. rw a.holds_shared refl))

gave : (f g : ChildFace) → HasAnswered f g → gives_none f ≡ false
gave f g a = rw a.was_answering refl

one_holds-same : (cs ds : List ChildFace) → OneAnswered cs ds → one_holds ds ≡ one_holds cs
one_holds-same cs ds (answered_first {f = f} {g = g} {cs = rest} a) = rw (holds_it-answered f g a) refl
one_holds-same cs ds (answered_later {f = f} {cs = old} {ds = new} a) = rw (any-same holds_it holds_it-answered old new a, one_holds-same old new a) refl

-- who has answered gave, and so nobody else did
gift-there : (cs ds : List ChildFace) → OneAnswered cs ds → list_all gives_none cs ≡ false
gift-there cs ds (answered_first {f = f} {g = g} {cs = rest} a) = rw (gave f g a) refl
gift-there cs ds (answered_later {f = f} {cs = old} {ds = new} a) = and_right (gives_none f) (list_all gives_none old) (gift-there old new a)

one_gives-kept : (cs ds : List ChildFace) → OneAnswered cs ds → one_gives cs ≡ true → one_gives ds ≡ true
one_gives-kept cs ds (answered_first {f = f} {g = g} {cs = rest} a) h =
    let before : (gives_one f && list_all gives_none rest) ≡ true = rw (gave f g a) at h in
    let parts = and_parts (gives_one f) (list_all gives_none rest) before in
    let empty : nat_eq f.replies 0 ≡ true = rw a.was_answering at parts.0 in
    let one : g.replies ≡ 1 = omega (arith, a.replies, eqb-true _ _ empty) in
    rw (a.answers_no_more, one) parts.1
one_gives-kept cs ds (answered_later {f = f} {cs = old} {ds = new} a) h =
    elim (gives_none f) as (λ b. gives_none f ≡ b → one_gives (f ∷ new) ≡ true) [
      | true ↦ λ is.
          let later : one_gives old ≡ true = rw is at h in
          rw is (one_gives-kept old new a later)
      | false ↦ λ other.
          let before : (gives_one f && list_all gives_none old) ≡ true = rw other at h in
          let none : list_all gives_none old ≡ true = (and_parts (gives_one f) (list_all gives_none old) before).1 in
          let some : list_all gives_none old ≡ false = gift-there old new a in
          let wrong : true ≡ false = sym none ∙ some in
          cc
    ] refl

-- ---- the bits

record BitsAnswered (k l : Bits) : Type 0 where
  held : l.held ≡ k.held
  sole : l.sole ≡ k.sole
  exclusive : l.exclusive ≡ true → k.exclusive ≡ true
  one_gift : k.one_gift ≡ true → l.one_gift ≡ true
  some_gift : k.no_gift ≡ false
  givers : k.givers ≡ true → l.givers ≡ true
  granted : k.granted ≡ true → l.granted ≡ true
  readers : l.readers ≡ k.readers
  eraser : l.eraser ≡ k.eraser
  reads : l.reads ≡ k.reads
  erases : l.erases ≡ k.erases

bits-answered : (p : ParentFace) (cs ds : List ChildFace) → OneAnswered cs ds → BitsAnswered (bits_of p cs) (bits_of p ds)
bits-answered p cs ds a = record {
  held = ap (λ b. p.parked || b) (any-same holds_it holds_it-answered cs ds a);
  sole = rw (any-same holds_it holds_it-answered cs ds a, one_holds-same cs ds a) refl;
  exclusive = any-kept holds_exclusive exclusive-answered cs ds a;
  one_gift = one_gives-kept cs ds a;
  some_gift = gift-there cs ds a;
  givers = all-kept giver_holds giver_holds-answered cs ds a;
  granted = all-kept granted_fits granted_fits-answered cs ds a;
  readers = all_from-same (reader_is_granted p.note) (λ i f g b. ap (implies (is_reader p.note i)) b.reads) 0 cs ds a;
  eraser = eraser-same p.note;
  reads = all_from-same (reader_is_noted p.note) (λ i f g b. ap (λ c. implies c (is_reader p.note i)) b.reads) 0 cs ds a;
  erases = all_from-same (eraser_is_noted p.note) (λ i f g b. ap (λ c. implies c (is_eraser p.note i)) b.erases) 0 cs ds a;
} where
  eraser-same : (note : Note) → eraser_is_granted note ds ≡ eraser_is_granted note cs
  eraser-same no_note = refl
  eraser-same (local first joined) = refl
  eraser-same (up_read first joined) = refl
  eraser-same (up_erase d) = child_passes-same may_erase may_erase-answered d cs ds a

-- ---- the rules

module _ (p : ParentFace) (k l : Bits) (b : BitsAnswered k l) where
  test-kept : (r : ItemRule) → item_test r p k ≡ true → item_test r p l ≡ true
  test-kept answering_held h = h
  test-kept exclusive_alone h = implies-by _ _ (λ e. b.sole ∙ implies-use _ _ h (b.exclusive e))
  test-kept parked_alone h = rw b.sole h
  test-kept exclusive_covered h = implies-by _ _ (λ e. implies-use _ _ h (b.exclusive e))
  test-kept queue_in_order h = h
  test-kept queue_start h = rw b.held h
  test-kept inject_covered h = h
  test-kept erased_shared h = implies-by _ _ (λ e. fewer k.exclusive l.exclusive b.exclusive (implies-use _ _ h e)) where
    fewer : (x y : Bool) → (y ≡ true → x ≡ true) → not x ≡ true → not y ≡ true
    fewer x false f n = refl
    fewer true true f n = n
    fewer false true f n = absurd (let wrong : false ≡ true = f refl in cc)
  test-kept hold_follows h = rw b.held h
  test-kept local_noted h = rw (b.readers, b.held) h
  test-kept up_read_noted h = rw (b.readers, b.held) h
  test-kept data_read h = h
  test-kept up_erase_noted h = rw (b.eraser, b.sole) h
  test-kept erase_end h = h
  test-kept reads_noted h = b.reads ∙ h
  test-kept erases_noted h = b.erases ∙ h
  test-kept granted_held h = b.granted h
  test-kept exclusive_noted h = h
  test-kept giver h =
      elim (is_local p.note || asked_below p) as (λ c. (is_local p.note || asked_below p) ≡ c → item_test giver p l ≡ true) [
        | true ↦ λ is. rw is (b.one_gift (rw is at h))
        | false ↦ λ other.
            let none : k.no_gift ≡ true = rw other at h in
            let wrong : true ≡ false = sym none ∙ b.some_gift in
            cc
      ] refl
  test-kept givers_held h = b.givers h
  test-kept read_answered h = h
  test-kept asked_alone h = h
  test-kept one_request h = h
  test-kept request_open h = h
  test-kept request_noted h = h

-- ---- of all items

data FacesSeen (cs ds : List ChildFace) : Type 0 where
  same_faces : ds ≡ cs → FacesSeen cs ds
  one_answered : OneAnswered cs ds → FacesSeen cs ds

faces-seen : (x : ℕ) (xs ys : List Node) → OneSeen xs ys → FacesSeen (faces_of x xs) (faces_of x ys)
faces-seen x xs ys (seen_first {m = m} {k = k} {ms = rest} s) =
    elim (s x) [
      | as_before same ↦ same_faces (ap (λ f. f ∷ faces_of x rest) same)
      | having_answered a ↦ one_answered (answered_first a)
    ]
faces-seen x xs ys (seen_later {m = m} {ms = old} {ks = new} s) =
    elim (faces-seen x old new s) [
      | same_faces same ↦ same_faces (ap (λ fs. child_face x m ∷ fs) same)
      | one_answered a ↦ one_answered (answered_later a)
    ]

length-seen : (xs ys : List Node) → OneSeen xs ys → length ys ≡ length xs
length-seen xs ys (seen_first s) = refl
length-seen xs ys (seen_later {ms = old} {ks = new} s) = ap suc (length-seen old new s)

pub IsBusOk-above : (n : ℕ) (p : DirValue) (xs ys : List Node) → OneSeen xs ys → IsBusOk n p xs → IsBusOk n p ys
IsBusOk-above n p xs ys s ok = record {
  own = subst (λ k. IsDirOk n k p) (sym (length-seen xs ys s)) ok.own;
  rules = λ x l.
      elim (faces-seen x xs ys s) as (λ _. ItemRules (parent_face x p) (faces_of x ys)) [
        | same_faces same ↦ subst (λ fs. ItemRules (parent_face x p) fs) (sym same) (ok.rules x l)
        | one_answered a ↦ record { each = λ r. test-kept (parent_face x p) _ _ (bits-answered (parent_face x p) (faces_of x xs) (faces_of x ys) a) r ((ok.rules x l).each r) }
      ];
  reserved = ok.reserved;
}

-- rule 11
pub top_holds-above : (p : ParentFace) (x : ℕ) (xs ys : List Node) → OneSeen xs ys → top_holds p (bits_of p (faces_of x xs)) ≡ true → top_holds p (bits_of p (faces_of x ys)) ≡ true
top_holds-above p x xs ys s h =
    elim (faces-seen x xs ys s) as (λ _. top_holds p (bits_of p (faces_of x ys)) ≡ true) [
      | same_faces same ↦ subst (λ fs. top_holds p (bits_of p fs) ≡ true) (sym same) h
      | one_answered a ↦ rw (bits-answered p (faces_of x xs) (faces_of x ys) a).held h
    ]
