-- What a row of a bus's turn comes to: with the children told so and the parent changed so, the turn keeps the rules, where
-- the rules of its item hold after it.
use Rattle.std.proofs.Common.{◌≡◌, ◌≢◌, ℕ, zero, suc, ◌+◌, ◌<◌, Bool, true, List, [], ◌∷◌, length, map, refl, sym, ap, subst, ◌∙◌, arith}
use Rattle.std.specs.Prelude.{not, ◌&&◌, slice_index_or, IsTrue}
use Rattle.std.specs.List.{list_all, AllByRecursion}
use Rattle.std.specs.Cmp.Derive.{both_true}
use native.Mathlib.Decide.{ℕ_discrete}
use Rattle.std.proofs.lemmas.Bool.{and_parts}
use Rattle.bus_laws.specs.DdmTypes.declared.answers.TurnAnswer.{TurnAnswer}
use Rattle.bus_laws.specs.DdmTypes.declared.keys.Stamp.{Stamp}
use Rattle.bus_laws.specs.DdmTypes.Keys.{stamp_zero}
use Rattle.bus_laws.specs.TreeModel.State.Lists.{has_some}
use Rattle.bus_laws.specs.TreeModel.State.States.{is_exclusive}
use Rattle.bus_laws.specs.TreeModel.State.Values.{Note, RequestValue, absent_item, DirValue, Node}
use Rattle.bus_laws.specs.TreeModel.State.Leaf.{words_of_item}
use Rattle.bus_laws.specs.TreeModel.State.Directory.{dir_hold, is_answering, request_kinds}
use Rattle.bus_laws.specs.TreeModel.State.Blank.{no_node}
use Rattle.bus_laws.specs.TreeModel.Turns.Children.{child_at}
use Rattle.tree_rules.specs.Bus.Faces.{ChildFace, ParentFace, parent_face, face_reads, face_erases, face_above, child_face, faces_of}
use Rattle.tree_rules.specs.Bus.Own.{top_item, top_items, no_requests, IsTopOk, IsDirOk}
use Rattle.tree_rules.specs.Bus.Item.{granted_fits, giver_holds, reader_is_noted, eraser_is_noted, Bits, bits_of, ItemRules, kept_place, top_holds}
use Rattle.tree_rules.specs.Bus.Rules.{IsBusOk, IsChildOk}
use Rattle.bus_laws.specs.KeepsBus.{dir_face, IsSeenAbove, as_before, IsTopBusOk, KeepsBus}
use Rattle.bus_laws.proofs.States.{bits}
use Rattle.bus_laws.proofs.BitsOf.{all-true, each-true}
use Rattle.bus_laws.proofs.BusChanged.{parent-same, dir_face-same, bus-changed}
use Rattle.bus_laws.proofs.DirParts.{dir-ok, dir-parts, is_seen, seen-is}
use Rattle.bus_laws.proofs.Parents.{IsModified}
use Rattle.bus_laws.proofs.Told.{IsTold}

-- ---- lists of children, child by child

module _ {X : Type 0} (P : X → Type 0) (d : X) where
  pub all-kids_at : (xs : List X) (k : ℕ) → AllByRecursion P xs → k < length xs → P (slice_index_or xs k d)
  all-kids_at [] k all l = absurd (omega arith)
  all-kids_at (x ∷ xs) zero all l = all.0
  all-kids_at (x ∷ xs) (suc k) all l = all-kids_at xs k all.1 (omega arith)

  pub each-kids : (xs : List X) → ((k : ℕ) → k < length xs → P (slice_index_or xs k d)) → AllByRecursion P xs
  each-kids [] h = tt
  each-kids (x ∷ xs) h = (h 0 (omega arith), each-kids xs (λ k l. h (suc k) (omega arith)))

pub map-same : {X Y : Type 0} (g : X → Y) (d : X) (xs ys : List X) → length ys ≡ length xs → ((k : ℕ) → k < length xs → g (slice_index_or ys k d) ≡ g (slice_index_or xs k d)) → map g ys ≡ map g xs
map-same g d [] [] e h = refl
map-same g d [] (y ∷ ys) e h = absurd (omega (arith, e))
map-same g d (x ∷ xs) [] e h = absurd (omega (arith, e))
map-same g d (x ∷ xs) (y ∷ ys) e h =
    let first : g y ≡ g x = h 0 (omega arith) in
    let rest = map-same g d xs ys (omega (arith, e)) (λ k l. h (suc k) (omega arith)) in
    rw (first, rest) refl

-- ---- the top

-- the top's face of an item: it holds it Exclusive, and nothing else stands there
abbrev pub top_like : ParentFace → Bits → Bool
top_like p k = top_holds p k && (is_exclusive p.hold && (not p.answering && not (has_some p.requests)))

pass-in : {X : Type 0} (t : X → Bool) (xs : List X) (k : ℕ) (d : X) → list_all t xs ≡ true → k < length xs → t (slice_index_or xs k d) ≡ true
pass-in t [] k d h l = absurd (omega arith)
pass-in t (x ∷ xs) zero d h l = (and_parts (t x) (list_all t xs) h).0
pass-in t (x ∷ xs) (suc k) d h l = pass-in t xs k d (and_parts (t x) (list_all t xs) h).1 (omega arith)

none-of : (x : ℕ) (rs : List RequestValue) → not (has_some rs) ≡ true → not (has_some (request_kinds x rs)) ≡ true
unfolding request_kinds
none-of x [] h = refl
none-of x (r ∷ rs) h = cc

pub is-top_like : (n x : ℕ) (p : DirValue) (ns : List Node) → x < length p.items → x < n → IsTopBusOk n p ns → top_like (parent_face x p) (bits_of (parent_face x p) (faces_of x ns)) ≡ true
is-top_like n x p ns there within top =
    let item = and_parts (is_exclusive (dir_hold x p)) (not (is_answering x p)) (pass-in top_item p.items x absent_item (top.own.each top_items) there) in
    both_true (top.held x within) (both_true item.0 (both_true item.1 (none-of x p.requests (top.own.each no_requests))))

-- ---- the turn

-- what the bus above sees of the item: the same
pub same-seen : (x : ℕ) (p q : DirValue) (f : ParentFace) → parent_face x q ≡ f → q.replies ≡ p.replies → is_seen f (dir_hold x p) (face_reads (parent_face x p)) (face_erases (parent_face x p)) (is_answering x p) ≡ true → IsSeenAbove (dir_face x p) (dir_face x q)
same-seen x p q f face replies seen =
    as_before (ap (λ rs. face_above (parent_face x q) (length (words_of_item x rs))) replies ∙ (ap (λ g. face_above g (length (words_of_item x p.replies))) face ∙ seen-is f (dir_hold x p) (face_reads (parent_face x p)) (face_erases (parent_face x p)) (is_answering x p) (length (words_of_item x p.replies)) seen))

module _ (n x : ℕ) (above : Stamp) (p q : DirValue) (ns ms : List Node) (f : ParentFace) where
  -- what becomes of the top
  abbrev pub TopAfter : Type 0
  TopAfter = above ≡ stamp_zero → IsTopOk p → top_like (parent_face x p) (bits_of (parent_face x p) (faces_of x ns)) ≡ true → IsTopOk q × (top_holds f (bits_of f (faces_of x ms)) ≡ true)

  -- what a row has to show
  pub record RowFacts : Type 0 where
    pub known : x < n
    pub as_many : length ms ≡ length ns
    -- what each child is seen as after it
    pub after : ℕ → ChildFace
    pub told : (i : ℕ) → i < length ns → IsTold n x (child_at i ns) (child_at i ms) (after i)
    pub parent : IsModified n (length ns) x p q f
    pub rules : ItemRules f (faces_of x ms)
    pub reserved : q.reserved + kept_place (parent_face x p) ≡ p.reserved + kept_place f
    pub seen : IsSeenAbove (dir_face x p) (dir_face x q)
    pub top : TopAfter

  pub row-keeps : (answer : TurnAnswer) → IsBusOk n p ns → RowFacts → KeepsBus n above p ns (record { answer = answer; parent = q; kids = ms })
  row-keeps answer bus r = record {
    bus = bus-changed n x p q ns ms r.known bus (subst (λ k. IsDirOk n k q) (sym r.as_many) (dir-ok n (length ns) q r.parent.parts)) (λ y ne. parent-same y p q (r.parent.others y ne)) faces (subst (λ g. ItemRules g (faces_of x ms)) (sym r.parent.face) r.rules) (subst (λ g. q.reserved + kept_place (parent_face x p) ≡ p.reserved + kept_place g) (sym r.parent.face) r.reserved);
    kids = each-kids (IsChildOk n) no_node ms (λ k l. (r.told k (omega (arith, l, r.as_many))).ok);
    seen = λ y. seen-at y (ℕ_discrete y x);
    top = λ zero top.
        let like = is-top_like n x p ns there r.known top in
        let t = r.top zero top.own like in
        record {
          own = t.0;
          held = λ y high. held-at y high top t.1 (ℕ_discrete y x);
        };
  } where
    there : x < length p.items
    there = subst (λ k. x < k) (sym (dir-parts n (length ns) p bus.own).within.items) r.known

    faces : (y : ℕ) → y ≢ x → faces_of y ms ≡ faces_of y ns
    faces y ne = map-same (child_face y) no_node ns ms r.as_many (λ k l. (r.told k l).others y ne)

    seen-at : (y : ℕ) → Dec (y ≡ x) → IsSeenAbove (dir_face y p) (dir_face y q)
    seen-at y (yes same) = subst (λ z. IsSeenAbove (dir_face z p) (dir_face z q)) (sym same) r.seen
    seen-at y (no other) = as_before (dir_face-same y p q (r.parent.others y other))

    held-at : (y : ℕ) → y < n → IsTopBusOk n p ns → top_holds f (bits_of f (faces_of x ms)) ≡ true → Dec (y ≡ x) → IsTrue (top_holds (parent_face y q) (bits_of (parent_face y q) (faces_of y ms)))
    held-at y high top here (yes same) = subst (λ z. top_holds (parent_face z q) (bits_of (parent_face z q) (faces_of z ms)) ≡ true) (sym same) (subst (λ g. top_holds g (bits_of g (faces_of x ms)) ≡ true) (sym r.parent.face) here)
    held-at y high top here (no other) = subst (λ g. top_holds g (bits_of g (faces_of y ms)) ≡ true) (sym (parent-same y p q (r.parent.others y other))) (subst (λ cs. top_holds (parent_face y p) (bits_of (parent_face y p) cs) ≡ true) (sym (faces y other)) (top.held y high))

-- ---- the rules after it, child by child

-- what is granted to it and what it gives suits what it holds, and the note
abbrev pub fits : Note → ℕ → ChildFace → Bool
fits note i c = granted_fits c && (giver_holds c && (reader_is_noted note i c && eraser_is_noted note i c))

same-bits : (h s e o n v g r a d c : Bool) (h2 s2 e2 o2 n2 r2 a2 : Bool) → h ≡ h2 → s ≡ s2 → e ≡ e2 → o ≡ o2 → n ≡ n2 → v ≡ true → g ≡ true → r ≡ r2 → a ≡ a2 → d ≡ true → c ≡ true → (let k : Bits = record { held = h; sole = s; exclusive = e; one_gift = o; no_gift = n; givers = v; granted = g; readers = r; eraser = a; reads = d; erases = c } in k) ≡ bits h2 s2 e2 o2 n2 r2 a2
same-bits h s e o n v g r a d c h2 s2 e2 o2 n2 r2 a2 e1 e3 e4 e5 e6 e7 e8 e9 e10 e11 e12 = rw (e1, e3, e4, e5, e6, e7, e8, e9, e10, e11, e12) refl

pub rules-after : (x : ℕ) (f : ParentFace) (ms : List Node) (k : Bits) → ((i : ℕ) → i < length ms → fits f.note i (child_face x (child_at i ms)) ≡ true) → (bits_of f (faces_of x ms)).held ≡ k.held → (bits_of f (faces_of x ms)).sole ≡ k.sole → (bits_of f (faces_of x ms)).exclusive ≡ k.exclusive → (bits_of f (faces_of x ms)).one_gift ≡ k.one_gift → (bits_of f (faces_of x ms)).no_gift ≡ k.no_gift → (bits_of f (faces_of x ms)).readers ≡ k.readers → (bits_of f (faces_of x ms)).eraser ≡ k.eraser → bits_of f (faces_of x ms) ≡ bits k.held k.sole k.exclusive k.one_gift k.no_gift k.readers k.eraser
rules-after x f ms k fit held sole exclusive one none readers eraser =
    let g = all-true (child_face x) no_node granted_fits ms (λ i l. (parts i l).0) in
    let h = all-true (child_face x) no_node giver_holds ms (λ i l. (parts i l).1.0) in
    let r = each-true (child_face x) no_node (reader_is_noted f.note) ms (λ i l. (parts i l).1.1.0) in
    let e = each-true (child_face x) no_node (eraser_is_noted f.note) ms (λ i l. (parts i l).1.1.1) in
    same-bits _ _ _ _ _ _ _ _ _ _ _ k.held k.sole k.exclusive k.one_gift k.no_gift k.readers k.eraser held sole exclusive one none h g readers eraser r e where
      parts : (i : ℕ) → i < length ms → (granted_fits (child_face x (child_at i ms)) ≡ true) × ((giver_holds (child_face x (child_at i ms)) ≡ true) × ((reader_is_noted f.note i (child_face x (child_at i ms)) ≡ true) × (eraser_is_noted f.note i (child_face x (child_at i ms)) ≡ true)))
      parts i l =
          let c : ChildFace = child_face x (child_at i ms) in
          let a = and_parts (granted_fits c) _ (fit i l) in
          let b = and_parts (giver_holds c) _ a.1 in
          (a.0, (b.0, and_parts (reader_is_noted f.note i c) (eraser_is_noted f.note i c) b.1))
