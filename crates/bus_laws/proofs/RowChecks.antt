-- What is computed of a row: that the rules hold after it, that the bus above sees the same, and what becomes of the top.
use Rattle.std.proofs.Common.{◌≡◌, ℕ, ◌+◌, ◌<◌, Bool, true, false, List, length, sym, ap, subst, ◌∙◌}
use Rattle.std.specs.Prelude.{not, ◌&&◌, nat_eq}
use Rattle.std.proofs.lemmas.Bool.{and_parts, eqb-true, not-true}
use Rattle.bus_laws.specs.DdmTypes.declared.keys.Stamp.{Stamp}
use Rattle.bus_laws.specs.DdmTypes.Keys.{stamp_zero}
use Rattle.bus_laws.specs.DdmTypes.declared.answers.TurnAnswer.{TurnAnswer}
use Rattle.bus_laws.specs.TreeModel.State.States.{is_exclusive}
use Rattle.bus_laws.specs.TreeModel.State.Values.{DirValue, Node}
use Rattle.bus_laws.specs.TreeModel.State.Directory.{dir_hold, is_answering}
use Rattle.bus_laws.specs.TreeModel.Turns.Children.{child_at}
use Rattle.tree_rules.specs.Bus.Faces.{ChildFace, ParentFace, parent_face, face_reads, face_erases, faces_of}
use Rattle.tree_rules.specs.Bus.Item.{implies, Bits, bits_of, item_holds, ItemRules, kept_place, top_holds}
use Rattle.tree_rules.specs.Bus.Own.{IsTopOk}
use Rattle.tree_rules.specs.Bus.Rules.{IsBusOk}
use Rattle.tree_rules.proofs.BusTests.{ItemRules-from_test}
use Rattle.tree_rules.proofs.Implying.{implies-use}
use Rattle.bus_laws.specs.KeepsBus.{KeepsBus}
use Rattle.bus_laws.proofs.DirParts.{is_seen}
use Rattle.bus_laws.proofs.RowFrame.{top_like, TopAfter, same-seen, row-keeps}
use Rattle.bus_laws.proofs.Parents.{IsModified}
use Rattle.bus_laws.proofs.Told.{IsTold}

-- q keeps the rules over the bits j, and is seen as p was
abbrev pub stays_seen : ParentFace → ParentFace → Bits → Bool
stays_seen p q j = item_holds q j && is_seen q p.hold (face_reads p) (face_erases p) p.answering

-- this never is the top
abbrev pub never_top : ParentFace → Bits → Bool
never_top p k = not (top_like p k)

-- the top keeps rule 11
abbrev pub stays_top : ParentFace → ParentFace → Bits → Bits → Bool
stays_top p q k j = implies (top_like p k) (top_holds q j)

pub rules-by : (q : ParentFace) (x : ℕ) (ms : List Node) (j : Bits) → bits_of q (faces_of x ms) ≡ j → item_holds q j ≡ true → ItemRules q (faces_of x ms)
rules-by q x ms j same holds = ItemRules-from_test q (faces_of x ms) (subst (λ k. item_holds q k ≡ true) (sym same) holds)

pub never-top : (n x : ℕ) (above : Stamp) (p q : DirValue) (ns ms : List Node) (f : ParentFace) → never_top (parent_face x p) (bits_of (parent_face x p) (faces_of x ns)) ≡ true → TopAfter n x above p q ns ms f
never-top n x above p q ns ms f never zero top like = let no = not-true _ never in cc

-- ---- a row that changes neither the places kept nor the replies

-- the rules are kept, by a parent that is never the top
abbrev pub done_never : ParentFace → ParentFace → Bits → Bits → Bool
done_never p q k j = nat_eq (kept_place q) (kept_place p) && (never_top p k && stays_seen p q j)

-- the rules are kept, on the top's bus too
abbrev pub done_top : ParentFace → ParentFace → Bits → Bits → Bool
done_top p q k j = nat_eq (kept_place q) (kept_place p) && (stays_top p q k j && stays_seen p q j)

module _ (n x : ℕ) (above : Stamp) (p q : DirValue) (ns ms : List Node) (f : ParentFace) (j : Bits) where
  abbrev before : ParentFace
  before = parent_face x p

  abbrev k : Bits
  k = bits_of before (faces_of x ns)

  -- what was found of its children and its parent
  pub record RowFound : Type 0 where
    pub bus : IsBusOk n p ns
    pub known : x < n
    pub as_many : length ms ≡ length ns
    pub after : ℕ → ChildFace
    pub told : (i : ℕ) → i < length ns → IsTold n x (child_at i ns) (child_at i ms) (after i)
    pub parent : IsModified n (length ns) x p q f
    pub bits : bits_of f (faces_of x ms) ≡ j
    pub reserved : q.reserved ≡ p.reserved
    pub replies : q.replies ≡ p.replies

  pub keeps-by : RowFound → kept_place f ≡ kept_place before → item_holds f j ≡ true → is_seen f before.hold (face_reads before) (face_erases before) before.answering ≡ true → TopAfter n x above p q ns ms f → (answer : TurnAnswer) → KeepsBus n above p ns (record { answer = answer; parent = q; kids = ms })
  keeps-by r kept holds same top answer =
      row-keeps n x above p q ns ms f answer r.bus
      (record {
        known = r.known;
        as_many = r.as_many;
        after = r.after;
        told = r.told;
        parent = r.parent;
        rules = rules-by f x ms j r.bits holds;
        reserved = ap (λ a. a + kept_place before) r.reserved ∙ ap (λ k. p.reserved + k) (sym kept);
        seen = same-seen x p q f r.parent.face r.replies same;
        top = top;
      })

  pub keeps-never : RowFound → done_never before f k j ≡ true → (answer : TurnAnswer) → KeepsBus n above p ns (record { answer = answer; parent = q; kids = ms })
  keeps-never r done answer =
      let a = and_parts (nat_eq (kept_place f) (kept_place before)) _ done in
      let b = and_parts (never_top before k) _ a.1 in
      let c = and_parts (item_holds f j) _ b.1 in
      keeps-by r (eqb-true _ _ a.0) c.0 c.1 (never-top n x above p q ns ms f b.0) answer

  pub keeps-top : RowFound → done_top before f k j ≡ true → (above ≡ stamp_zero → IsTopOk p → is_exclusive (dir_hold x p) ≡ true → is_answering x p ≡ false → IsTopOk q) → (answer : TurnAnswer) → KeepsBus n above p ns (record { answer = answer; parent = q; kids = ms })
  keeps-top r done tops answer =
      let a = and_parts (nat_eq (kept_place f) (kept_place before)) _ done in
      let b = and_parts (stays_top before f k j) _ a.1 in
      let c = and_parts (item_holds f j) _ b.1 in
      keeps-by r (eqb-true _ _ a.0) c.0 c.1
      (λ zero top like.
      let l = and_parts (top_holds before k) _ like in
      let m = and_parts (is_exclusive before.hold) _ l.1 in
      let o = and_parts (not before.answering) _ m.1 in
      (tops zero top m.0 (not-true _ o.0), subst (λ k. top_holds f k ≡ true) (sym r.bits) (implies-use (top_like before k) (top_holds f j) b.0 like)))
      answer
