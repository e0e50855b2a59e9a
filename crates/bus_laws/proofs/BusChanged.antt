-- A change of one item at a bus: what is seen of every other item stays, and the rules of the bus are those of that item.
use Rattle.std.proofs.Common.{◌≡◌, ◌≢◌, ℕ, zero, suc, ◌+◌, ◌<◌, ◌≤◌, Bool, List, length, refl, sym, ap, subst, ◌∙◌, arith}
use Rattle.std.specs.List.{range_with_len}
use native.Mathlib.Decide.{ℕ_discrete}
use Rattle.bus_laws.specs.DdmTypes.declared.answers.TxKind.{TxKind}
use Rattle.bus_laws.specs.TreeModel.State.Lists.{has_some}
use Rattle.bus_laws.specs.TreeModel.State.Values.{DirItem, DirValue, Node}
use Rattle.bus_laws.specs.TreeModel.State.Leaf.{words_of_item}
use Rattle.bus_laws.specs.TreeModel.State.Directory.{dir_item, queue_kinds, request_kinds}
use Rattle.tree_rules.specs.Bus.Faces.{ParentFace, parent_face, face_above, faces_of}
use Rattle.tree_rules.specs.Bus.Own.{IsDirOk}
use Rattle.tree_rules.specs.Bus.Item.{ItemRules, kept_place}
use Rattle.tree_rules.specs.Bus.Rules.{IsBusOk, kept_places}
use Rattle.bus_laws.specs.KeepsBus.{dir_face}

-- ---- what is seen of an item stays

-- of item y, e is seen as d is
pub record IsSameOf (y : ℕ) (d e : DirValue) : Type 0 where
  pub item : dir_item y e ≡ dir_item y d
  pub queue : queue_kinds y e.down ≡ queue_kinds y d.down
  pub requests : request_kinds y e.requests ≡ request_kinds y d.requests
  pub parked : words_of_item y e.parked ≡ words_of_item y d.parked
  pub replies : words_of_item y e.replies ≡ words_of_item y d.replies

-- a parent's face by its parts
abbrev pub face_of : DirItem → List TxKind → List TxKind → Bool → ParentFace
face_of i queue requests parked = record { hold = i.hold; note = i.note; answering = i.answering; queue = queue; requests = requests; parked = parked }

pub parent-is : (x : ℕ) (d : DirValue) (i : DirItem) (queue requests : List TxKind) (parked : Bool) → dir_item x d ≡ i → queue_kinds x d.down ≡ queue → request_kinds x d.requests ≡ requests → has_some (words_of_item x d.parked) ≡ parked → parent_face x d ≡ face_of i queue requests parked
parent-is x d i queue requests parked item q r p =
    ap (λ i. face_of i (queue_kinds x d.down) (request_kinds x d.requests) (has_some (words_of_item x d.parked))) item ∙ (ap (λ q. face_of i q (request_kinds x d.requests) (has_some (words_of_item x d.parked))) q ∙ (ap (λ r. face_of i queue r (has_some (words_of_item x d.parked))) r ∙ ap (face_of i queue requests) p))

module _ (y : ℕ) (d e : DirValue) (s : IsSameOf y d e) where
  pub parent-same : parent_face y e ≡ parent_face y d
  parent-same = parent-is y e (dir_item y d) (queue_kinds y d.down) (request_kinds y d.requests) (has_some (words_of_item y d.parked)) s.item s.queue s.requests (ap has_some s.parked)

  pub dir_face-same : dir_face y e ≡ dir_face y d
  dir_face-same = ap (λ p. face_above p (length (words_of_item y e.replies))) parent-same ∙ ap (λ ws. face_above (parent_face y d) (length ws)) s.replies

-- ---- the places kept

module _ (x : ℕ) (d e : DirValue) (others : (y : ℕ) → y ≢ x → parent_face y e ≡ parent_face y d) where
  kept-above : (a n : ℕ) → x < a → kept_places e (range_with_len a n) ≡ kept_places d (range_with_len a n)
  kept-above a zero above = refl
  kept-above a (suc n) above =
      let here : kept_place (parent_face a e) ≡ kept_place (parent_face a d) = ap kept_place (others a (λ same. omega arith)) in
      let rest = kept-above (a + 1) n (omega arith) in
      rw (here, rest) refl

  kept-from : (a n : ℕ) → a ≤ x → x < a + n → kept_places e (range_with_len a n) + kept_place (parent_face x d) ≡ kept_places d (range_with_len a n) + kept_place (parent_face x e)
  kept-from a zero low high = absurd (omega arith)
  kept-from a (suc n) low high = at (ℕ_discrete a x) (λ other. kept-from (a + 1) n (omega arith) (omega arith)) where
    at : Dec (a ≡ x) → ((a ≢ x) → kept_places e (range_with_len (a + 1) n) + kept_place (parent_face x d) ≡ kept_places d (range_with_len (a + 1) n) + kept_place (parent_face x e)) → kept_places e (range_with_len a (suc n)) + kept_place (parent_face x d) ≡ kept_places d (range_with_len a (suc n)) + kept_place (parent_face x e)
    at (yes same) rest =
        let now : kept_place (parent_face a e) ≡ kept_place (parent_face x e) = ap (λ z. kept_place (parent_face z e)) same in
        let was : kept_place (parent_face a d) ≡ kept_place (parent_face x d) = ap (λ z. kept_place (parent_face z d)) same in
        let behind : kept_places e (range_with_len (a + 1) n) ≡ kept_places d (range_with_len (a + 1) n) = kept-above (a + 1) n (omega arith) in
        omega (arith, now, was, behind)
    at (no other) rest =
        let here : kept_place (parent_face a e) ≡ kept_place (parent_face a d) = ap kept_place (others a other) in
        let behind = rest other in
        omega (arith, here, behind)

-- ---- the rules of a bus, of which one item is changed

pub bus-changed : (n x : ℕ) (d e : DirValue) (ns ms : List Node) → x < n → IsBusOk n d ns → IsDirOk n (length ms) e → ((y : ℕ) → y ≢ x → parent_face y e ≡ parent_face y d) → ((y : ℕ) → y ≢ x → faces_of y ms ≡ faces_of y ns) → ItemRules (parent_face x e) (faces_of x ms) → e.reserved + kept_place (parent_face x d) ≡ d.reserved + kept_place (parent_face x e) → IsBusOk n e ms
bus-changed n x d e ns ms within bus own parents faces here reserved = record {
  own = own;
  rules = λ y high. at y high (ℕ_discrete y x);
  reserved =
      let kept = kept-from x d e parents 0 n (omega arith) (omega arith) in
      omega (arith, kept, reserved, bus.reserved);
} where
  at : (y : ℕ) → y < n → Dec (y ≡ x) → ItemRules (parent_face y e) (faces_of y ms)
  at y high (yes same) = subst (λ z. ItemRules (parent_face z e) (faces_of z ms)) (sym same) here
  at y high (no other) = subst (λ p. ItemRules p (faces_of y ms)) (sym (parents y other)) (subst (λ cs. ItemRules (parent_face y d) cs) (sym (faces y other)) (bus.rules y high))
