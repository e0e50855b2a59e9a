-- Rows of a bus's turn in which data or an inject comes down: to the readers, to one child, or into parking.
-- Letters: p is the parent, q after it, ns its children, e the entry, x its item, c where the parent stands.
use Rattle.std.proofs.Common.{◌≡◌, ℕ, ◌<◌, Bool, true, false, List, [], ◌∷◌, ◌++◌, length, Option, refl, sym, ap, subst, ◌∙◌, inl, inr}
use Rattle.std.specs.Prelude.{nat_eq, if◌then◌else◌}
use Rattle.std.proofs.lemmas.Bool.{eqb-true}
use Rattle.order_laws.specs.DdmTypes.declared.answers.TxKind.TheVariants.{EraseTx}
use Rattle.order_laws.specs.DdmTypes.declared.keys.Stamp.{Stamp}
use Rattle.order_laws.specs.TreeModel.State.Kinds.{is_kind, brings_copy}
use Rattle.order_laws.specs.TreeModel.State.Lists.{map_from}
use Rattle.order_laws.specs.TreeModel.State.States.{is_held}
use Rattle.order_laws.specs.TreeModel.State.Values.{DownValue, Note, DirValue, Node}
use Rattle.order_laws.specs.TreeModel.State.Leaf.{words_of_item}
use Rattle.order_laws.specs.TreeModel.State.Directory.{queue_of, is_reader, stamp_of}
use Rattle.order_laws.specs.TreeModel.State.Child.{child_hold, child_take_data, child_take_inject}
use Rattle.order_laws.specs.TreeModel.State.Place.{Spot, Where, at_child, spot_path}
use Rattle.order_laws.specs.TreeModel.Turns.Children.{child_at, only, reader_takes}
use Rattle.order_laws.proofs.TreeModel.Children.{map_from-length, child_at-map_from}
use Rattle.order_laws.specs.TreeRules.Order.Copies.{CopyAt, cut, copy_here, copies_here, first_erase, downs}
use Rattle.order_laws.specs.TreeRules.Order.Moments.{moment_at}
use Rattle.order_lists.proofs.Moments.{less-irreflexive}
use Rattle.order_laws.specs.Moves.Moved.{In}
use Rattle.order_laws.specs.Moves.Carries.{IsLeafFree}
use Rattle.order_laws.specs.Moves.Parent.{bound_at, moment_in, erased_at, downs_at}
use Rattle.order_laws.proofs.Moves.Rise.{parent-rises}
use Rattle.order_laws.proofs.Moves.Child.{FewerWords}
use Rattle.order_laws.proofs.Moves.Calls.{same-fewer}
use Rattle.order_laws.proofs.Moves.Bus.{IsGift, KidMoves, kid_fewer, kid_given, in-downs}
use Rattle.order_laws.proofs.Moves.RowTime.{RowTime}
use Rattle.order_laws.proofs.Moves.Hands.{Has, Hands, kids-by, served-hands}
use Rattle.order_laws.proofs.Moves.PlainRows.{queue-is, erased-taken, downs-taken}
use Rattle.order_laws.proofs.Moves.Facts.{HasGot}

pub if-by : {X : Type 0} (P : X → Type 0) (t : Bool) (m k : X) → (t ≡ true → P m) → (t ≡ false → P k) → P (if t then m else k)
if-by P true m k f g = f refl
if-by P false m k f g = g refl

pub words-more : (w : List ℕ) (ws us : List (List ℕ)) → ws ≡ us → FewerWords ws (w ∷ us)
words-more w ws us e place clock k h = inr (subst (λ l. In k (copies_here place clock l)) e h)

pub words-behind : (w : List ℕ) (ws us : List (List ℕ)) → ws ≡ us ++ w ∷ [] → FewerWords ws (w ∷ us)
words-behind w ws us e place clock k h = from us (subst (λ l. In k (copies_here place clock l)) e h) where
  from : (us : List (List ℕ)) → In k (copies_here place clock (us ++ w ∷ [])) → In k (copies_here place clock (w ∷ us))
  from [] h = h
  from (u ∷ us) (inl e) = inr (inl e)
  from (u ∷ us) (inr h) = elim (from us h) as (λ _. In k (copies_here place clock (w ∷ u ∷ us))) [ inl a ↦ inl a | inr a ↦ inr (inr a) ]

-- a child holds the item then
pub has-told : (x : ℕ) (g : ℕ → Node → Node) (ns : List Node) (i : ℕ) → i < length ns → is_held (child_hold x (g i (child_at i ns))) ≡ true → IsLeafFree x (child_at i ns) → Has x ns (map_from g 0 ns) i
has-told x g ns i l h free = (subst (λ m. is_held (child_hold x m) ≡ true) (sym (child_at-map_from g i ns l)) h, free)

module _ (c : Spot) (p q : DirValue) (ns : List Node) (e : DownValue) (rest : List DownValue) (front : p.down ≡ e ∷ rest) (down : q.down ≡ rest) (epoch : q.epoch ≡ e.stamp) (other : is_kind EraseTx e.kind ≡ false) (brings : brings_copy e.kind ≡ true) where
  abbrev x : ℕ
  x = e.item

  abbrev w : Where
  w = at_child c

  -- the copy that comes down, as one of the parent
  abbrev pub gift : CopyAt
  gift = copy_here (spot_path c) (moment_at c.above q.epoch) e.words

  gift-first : In (cut (erased_at x w p) gift) (downs_at x w p)
  gift-first =
      let behind : List DownValue = queue_of x q.down in
      let first : CopyAt = record { place = spot_path c; clock = moment_at c.above e.stamp; end = first_erase c.above behind; words = e.words } in
      let same : cut (erased_at x w p) gift ≡ first = ap (λ (o : Option (List ℕ)). record gift { end = o }) (sym (erased-taken w p q e rest front down other)) ∙ ap (λ (s : Stamp). record first { clock = moment_at c.above s }) epoch in
      let there : In (cut (erased_at x w p) gift) (downs (spot_path c) c.above (e ∷ behind)) = rw brings (inl same) in
      subst (λ l. In (cut (erased_at x w p) gift) (downs (spot_path c) c.above l)) (sym (queue-is w p q e rest front down)) there

  module _ (ms : List Node) where
    gift-is : (b : List ℕ) → IsGift x w b p q ns (Has x ns ms) gift
    gift-is b = record {
      there = in-downs x w b p q ns (Has x ns ms) (cut (erased_at x w p) gift) gift-first;
      rises = parent-rises (spot_path c) (bound_at w p) (bound_at w q) (moment_in w p) (moment_in w q) (Has x ns ms) (moment_at c.above q.epoch) (moment_at c.above q.epoch) e.words (less-irreflexive (moment_at c.above q.epoch));
    }

    pub brought-hands : RowTime w p q → length ms ≡ length ns → ((b : List ℕ) (i : ℕ) → i < length ns → KidMoves x w b p q ns (Has x ns ms) (gift ∷ []) i (child_at i ns) (child_at i ms)) → FewerWords (words_of_item x q.parked) (e.words ∷ words_of_item x p.parked) → words_of_item x q.replies ≡ words_of_item x p.replies → Hands x w p ns q ms
    brought-hands time many kids parked replies = served-hands x w p q ns ms time (gift ∷ []) (λ b. (gift-is b, tt)) (λ b. record { erased = erased-taken w p q e rest front down other; many = many; kids = kids b; parked = parked }) (downs-taken w p q e rest front down) replies

  module _ (time : RowTime w p q) (parked : words_of_item x q.parked ≡ words_of_item x p.parked) (replies : words_of_item x q.replies ≡ words_of_item x p.replies) where
    -- to the readers of a note
    pub readers-hands : (u : Note) → ((i : ℕ) → i < length ns → is_reader u i ≡ true → HasGot x e.words (stamp_of q) (child_at i ns) (child_take_data x e.words (stamp_of q) (child_at i ns))) → Hands x w p ns q (map_from (reader_takes u x e.words (stamp_of q)) 0 ns)
    readers-hands u gets =
        let g : ℕ → Node → Node = reader_takes u x e.words (stamp_of q) in
        let ms : List Node = map_from g 0 ns in
        brought-hands ms time (map_from-length g 0 ns) (λ b. kids-by x w p q ns ms b (gift ∷ []) g (λ i l. if-by (KidMoves x w b p q ns (Has x ns ms) (gift ∷ []) i (child_at i ns)) (is_reader u i) (child_take_data x e.words (stamp_of q) (child_at i ns)) (child_at i ns) (λ is. kid_given gift (inl refl) (has-told x g ns i l (subst (λ t. is_held (child_hold x (if t then child_take_data x e.words (stamp_of q) (child_at i ns) else child_at i ns)) ≡ true) (sym is) (gets i l is).holds) (gets i l is).free) (gets i l is).given) (λ no. kid_fewer (same-fewer x (child_at i ns))))) (words-more e.words _ _ parked) replies

    -- to one child, as an inject
    pub taker-hands : (d : ℕ) → (d < length ns → HasGot x e.words (stamp_of q) (child_at d ns) (child_take_inject x e.words (stamp_of q) (child_at d ns))) → Hands x w p ns q (map_from (only d (child_take_inject x e.words (stamp_of q))) 0 ns)
    taker-hands d gets =
        let f : Node → Node = child_take_inject x e.words (stamp_of q) in
        let g : ℕ → Node → Node = only d f in
        let ms : List Node = map_from g 0 ns in
        brought-hands ms time (map_from-length g 0 ns) (λ b. kids-by x w p q ns ms b (gift ∷ []) g (λ i l. if-by (KidMoves x w b p q ns (Has x ns ms) (gift ∷ []) i (child_at i ns)) (nat_eq i d) (f (child_at i ns)) (child_at i ns) (λ is.
        let got : HasGot x e.words (stamp_of q) (child_at i ns) (f (child_at i ns)) = taken i d is l gets in
        kid_given gift (inl refl) (has-told x g ns i l (subst (λ t. is_held (child_hold x (if t then f (child_at i ns) else child_at i ns)) ≡ true) (sym is) got.holds) got.free) got.given) (λ no. kid_fewer (same-fewer x (child_at i ns))))) (words-more e.words _ _ parked) replies where
          taken : (i d : ℕ) → nat_eq i d ≡ true → i < length ns → (d < length ns → HasGot x e.words (stamp_of q) (child_at d ns) (child_take_inject x e.words (stamp_of q) (child_at d ns))) → HasGot x e.words (stamp_of q) (child_at i ns) (child_take_inject x e.words (stamp_of q) (child_at i ns))
          taken i d is l gets =
              let same : i ≡ d = eqb-true i d is in
              subst (λ j. HasGot x e.words (stamp_of q) (child_at j ns) (child_take_inject x e.words (stamp_of q) (child_at j ns))) (sym same) (gets (subst (λ j. j < length ns) same l))

  -- into parking
  module _ (time : RowTime w p q) (parked : words_of_item x q.parked ≡ words_of_item x p.parked ++ e.words ∷ []) (replies : words_of_item x q.replies ≡ words_of_item x p.replies) where
    pub parking-hands : Hands x w p ns q ns
    parking-hands = brought-hands ns time refl (λ b i l. kid_fewer (same-fewer x (child_at i ns))) (words-behind e.words (words_of_item x q.parked) (words_of_item x p.parked) parked) replies
