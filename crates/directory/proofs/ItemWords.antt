-- The words of a table of items.
use Rattle.std.proofs.Common.{◌≡◌, ap, sym, subst, refl, ℕ, zero, suc, ◌<◌, List, [], ◌∷◌, length, map, get_or, arith}
use Rattle.std.specs.List.{All}
use Rattle.std.proofs.Math.ListN.{replicate}
use Rattle.std.proofs.lemmas.List.{length-map}
use Rattle.std.proofs.lemmas.List.Elements.{All-get_or, All-head, All-tail}
use Rattle.directory.specs.Packed.{packed_item, unpacked_item, IsPacked}

-- a number of the table is one of its words
pub word-within : {X : Type 0} (f : ℕ → X) (ws : List ℕ) (t : List X) (i x : ℕ) → map f ws ≡ t → i ≡ x → x < length t → i < length ws
word-within f ws t i x is same below = omega (arith, ap length is, length-map ws f)

-- each word of a table is one of an item
pub packed-at : (ws : List ℕ) (i w : ℕ) → All IsPacked ws → i < length ws → w ≡ get_or ws i w → IsPacked w
packed-at ws i w all below is = subst IsPacked (sym is) (All-get_or IsPacked ws i w below all)

pub map-replicate : {X Y : Type 0} (f : X → Y) (n : ℕ) (x : X) → map f (replicate n x) ≡ replicate n (f x)
map-replicate f zero x = refl
map-replicate f (suc n) x = ap (λ ys. f x ∷ ys) (map-replicate f n x)

-- a table gives its words back
pub words-again : (ws : List ℕ) → All IsPacked ws → map packed_item (map unpacked_item ws) ≡ ws
words-again [] all = refl
words-again (w ∷ ws) all = rw (All-head IsPacked w ws all).same (ap (λ l. w ∷ l) (words-again ws (All-tail IsPacked w ws all)))
