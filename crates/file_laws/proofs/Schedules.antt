-- The text of a seed's turns is read back, where the tree is that of an accepted file: its numbers are small.
-- Letters: t is a tree, l a level.
use Rattle.std.proofs.Common.{◌≡◌, ℕ, ◌+◌, ◌<◌, ◌≤◌, true, List, [], ◌∷◌, ◌++◌, length, refl, sym, ap, subst, ◌∙◌, arith}
use Rattle.std.specs.Prelude.{◌*◌, All, sum, nat_le}
use Rattle.std.specs.List.{flat_map, list_all}
use Rattle.std.proofs.lemmas.Bool.{and_parts, leb-true}
use Rattle.std.proofs.lemmas.List.{length-append}
use Rattle.std.proofs.lemmas.List.Concat.{flat_map-cons}
use Rattle.std.proofs.lemmas.List.Elements.{All-nil, All-cons}
use Rattle.std.proofs.lemmas.List.Folds.{list_all-append}
use Rattle.std.proofs.lemmas.List.Sums.{sum_by-cons}
use Rattle.file_laws.specs.TreeModel.Start.Sources.{last_level}
use Rattle.file_laws.specs.TextModel.ReadBack.{IsSmallShape}
use Rattle.file_laws.specs.TextModel.Seeded.{seeded_turns}
use Rattle.schedule_log.specs.Shapes.{shape_view}
use Rattle.schedule_log.proofs.SeedTurns.{seeded_count, seeded_known}
use Rattle.tree_config.specs.Levels.{AreUnder, IsShape, is_width, leaves_of, widths_of}
use Rattle.file_laws.specs.Schedules.{SeededSchedulesAreReadBack}
use Rattle.file_laws.proofs.Trees.{accepted_tree}
use Rattle.text_model.proofs.ReadBack.{schedule_of-schedule_text}

-- ---- how many leaves and buses

abbrev pub flat : List (List ℕ) → List ℕ
flat ls = flat_map (λ l. l) ls

abbrev pub AreWide : List ℕ → Type 0
AreWide ns = list_all is_width ns ≡ true

pub first-wide : (l : List ℕ) (ls : List (List ℕ)) → AreWide (flat (l ∷ ls)) → AreWide l × AreWide (flat ls)
first-wide l ls h =
    let split : AreWide (l ++ flat ls) = subst AreWide (flat_map-cons (λ (l : List ℕ). l) l ls) h in
    and_parts (list_all is_width l) (list_all is_width (flat ls)) (sym (list_all-append is_width l (flat ls)) ∙ split)

pub width-bounds : (k : ℕ) → is_width k ≡ true → (1 ≤ k) × (k ≤ 16)
width-bounds k h = let parts = and_parts (nat_le 1 k) (nat_le k 16) h in (leb-true 1 k parts.0, leb-true k 16 parts.1)

-- a level has no fewer children than buses
pub widens : (l : List ℕ) → AreWide l → length l ≤ sum l
widens [] h = omega arith
widens (k ∷ l) h =
    let parts = and_parts (is_width k) (list_all is_width l) h in
    let here = (width-bounds k parts.0).0 in
    let rest = widens l parts.1 in
    let total = sum_by-cons (λ (x : ℕ). x) k l in
    omega arith

-- how many leaves, where the first level has this many buses
abbrev pub leaves_under : ℕ → List (List ℕ) → ℕ
leaves_under n [] = n
leaves_under n (l ∷ ls) = leaves_under (sum l) ls

pub leaves-last : (l : List ℕ) (ls : List (List ℕ)) → sum (last_level (l ∷ ls)) ≡ leaves_under (sum l) ls
leaves-last l [] = refl
leaves-last l (m ∷ ls) = leaves-last m ls

pub most-under : (n : ℕ) (ls : List (List ℕ)) → AreUnder n ls → AreWide (flat ls) → n ≤ leaves_under n ls
most-under n [] under wide = omega arith
most-under n (l ∷ ls) under wide =
    let parts = first-wide l ls wide in
    let here = widens l parts.0 in
    let rest = most-under (sum l) ls under.1 parts.1 in
    omega (arith, here, rest, under.0)

few-buses : (n : ℕ) (ls : List (List ℕ)) → AreUnder n ls → AreWide (flat ls) → leaves_under n ls ≤ 64 → length (flat ls) ≤ length ls * 64
few-buses n [] under wide few = omega arith
few-buses n (l ∷ ls) under wide few =
    let parts = first-wide l ls wide in
    let all = most-under n (l ∷ ls) under wide in
    let rest = few-buses (sum l) ls under.1 parts.1 few in
    let size : length (flat (l ∷ ls)) ≡ length l + length (flat ls) = ap length (flat_map-cons (λ (l : List ℕ). l) l ls) ∙ length-append l (flat ls) in
    let longer : length (l ∷ ls) * 64 ≡ 64 + length ls * 64 = omega arith in
    omega (arith, all, rest, size, longer, under.0, few)

narrow : (ns : List ℕ) → AreWide ns → All (λ n. n ≤ 1000) ns
narrow [] h = All-nil (λ n. n ≤ 1000)
narrow (n ∷ ns) h =
    let parts = and_parts (is_width n) (list_all is_width ns) h in
    let few = (width-bounds n parts.0).1 in
    All-cons (λ n. n ≤ 1000) n ns (omega (arith, few)) (narrow ns parts.1)

-- ---- a shape that is accepted

record IsSmallTree (levels : List (List ℕ)) : Type 0 where
  small : IsSmallShape (shape_view levels)
  harts : 0 < leaves_of levels
  buses : 0 < length (widths_of levels)

small-tree : (levels : List (List ℕ)) → IsShape levels → IsSmallTree levels
small-tree [] shape = absurd (omega (arith, shape.some))
small-tree (l ∷ ls) shape =
    let parts = first-wide l ls shape.widths in
    let leaves = leaves-last l ls in
    let under : leaves_under 1 (l ∷ ls) ≤ 64 = subst (λ n. n ≤ 64) leaves shape.leaves in
    let few = few-buses 1 (l ∷ ls) shape.under shape.widths under in
    let some = most-under 1 (l ∷ ls) shape.under shape.widths in
    let size : length (flat (l ∷ ls)) ≡ length l + length (flat ls) = ap length (flat_map-cons (λ (l : List ℕ). l) l ls) ∙ length-append l (flat ls) in
    record {
      small = record { harts = omega (arith, shape.leaves); buses = omega (arith, few, shape.depth); children = narrow (flat (l ∷ ls)) shape.widths };
      harts = subst (λ n. 0 < n) (sym leaves) (omega (arith, some));
      buses = omega (arith, size, shape.under.0);
    }

-- ---- a seed's turns

pub seeded-read : SeededSchedulesAreReadBack
seeded-read file t is seed count few =
    let tree = accepted_tree file t is in
    let small = small-tree t.levels tree.shape in
    let size = seeded_count (shape_view t.levels) seed count in
    schedule_of-schedule_text (shape_view t.levels) 0 (seeded_turns (shape_view t.levels) seed count) small.small (seeded_known (shape_view t.levels) small.harts small.buses seed count) (omega (arith, size, few))
