-- A seed's turns name parts of the tree that they are made for.
use Rattle.std.proofs.Common.{◌≡◌, ℕ, zero, suc, ◌+◌, ◌-◌, ◌*◌, ◌/◌, ◌%◌, ◌<◌, Bool, true, false, List, [], ◌∷◌, length, Some, None, refl, ap, subst, sym, ◌∙◌, if◌then◌else◌, arith}
use Rattle.std.specs.Prelude.{All, nat_eq, nat_lt, slice_get, slice_index_or}
use Rattle.std.proofs.Math.Nat.{mod-lt}
use Rattle.std.proofs.lemmas.Bool.{eqb-false, lt-ltb, ltb-true, ltb-false}
use Rattle.std.proofs.lemmas.List.Elements.{All-nil, All-cons}
use Rattle.schedule_log.specs.DdmTypes.declared.turns.Turn.{Turn}
use Rattle.rand_pcg.specs.Lcg.{Lcg}
use Rattle.text_model.specs.Schedule.{ShapeView, child_fault, turn_fault}
use Rattle.text_model.specs.ReadBack.{IsTurnOf}
use Rattle.text_model.specs.Seeded.{bus_turn_from, seeded_generator, seeded_turn, seeded_turns, turns_of_words}
use Rattle.schedule_log.specs.Seeding.{SeededView, seeded_view, turns_left}
use Rattle.schedule_log.proofs.Seeds.{left_counted, none_left}

got : (xs : List ℕ) (k : ℕ) → k < length xs → slice_get xs k ≡ Some (slice_index_or xs k 0)
got [] k l = absurd (omega (arith, l))
got (x ∷ xs) zero l = refl
got (x ∷ xs) (suc k) l = got xs k (omega (arith, l))

module _ (shape : ShapeView) where
  hart_turn : (hart victim : ℕ) → hart < shape.harts → victim < 256 → IsTurnOf shape (Turn.Hart hart victim)
  unfolding turn_fault
  hart_turn hart victim inside few = record { of_shape = rw (lt-ltb hart shape.harts inside) refl; choice = few }

  child_known : (bus child : ℕ) → bus < length shape.buses → child < slice_index_or shape.buses bus 0 → child_fault child (slice_get shape.buses bus) ≡ None
  child_known bus child inside l = rw (got shape.buses bus inside, lt-ltb child (slice_index_or shape.buses bus 0) l) refl

  bus_turn : (bus choice source : ℕ) → bus < length shape.buses → choice < 256 → source < 1 + 3 * slice_index_or shape.buses bus 0 → IsTurnOf shape (bus_turn_from bus (slice_index_or shape.buses bus 0) choice source)
  unfolding turn_fault
  bus_turn bus choice source inside few within = by_first (nat_eq source 0) refl where
    n : ℕ
    n = slice_index_or shape.buses bus 0

    by_third : (b : Bool) → nat_lt source (2 * n + 1) ≡ b → nat_lt source (n + 1) ≡ false → IsTurnOf shape (if b then Turn.Reply bus (source - n - 1) else Turn.Leave bus (source - 2 * n - 1) choice)
    by_third true is past = record { of_shape = child_known bus (source - n - 1) inside (omega (arith, ltb-true source (2 * n + 1) is, ltb-false source (n + 1) past)); choice = omega arith }
    by_third false is past = record { of_shape = child_known bus (source - 2 * n - 1) inside (omega (arith, ltb-false source (2 * n + 1) is, within)); choice = few }

    by_second : (b : Bool) → nat_lt source (n + 1) ≡ b → nat_eq source 0 ≡ false → IsTurnOf shape (if b then Turn.Request bus (source - 1) else (if nat_lt source (2 * n + 1) then Turn.Reply bus (source - n - 1) else Turn.Leave bus (source - 2 * n - 1) choice))
    by_second true is past = record { of_shape = child_known bus (source - 1) inside (omega (arith, ltb-true source (n + 1) is, eqb-false source 0 past)); choice = omega arith }
    by_second false is past = by_third (nat_lt source (2 * n + 1)) refl is

    by_first : (b : Bool) → nat_eq source 0 ≡ b → IsTurnOf shape (if b then Turn.Down bus else (if nat_lt source (n + 1) then Turn.Request bus (source - 1) else (if nat_lt source (2 * n + 1) then Turn.Reply bus (source - n - 1) else Turn.Leave bus (source - 2 * n - 1) choice)))
    by_first true is = record { of_shape = rw (lt-ltb bus (length shape.buses) inside) refl; choice = omega arith }
    by_first false is = by_second (nat_lt source (n + 1)) refl is

  module _ (harts : 0 < shape.harts) (buses : 0 < length shape.buses) where
    turn_known : (a b : ℕ) → IsTurnOf shape (seeded_turn shape a b)
    unfolding seeded_turn
    turn_known a b = by_kind (nat_lt (a % 4) 2) where
      bus : ℕ
      bus = b % length shape.buses

      n : ℕ
      n = slice_index_or shape.buses bus 0

      choice_small : a / 4 % 16 < 256
      choice_small = let small : a / 4 % 16 < 16 = mod-lt (a / 4) (omega arith) in omega (arith, small)

      by_kind : (q : Bool) → IsTurnOf shape (if q then Turn.Hart (b % shape.harts) (b / shape.harts % 256) else bus_turn_from bus n (a / 4 % 16) (b / length shape.buses % (1 + 3 * n)))
      by_kind true = hart_turn (b % shape.harts) (b / shape.harts % 256) (mod-lt b harts) (mod-lt (b / shape.harts) (omega arith))
      by_kind false = bus_turn bus (a / 4 % 16) (b / length shape.buses % (1 + 3 * n)) (mod-lt b buses) choice_small (mod-lt (b / length shape.buses) (omega arith))

    turns_known : (words : List ℕ) → All (IsTurnOf shape) (turns_of_words shape words)
    unfolding turns_of_words
    turns_known [] = All-nil (IsTurnOf shape)
    turns_known (a ∷ []) = All-nil (IsTurnOf shape)
    turns_known (a ∷ b ∷ words) = All-cons (IsTurnOf shape) (seeded_turn shape a b) (turns_of_words shape words) (turn_known a b) (turns_known words)

    pub seeded_known : (seed count : ℕ) → All (IsTurnOf shape) (seeded_turns shape seed count)
    unfolding seeded_turns
    seeded_known seed count = turns_known _

-- a generator's turns
seeded_from : (shape : ShapeView) (g : Lcg) (seed count : ℕ) → g ≡ seeded_generator seed → turns_left shape g count ≡ seeded_turns shape seed count
unfolding seeded_turns
seeded_from shape g seed count same = ap (λ (k : Lcg). turns_left shape k count) same

pub seeded_count : (shape : ShapeView) (seed count : ℕ) → length (seeded_turns shape seed count) ≡ count
unfolding seeded_turns
seeded_count shape seed count = left_counted shape (seeded_generator seed) count

-- a seed begins
pub begun : (shape : ShapeView) (g : Lcg) (seed count : ℕ) (before : SeededView) → g ≡ seeded_generator seed → shape ≡ before.shape
    → seeded_view shape.harts shape.buses g count ≡ record before { left = seeded_turns before.shape seed count }
begun shape g seed count before same of = ap (λ (ts : List Turn). viewed shape ts) (seeded_from shape g seed count same) ∙ ap (λ (t : ShapeView). viewed t (seeded_turns t seed count)) of
  where
    viewed : ShapeView → List Turn → SeededView
    viewed shape turns = record { shape = shape; left = turns }

-- and its turns name parts of the tree
pub begun_known : (shape : ShapeView) (g : Lcg) (seed count : ℕ) (before : SeededView) → g ≡ seeded_generator seed → shape ≡ before.shape → 0 < shape.harts → 0 < length shape.buses
    → All (IsTurnOf before.shape) (turns_left shape g count)
begun_known shape g seed count before same of harts buses =
    subst (All (IsTurnOf before.shape)) (sym (seeded_from shape g seed count same)) (subst (λ (t : ShapeView). All (IsTurnOf t) (seeded_turns shape seed count)) of (seeded_known shape harts buses seed count))

-- no turn is left before
pub none_begun : (shape : ShapeView) (harts : ℕ) (buses : List ℕ) (g : Lcg) → harts ≡ shape.harts → buses ≡ shape.buses → seeded_view harts buses g 0 ≡ record { shape = shape; left = [] }
none_begun shape harts buses g same_harts same_buses =
    ap (λ (h : ℕ). seeded_view h buses g 0) same_harts ∙ ap (λ (ws : List ℕ). seeded_view shape.harts ws g 0) same_buses ∙ ap (viewed shape) (none_left shape g)
  where
    viewed : ShapeView → List Turn → SeededView
    viewed shape turns = record { shape = shape; left = turns }
