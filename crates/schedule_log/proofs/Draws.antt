-- The turns of a tree's buses, in lists.
use Rattle.std.proofs.Common.{◌≡◌, ℕ, ◌+◌, ◌*◌, ◌/◌, ◌%◌, ◌<◌, ◌≤◌, Bool, true, false, List, [], ◌∷◌, length, get_or, refl, replicate, sym, ap, subst, ◌∙◌, add_assoc, add-mul, div-add-mod', mul-pos, mul_assoc, mul_comm, arith}
use Rattle.std.specs.List.{range_with_len}
use Rattle.std.specs.Prelude.{nat_lt, slice_index_or}
use Rattle.std.proofs.lemmas.Simd.{map-map}
use Rattle.std.proofs.lemmas.List.{get_or-replicate, length-map, length-replicate}
use Rattle.std.proofs.lemmas.List.FromFn.{fill_by_all, get_or-map-range_with_len, length-map-range_with_len}
use Rattle.std.proofs.lemmas.Nat.{div-mul-add, div_below, mod-mul-add, mod_below}
use Rattle.schedule_log.specs.DdmTypes.declared.turns.Turn.{Turn}
use Rattle.std.proofs.lemmas.Bool.{le-ltb, ltb-true, ltb-false}
use Rattle.text_model.specs.Schedule.{ShapeView}
use Rattle.text_model.specs.Seeded.{bus_turn_from, seeded_turn}
use Rattle.schedule_log.specs.Seeding.{AreEven, OneBus, IsDrawnFrom, bus_at, buses_of, even_turn_at, turn_at, widths_in}

-- ---- the turns of a bus

-- where the turn of a source with a choice stands
pub place_inside : (bus children sources source choice word : ℕ) (turns : List Turn) → IsDrawnFrom bus children sources turns → source ≡ word % sources → choice < 16 → source * 16 + choice < length turns
place_inside bus children sources source choice word turns drawn is few =
    let within : word % sources < sources = mod_below word sources (omega (arith, drawn.sources)) in
    let count : length turns ≡ (1 + 3 * children) * 16 = ap length drawn.turns ∙ length-map-range_with_len (turn_at bus children) 0 ((1 + 3 * children) * 16) in
    omega (arith, within, count, is, few, drawn.sources)

pub stands_there : (bus children sources source choice word : ℕ) (turns : List Turn) (turn : Turn) → IsDrawnFrom bus children sources turns → source ≡ word % sources → choice < 16
    → get_or turns (source * 16 + choice) turn ≡ bus_turn_from bus children choice (word % (1 + 3 * children))
stands_there bus children sources source choice word turns turn drawn is few =
    let place = source * 16 + choice in
    let within : word % sources < sources = mod_below word sources (omega (arith, drawn.sources)) in
    ap (λ ts. get_or ts place turn) drawn.turns
    ∙ get_or-map-range_with_len (turn_at bus children) 0 ((1 + 3 * children) * 16) place place turn (omega (arith, within, is, few, drawn.sources)) (omega arith)
    ∙ ap (λ (c : ℕ). bus_turn_from bus children c (place / 16)) (mod-mul-add source 16 choice few)
    ∙ ap (λ (s : ℕ). bus_turn_from bus children choice s) (div-mul-add source 16 choice few ∙ is ∙ ap (λ (s : ℕ). word % s) drawn.sources)

-- ---- buses that have as many children each

-- a bus and its source, drawn at once
both_drawn : (b buses sources : ℕ) → 0 < buses → 0 < sources → (b % (buses * sources) % buses ≡ b % buses) × (b % (buses * sources) / buses ≡ b / buses % sources)
both_drawn b buses sources some some_sources =
    let all = buses * sources in
    let part = b % all in
    let bus = part % buses in
    let source = part / buses in
    let times = b / all in
    let inside : bus < buses = mod_below part buses some in
    let within : source < sources = div_below part buses sources some (subst (λ n. part < n) (mul_comm buses sources) (mod_below b all (mul-pos some some_sources))) in
    let folded : (times * sources + source) * buses + bus ≡ b =
    ap (λ n. n + bus) (add-mul (times * sources) source buses) ∙ add_assoc (times * sources * buses) (source * buses) bus
    ∙ ap (λ n. times * sources * buses + n) (div-add-mod' part buses)
    ∙ ap (λ n. n + part) (mul_assoc times sources buses ∙ ap (λ n. times * n) (mul_comm sources buses)) ∙ div-add-mod' b all in (
      sym (mod-mul-add (times * sources + source) buses bus inside) ∙ ap (λ n. n % buses) folded,
      sym (mod-mul-add times sources source within) ∙ ap (λ n. n % sources) (sym (div-mul-add (times * sources + source) buses bus inside) ∙ ap (λ n. n / buses) folded),
    )

-- where the turn of a source with a choice stands
pub even_inside : (buses children sources b choice : ℕ) (turns : List Turn) → AreEven buses children sources turns → choice < 16 → b % sources * 16 + choice < length turns
even_inside buses children sources b choice turns drawn few =
    let some : 0 < sources = subst (λ n. 0 < n) (sym drawn.all) (mul-pos drawn.some (omega arith)) in
    let within : b % sources < sources = mod_below b sources some in
    let count : length turns ≡ buses * (1 + 3 * children) * 16 = ap length drawn.turns ∙ length-map-range_with_len (even_turn_at buses children) 0 (buses * (1 + 3 * children) * 16) in
    let all : sources * 16 ≡ buses * (1 + 3 * children) * 16 = ap (λ n. n * 16) drawn.all in
    omega (arith, within, count, all, few)

-- the turn of a bus by two words
pub by_even : (harts buses children sources a b : ℕ) (turns : List Turn) (turn : Turn) → AreEven buses children sources turns → 2 ≤ a % 4
    → get_or turns (b % sources * 16 + a / 4 % 16) turn ≡ seeded_turn (record { harts = harts; buses = replicate buses children }) a b
unfolding seeded_turn
by_even harts buses children sources a b turns turn drawn high =
    rw (le-ltb (a % 4) 2 high)
    (ap (λ ts. get_or ts place turn) drawn.turns
    ∙ get_or-map-range_with_len (even_turn_at buses children) 0 (buses * (1 + 3 * children) * 16) place place turn inside (omega arith)
    ∙ ap (λ (n : ℕ). bus_turn_from (place / 16 % buses) children n (place / 16 / buses)) (mod-mul-add part 16 choice few)
    ∙ ap (λ (n : ℕ). bus_turn_from (n % buses) children choice (n / buses)) (div-mul-add part 16 choice few ∙ ap (λ n. b % n) drawn.all)
    ∙ ap (λ (n : ℕ). bus_turn_from n children choice (b % all / buses)) both.0
    ∙ ap (λ (n : ℕ). bus_turn_from (b % buses) children choice n) both.1
    ∙ ap (λ (n : ℕ). of buses n) (sym (get_or-replicate buses (b % buses) children 0 (mod_below b buses drawn.some)))
    ∙ ap (λ (k : ℕ). of k (slice_index_or widths (b % k) 0)) (sym (length-replicate buses children)))
  where
    widths : List ℕ
    widths = replicate buses children

    all : ℕ
    all = buses * (1 + 3 * children)

    part : ℕ
    part = b % sources

    choice : ℕ
    choice = a / 4 % 16

    place : ℕ
    place = part * 16 + choice

    few : choice < 16
    few = mod_below (a / 4) 16 (omega arith)

    inside : place < buses * (1 + 3 * children) * 16
    inside = subst (λ n. place < n) (ap length drawn.turns ∙ length-map-range_with_len (even_turn_at buses children) 0 (buses * (1 + 3 * children) * 16)) (even_inside buses children sources b choice turns drawn few)

    both : (b % all % buses ≡ b % buses) × (b % all / buses ≡ b / buses % (1 + 3 * children))
    both = both_drawn b buses (1 + 3 * children) drawn.some (omega arith)

    of : ℕ → ℕ → Turn
    of k n = bus_turn_from (b % k) n choice (b / k % (1 + 3 * n))

-- ---- the buses of a tree

-- with the numbers of children of its buses
pub widths_in_buses : (widths : List ℕ) → widths_in (buses_of widths) ≡ widths
widths_in_buses widths = map-map (λ (b : OneBus). b.children) (bus_at widths) (range_with_len 0 (length widths)) ∙ sym (fill_by_all (λ k. slice_index_or widths k 0) widths (length widths) 0 refl (λ k h. refl))

pub bus_in : (list : List OneBus) (bus : ℕ) (one : OneBus) → list ≡ buses_of (widths_in list) → bus < length list → one ≡ get_or list bus one → one ≡ bus_at (widths_in list) bus
bus_in list bus one each inside is =
    is ∙ ap (λ (l : List OneBus). get_or l bus one) each
    ∙ get_or-map-range_with_len (bus_at (widths_in list)) 0 (length (widths_in list)) bus bus one (omega (arith, inside, length-map list (λ (b : OneBus). b.children))) (omega arith)

-- the turn of a bus by two words
pub by_bus : (harts : ℕ) (list : List OneBus) (buses a b bus word : ℕ) (one : OneBus) (turn : Turn) → list ≡ buses_of (widths_in list) → buses ≡ length list → 1 ≤ buses → word ≡ b / buses → bus ≡ b % buses → one ≡ get_or list bus one
    → turn ≡ bus_turn_from one.bus one.children (a / 4 % 16) (word % (1 + 3 * one.children)) → 2 ≤ a % 4 → turn ≡ seeded_turn (record { harts = harts; buses = widths_in list }) a b
unfolding seeded_turn
by_bus harts list buses a b bus word one turn each number some rest place there is high =
    let widths = widths_in list in
    let drawn : ℕ → ℕ → Turn = λ k w. bus_turn_from k (slice_index_or widths k 0) (a / 4 % 16) (w % (1 + 3 * slice_index_or widths k 0)) in
    let inside : bus < length list = omega (arith, place, number, mod_below b buses (omega (arith, some))) in
    let count : buses ≡ length widths = number ∙ sym (length-map list (λ (o : OneBus). o.children)) in
    let here : turn ≡ drawn bus word = is ∙ ap (λ (o : OneBus). bus_turn_from o.bus o.children (a / 4 % 16) (word % (1 + 3 * o.children))) (bus_in list bus one each inside there) in
    rw (le-ltb (a % 4) 2 high)
    (here ∙ ap (λ (w : ℕ). drawn bus w) rest ∙ ap (λ (k : ℕ). drawn k (b / buses)) place ∙ ap (λ (n : ℕ). drawn (b % n) (b / n)) count)

-- the turn of a hart by two words
hart_drawn : (shape : ShapeView) (a b : ℕ) → nat_lt (a % 4) 2 ≡ true → Turn.Hart (b % shape.harts) (b / shape.harts % 256) ≡ seeded_turn shape a b
unfolding seeded_turn
hart_drawn shape a b low = rw low refl

-- the turn of two words: a hart's stands before that of a bus
pub by_half : (shape : ShapeView) (a b hart victim : ℕ) (turn other : Turn) → hart ≡ b % shape.harts → victim ≡ b / shape.harts → (2 ≤ a % 4 → turn ≡ seeded_turn shape a b)
    → slice_index_or (Turn.Hart hart (victim % 256) ∷ turn ∷ []) (a / 2 % 2) other ≡ seeded_turn shape a b
by_half shape a b hart victim turn other rest quotient drawn = by_kind (nat_lt (a % 4) 2) refl where
  stands : ℕ → Turn
  stands k = slice_index_or (Turn.Hart hart (victim % 256) ∷ turn ∷ []) k other

  by_kind : (low : Bool) → nat_lt (a % 4) 2 ≡ low → stands (a / 2 % 2) ≡ seeded_turn shape a b
  by_kind true low =
      let few : a % 4 < 2 = ltb-true (a % 4) 2 low in
      let first : a / 2 % 2 ≡ 0 = omega (arith, few) in
      ap stands first ∙ ap (λ (h : ℕ). Turn.Hart h (victim % 256)) rest ∙ ap (λ (v : ℕ). Turn.Hart (b % shape.harts) (v % 256)) quotient ∙ hart_drawn shape a b low
  by_kind false high =
      let many : 2 ≤ a % 4 = ltb-false (a % 4) 2 high in
      let second : a / 2 % 2 ≡ 1 = omega (arith, many) in
      ap stands second ∙ drawn many
