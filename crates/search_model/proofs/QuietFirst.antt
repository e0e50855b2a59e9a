-- Where a hart has a quiet turn, it may be tried alone: so the search that tries it first is right.
-- Letters: m and n are machines, t and u are turns, k is the number of a hart, v a leaf.
use Rattle.std.proofs.Common.{◌≡◌, ℕ, Bool, true, false, List, [], ◌∷◌, ◌++◌, map, length, nat_eq, refl, sym, ap, subst, ◌∙◌, inl, arith, append-nil, true≢false}
use Rattle.std.specs.List.{list_all}
use Rattle.std.proofs.lemmas.Bool.{eqb-true, eq-eqb}
use Rattle.search_model.specs.DdmTypes.declared.turns.Turn.{Turn}
use Rattle.search_model.specs.DdmTypes.CodeMap.{CodeWord}
use Rattle.search_model.specs.DdmTypes.ItemTable.{ItemTable}
use Rattle.search_model.specs.FlatModel.Hart.{HartValue, Action}
use Rattle.tree_model.specs.declared.Traffic.{Traffic}
use Rattle.tree_model.specs.State.Shape.{Frame, frame_of}
use Rattle.tree_model.specs.State.Values.{LeafValue, Node, Nodes, leaf_node, dir_node, no_nodes, more_nodes, MachineValue, root_of}
use Rattle.tree_model.specs.Turns.Machine.{no_traffic, named_by, leaves_of, leaves_among, machine_leaves, turn_of}
use Rattle.tree_model.proofs.FrameKept.{turn-frame}
use Rattle.time_laws.specs.Forget.{forget_node, forget_nodes, forget_traffic, put_bytes, put_in, Alike}
use Rattle.time_laws.proofs.Alike.{turn-puts}
use Rattle.outcome_model.specs.Halted.{all_halted, has_halted}
use Rattle.search_laws.specs.Space.{IsOneOf}
use Rattle.search_laws.specs.Rules.{Enough, quiet_one, all_others, Beside, instead, swapped}
use Rattle.search_laws.proofs.Lists.{all-each, filter-part, filter-passing}
use Rattle.search_laws.proofs.Right.{search-right}
use Rattle.search_model.specs.Tried.{doing_turns, is_quiet, quiet_turns, first_or, tried_turns}
use Rattle.search_model.specs.Machines.{quiet_space, has_ways}
use Rattle.search_model.specs.TurnClaims.{QuietTurnsGoFirst}
use Rattle.search_model.specs.Claims.{QuietSearchIsRight}
use Rattle.search_model.proofs.AlikeSpace.{keeps-alike, ends-stay}
use Rattle.search_model.proofs.AlikeTurns.{tried-alike}
use Rattle.search_model.proofs.Fit.{turn-ways, doing-tried}
use Rattle.search_model.proofs.Members.{in-map, filter-holds, map-each, made-of}
use Rattle.search_model.proofs.Quieted.{quieted}
use Rattle.search_model.proofs.StillHart.{IsApart, other-puts, puts_by, puts-apart, IsStill, still-root, still-puts, still-quiet, still-leaf, still-after, answers-same, roots-same, StillHart, quiet-still}

-- ---- machines that are alike

module _ (f : ℕ → List ℕ) where
  abbrev by_number : List LeafValue → List (List ℕ)
  by_number vs = map (λ (v : LeafValue). f v.number) vs

  mutual
    numbers-forgotten : (n : Node) (rest later : List LeafValue) → by_number rest ≡ by_number later → by_number (leaves_of n rest) ≡ by_number (leaves_of (forget_node n) later)
    numbers-forgotten (leaf_node v) rest later same = ap (λ l. f v.number ∷ l) same
    numbers-forgotten (dir_node d ns) rest later same = numbers_among-forgotten ns rest later same

    numbers_among-forgotten : (ns : Nodes) (rest later : List LeafValue) → by_number rest ≡ by_number later → by_number (leaves_among ns rest) ≡ by_number (leaves_among (forget_nodes ns) later)
    numbers_among-forgotten no_nodes rest later same = same
    numbers_among-forgotten (more_nodes n ns) rest later same = numbers-forgotten n (leaves_among ns rest) (leaves_among (forget_nodes ns) later) (numbers_among-forgotten ns rest later same)

  numbers-same : (n m : Node) → forget_node n ≡ forget_node m → by_number (leaves_of n []) ≡ by_number (leaves_of m [])
  numbers-same n m same = numbers-forgotten n [] [] refl ∙ ap (λ k. by_number (leaves_of k [])) same ∙ sym (numbers-forgotten m [] [] refl)

traffic-same : (ts us : List Traffic) → length ts ≡ length us → forget_traffic ts ≡ forget_traffic us
traffic-same [] [] same = refl
traffic-same [] (u ∷ us) same = absurd (omega (arith, same))
traffic-same (t ∷ ts) [] same = absurd (omega (arith, same))
traffic-same (t ∷ ts) (u ∷ us) same = let fewer : length ts ≡ length us = omega (arith, same) in ap (λ l. no_traffic ∷ l) (traffic-same ts us fewer)

-- a machine of parts, without operations
abbrev made_of : MachineValue → List CodeWord → ItemTable → Node → List Traffic → MachineValue
made_of other code items (leaf_node v) traffic = other
made_of other code items (dir_node d ns) traffic = record { code = code; items = items; top = d; kids = ns; ops = []; traffic = traffic }

alike-by : (m n : MachineValue) → frame_of m ≡ frame_of n → forget_node (root_of m) ≡ forget_node (root_of n) → ((k : ℕ) → put_bytes k m ≡ put_bytes k n) → Alike m n
alike-by m n frame root puts = record {
  state =
      let code : m.code ≡ n.code = ap (λ (f : Frame). f.code) frame in
      let items : m.items ≡ n.items = ap (λ (f : Frame). f.items) frame in
      let counted : length m.traffic ≡ length n.traffic = ap (λ (f : Frame). f.counted) frame in
      ap (λ c. made_of m c m.items (forget_node (root_of m)) (forget_traffic m.traffic)) code ∙ ap (λ i. made_of m n.code i (forget_node (root_of m)) (forget_traffic m.traffic)) items
      ∙ ap (λ r. made_of m n.code n.items r (forget_traffic m.traffic)) root ∙ ap (made_of m n.code n.items (forget_node (root_of n))) (traffic-same m.traffic n.traffic counted);
  puts = map-each (λ (v : LeafValue). put_bytes v.number m) (λ (v : LeafValue). put_bytes v.number n) (λ v. puts v.number) (machine_leaves m) ∙ numbers-same (λ k. put_bytes k n) (root_of m) (root_of n) root;
}

-- ---- beside a quiet turn

-- bytes that none stand behind
past-nothing : (b u p : List ℕ) → p ≡ [] → (b ++ u) ++ p ≡ (b ++ p) ++ u
past-nothing b u p none = ap (λ l. (b ++ u) ++ l) none ∙ append-nil (b ++ u) ∙ sym (ap (λ l. l ++ u) (ap (λ l. b ++ l) none ∙ append-nil b))

module _ (number : ℕ) (action : Action) (hart : HartValue) (done : ℕ) (m : MachineValue) (still : IsStill number action hart done m) where
  abbrev t : Turn
  t = Turn.Hart number 0

  abbrev m_t : MachineValue
  m_t = (turn_of t m).machine

  is-quiet-turn : IsOneOf (quiet_turns m) t
  unfolding quiet_turns
  is-quiet-turn =
      let leaf = still-leaf number action hart done m still in
      let harts = map (λ (v : LeafValue). Turn.Hart v.number 0) (machine_leaves m) in
      let listed : IsOneOf harts t = subst (λ k. IsOneOf harts (Turn.Hart k 0)) leaf.named (in-map (λ (v : LeafValue). Turn.Hart v.number 0) (machine_leaves m) leaf.leaf leaf.listed) in
      filter-passing (is_quiet m) harts t listed (still-quiet number action hart done m still 0)

  -- another victim does the same
  same-alike : (victim : ℕ) → Alike (turn_of (Turn.Hart number victim) m).machine m_t
  same-alike victim =
      let u = Turn.Hart number victim in
      alike-by (turn_of u m).machine m_t (turn-frame u m ∙ sym (turn-frame t m)) (ap forget_node (still-root number action hart done m still victim ∙ sym (still-root number action hart done m still 0)))
      (λ k. turn-puts k u m ∙ ap (λ l. put_bytes k m ++ l) (still-puts number action hart done m still victim k ∙ sym (still-puts number action hart done m still 0 k)) ∙ sym (turn-puts k t m))

  module _ (u : Turn) (apart : IsApart number (named_by u)) where
    abbrev m_u : MachineValue
    m_u = (turn_of u m).machine

    later : IsStill number action hart done m_u
    later = still-after number action hart done m still u apart

    code : m_t.code ≡ m.code
    code = ap (λ (f : Frame). f.code) (turn-frame t m)

    items : m_t.items ≡ m.items
    items = ap (λ (f : Frame). f.items) (turn-frame t m)

    root : root_of m_t ≡ quieted number action hart done (root_of m)
    root = still-root number action hart done m still 0

    -- at most one of the two puts something out for a hart
    puts-past : (k : ℕ) → (put_bytes k m ++ put_in k (turn_of u m).answer) ++ puts_by action number k ≡ (put_bytes k m ++ puts_by action number k) ++ put_in k (turn_of u m).answer
    puts-past k = elim (nat_eq number k) as (λ b. nat_eq number k ≡ b → (put_bytes k m ++ put_in k (turn_of u m).answer) ++ puts_by action number k ≡ (put_bytes k m ++ puts_by action number k) ++ put_in k (turn_of u m).answer) [
      | true ↦ λ is.
          let none : put_in k (turn_of u m).answer ≡ [] = subst (λ j. put_in j (turn_of u m).answer ≡ []) (eqb-true number k is) (other-puts number u m apart) in
          sym (past-nothing (put_bytes k m) (puts_by action number k) (put_in k (turn_of u m).answer) none)
      | false ↦ λ is. past-nothing (put_bytes k m) (put_in k (turn_of u m).answer) (puts_by action number k) (puts-apart action number k is)
    ] refl

    puts-same : (k : ℕ) → put_bytes k (turn_of t m_u).machine ≡ put_bytes k (turn_of u m_t).machine
    puts-same k =
        let first : put_bytes k (turn_of t m_u).machine ≡ (put_bytes k m ++ put_in k (turn_of u m).answer) ++ puts_by action number k =
        turn-puts k t m_u ∙ ap (λ l. l ++ put_in k (turn_of t m_u).answer) (turn-puts k u m) ∙ ap (λ l. (put_bytes k m ++ put_in k (turn_of u m).answer) ++ l) (still-puts number action hart done m_u later 0 k) in
        let second : put_bytes k (turn_of u m_t).machine ≡ (put_bytes k m ++ puts_by action number k) ++ put_in k (turn_of u m).answer =
        turn-puts k u m_t ∙ ap (λ l. l ++ put_in k (turn_of u m_t).answer) (turn-puts k t m ∙ ap (λ l. put_bytes k m ++ l) (still-puts number action hart done m still 0 k))
        ∙ ap (λ a. (put_bytes k m ++ puts_by action number k) ++ put_in k a) (answers-same number action hart done m still u apart m_t code items root) in
        first ∙ puts-past k ∙ sym second

    swapped-alike : Alike (turn_of t m_u).machine (turn_of u m_t).machine
    swapped-alike =
        alike-by (turn_of t m_u).machine (turn_of u m_t).machine (turn-frame t m_u ∙ turn-frame u m ∙ sym (turn-frame t m) ∙ sym (turn-frame u m_t))
        (ap forget_node (still-root number action hart done m_u later 0) ∙ sym (roots-same number action hart done m still u apart m_t code items root)) puts-same

-- ---- quiet turns first

abbrev IsQuietTurn : MachineValue → Turn → Type 0
IsQuietTurn m t = IsOneOf (quiet_turns m) t

-- a quiet turn is that of a hart at a quiet instruction
record QuietTurn (m : MachineValue) (t : Turn) : Type 0 where
  number : ℕ
  is : Turn.Hart number 0 ≡ t
  hart : StillHart number m

quiet-turn : (m : MachineValue) (t : Turn) → IsQuietTurn m t → QuietTurn m t
unfolding quiet_turns
quiet-turn m t i =
    let harts = map (λ (v : LeafValue). Turn.Hart v.number 0) (machine_leaves m) in
    let from = made-of (λ (v : LeafValue). Turn.Hart v.number 0) (machine_leaves m) t (filter-part (is_quiet m) harts t i) in
    record { number = from.source.number; is = from.is; hart = quiet-still from.source.number 0 m (ap (is_quiet m) from.is ∙ filter-holds (is_quiet m) harts t i) }

-- some hart hasn't halted
quiet-runs : (m : MachineValue) (t : Turn) → IsQuietTurn m t → all_halted m ≡ false
unfolding all_halted
quiet-runs m t i =
    let q = quiet-turn m t i in
    let leaf = still-leaf q.number q.hart.action q.hart.hart q.hart.done m q.hart.still in
    elim (list_all has_halted (machine_leaves m)) as (λ b. list_all has_halted (machine_leaves m) ≡ b → b ≡ false) [
      | true ↦ λ all. absurd (true≢false (sym (all-each has_halted (machine_leaves m) all leaf.leaf leaf.listed) ∙ leaf.goes_on))
      | false ↦ λ all. refl
    ] refl

first-some : (ts others : List Turn) (t : Turn) → IsOneOf ts t → first_or ts others ≡ [] → ⊥
first-some [] others t i none = i
first-some (u ∷ us) others t i none = cc

module _ (same : MachineValue → MachineValue → Bool) where
  module _ (m : MachineValue) where
    abbrev IsBeside : Turn → Turn → Type 0
    IsBeside t u = Beside (quiet_space same) Alike IsQuietTurn m t u

    module _ (number : ℕ) (s : StillHart number m) where
      swapped-beside : (u : Turn) → IsApart number (named_by u) → IsBeside (Turn.Hart number 0) u
      swapped-beside u apart =
          swapped (is-quiet-turn number s.action s.hart s.done (turn_of u m).machine (later number s.action s.hart s.done m s.still u apart)) (swapped-alike number s.action s.hart s.done m s.still u apart)

      hart-apart : (k : ℕ) → nat_eq k number ≡ false → (v : LeafValue) → nat_eq v.number number ≡ true → nat_eq v.number k ≡ false
      hart-apart k other v named = elim (nat_eq v.number k) as (λ b. nat_eq v.number k ≡ b → b ≡ false) [
        | true ↦ λ is. absurd (true≢false (sym (eq-eqb k number (sym (eqb-true v.number k is) ∙ eqb-true v.number number named)) ∙ other))
        | false ↦ λ is. refl
      ] refl

      hart-beside : (k victim : ℕ) → IsBeside (Turn.Hart number 0) (Turn.Hart k victim)
      hart-beside k victim = elim (nat_eq k number) as (λ b. nat_eq k number ≡ b → IsBeside (Turn.Hart number 0) (Turn.Hart k victim)) [
        | true ↦ λ is. subst (λ j. IsBeside (Turn.Hart number 0) (Turn.Hart j victim)) (sym (eqb-true k number is)) (instead (same-alike number s.action s.hart s.done m s.still victim))
        | false ↦ λ is. swapped-beside (Turn.Hart k victim) (hart-apart k is)
      ] refl

      any-beside : (u : Turn) → IsBeside (Turn.Hart number 0) u
      any-beside (Turn.Hart k victim) = hart-beside k victim
      any-beside (Turn.Down bus) = swapped-beside (Turn.Down bus) (λ v named. refl)
      any-beside (Turn.Request bus child) = swapped-beside (Turn.Request bus child) (λ v named. refl)
      any-beside (Turn.Reply bus child) = swapped-beside (Turn.Reply bus child) (λ v named. refl)
      any-beside (Turn.Leave bus child choice) = swapped-beside (Turn.Leave bus child choice) (λ v named. refl)

    quiet-beside : (t u : Turn) → IsQuietTurn m t → IsBeside t u
    quiet-beside t u i = let q = quiet-turn m t i in subst (λ k. IsBeside k u) q.is (any-beside q.number q.hart u)

    quiet-enough : has_ways m ≡ true → (ts : List Turn) → quiet_turns m ≡ ts → Enough (quiet_space same) Alike IsQuietTurn m
    unfolding tried_turns
    quiet-enough ways [] none = all_others (doing-tried same tried_turns m ways (ap (λ l. first_or l (doing_turns m)) none))
    quiet-enough ways (t ∷ ts) some = quiet_one t (ap (λ l. first_or l (doing_turns m)) some) (subst (λ l. IsOneOf l t) (sym some) (inl refl))

    quiet-moves : (t : Turn) → IsQuietTurn m t → tried_turns m ≡ [] → ⊥
    unfolding tried_turns
    quiet-moves t i none = first-some (quiet_turns m) (doing_turns m) t i none

pub quiet-first : QuietTurnsGoFirst
quiet-first same = record {
  stays_fit = turn-ways;
  enough = λ m ways runs. quiet-enough same m ways (quiet_turns m) refl;
  beside = λ m t u ways quiet. quiet-beside same m t u quiet;
  runs = quiet-runs;
  moves = λ m t ways quiet none. quiet-moves same m t quiet none;
}

pub quiet-right : QuietSearchIsRight
quiet-right same test most m some ways runs =
    search-right (quiet_space same) Alike (keeps-alike same test tried_turns tried-alike) (ends-stay same test tried_turns tried-alike) IsQuietTurn (λ k. has_ways k ≡ true) (quiet-first same) most m some ways runs
