-- What the buses are that were read: at each number the directory over that bus, and its traffic.
-- Letters: n is how many items there are, m the machine before, b what was read of a bus, k a number of a bus or of the next word, ws
-- are the words.
use Rattle.std.specs.Prelude.{◌≡◌, ◌<◌, ◌≤◌, ℕ, zero, suc, ◌+◌, Bool, true, List, [], ◌∷◌, ◌++◌, length, map, Option, Some, None, is_some, slice_index_or, Ok, refl}
use Rattle.std.specs.List.{list_all, range_with_len, AllByRecursion}
use Rattle.std.proofs.Common.{sym, ap, subst, ◌∙◌, arith, append_assoc, append-nil}
use Rattle.std.specs.Cmp.Derive.{both_true}
use Rattle.state_judging.specs.TreeModel.State.Shape.{IsShaped}
use Rattle.state_judging.specs.TreeModel.State.Values.{DirValue, Node, MachineValue, root_of}
use Rattle.state_judging.specs.TreeModel.Turns.Machine.{ask_bus}
use Rattle.state_reading.specs.Reading.{Read, and_then, given}
use Rattle.state_reading.specs.Parts.{read_dir, read_traffic}
use Rattle.state_reading.specs.Machine.{BusRead, bus_dir, bus_traffic, read_bus_of, read_bus, read_buses}
use Rattle.state_judging.specs.Read.{is_counted}
use Rattle.state_judging.proofs.Inverted.{and_then-ok, given-ok, Beside}
use Rattle.state_judging.proofs.DirRead.{DirRead, dir-ok}
use Rattle.state_judging.proofs.OpsRead.{traffic-ok}
use Rattle.state_judging.proofs.EachBus.{AtDirs, asked-everywhere}
use Rattle.state_judging.proofs.BusNumbers.{asked-there, asked-number}

-- ---- lists beside a range

module _ {B : Type 0} (R : ℕ → B → Type 0) where
  pub range-all : (P : ℕ → Type 0) (n a : ℕ) → ((k : ℕ) → a ≤ k → k < a + n → P k) → AllByRecursion P (range_with_len a n)
  range-all P zero a each = tt
  range-all P (suc n) a each = (each a (omega arith) (omega arith), range-all P n (a + 1) (λ k low high. each k (omega arith) (omega arith)))

  module _ {C : Type 0} (f : B → C) (d : C) where
    pub at-range : (n a k : ℕ) (bs : List B) → Beside R (range_with_len a n) bs → k < n → (b : B) × R (a + k) b × (slice_index_or (map f bs) k d ≡ f b)
    at-range zero a k bs beside below = absurd (omega (arith, below))
    at-range (suc n) a k [] beside below = absurd beside
    at-range (suc n) a zero (b ∷ bs) beside below = let here : a ≡ a + 0 = omega arith in (b, subst (λ j. R j b) here beside.0, refl)
    at-range (suc n) a (suc k) (b ∷ bs) beside below =
        let later = at-range n (a + 1) k bs beside.1 (omega (arith, below)) in
        let here : a + 1 + k ≡ a + suc k = omega arith in
        (later.0, subst (λ j. R j later.0) here later.1, later.2)

  pub length-range : (n a : ℕ) (bs : List B) → Beside R (range_with_len a n) bs → length bs ≡ n
  length-range zero a [] beside = refl
  length-range zero a (b ∷ bs) beside = absurd beside
  length-range (suc n) a [] beside = absurd beside
  length-range (suc n) a (b ∷ bs) beside = let rest = length-range n (a + 1) bs beside.1 in omega (arith, rest)

  pub beside-all : {C : Type 0} (f : B → C) (t : C → Bool) → ((k : ℕ) (b : B) → R k b → t (f b) ≡ true) → (ks : List ℕ) (bs : List B) → Beside R ks bs → list_all t (map f bs) ≡ true
  beside-all f t each [] [] beside = refl
  beside-all f t each [] (b ∷ bs) beside = absurd beside
  beside-all f t each (k ∷ ks) [] beside = absurd beside
  beside-all f t each (k ∷ ks) (b ∷ bs) beside = both_true (each k b beside.0) (beside-all f t each ks bs beside.1)

-- ---- one bus

abbrev pub dir_and_count : DirValue → List Node → DirValue × ℕ
dir_and_count d ns = (d, length ns)

module _ (n : ℕ) (m : MachineValue) where
  abbrev asked : ℕ → Option (DirValue × ℕ)
  asked k = ask_bus k (λ w d ns. (d, length ns)) (m.top, 0) m

  pub record BusReads (k : ℕ) (b : BusRead) : Type 0 where
    pub before : DirValue × ℕ
    pub is : asked k ≡ Some before
    pub dir : DirRead n before.1 before.0 b.dir
    pub traffic : is_counted b.traffic ≡ true

  bus-given : (bus : ℕ) (o : Option (DirValue × ℕ)) → asked bus ≡ o → is_some o ≡ true → (k : ℕ) (ws : List ℕ) (r : Read (List BusRead)) → read_bus_of n o k ws ≡ Ok r → (b : BusRead) × BusReads bus b × (r.value ≡ b ∷ [])
  bus-given bus None is there k ws r e = cc
  bus-given bus (Some a) is there k ws r e =
      let d = and_then-ok (read_dir n a.1 a.0 k ws) (λ d k ws. and_then (read_traffic k ws) (λ t k ws. given (record { dir = d; traffic = t } ∷ []) k ws)) r e in
      let t = and_then-ok (read_traffic d.0.at d.0.rest) (λ t k ws. given (record { dir = d.0.value; traffic = t } ∷ []) k ws) r d.2 in (
        record { dir = d.0.value; traffic = t.0.value },
        record { before = a; is = is; dir = dir-ok n a.1 a.0 k ws d.0 d.1; traffic = traffic-ok d.0.at d.0.rest t.0 t.1 },
        sym (given-ok (record { dir = d.0.value; traffic = t.0.value } ∷ []) t.0.at t.0.rest r t.2),
      )

  bus-ok : (bus : ℕ) → is_some (asked bus) ≡ true → (before : List BusRead) (k : ℕ) (ws : List ℕ) (r : Read (List BusRead)) → read_bus n m before bus k ws ≡ Ok r → (b : BusRead) × BusReads bus b × (r.value ≡ before ++ b ∷ [])
  bus-ok bus there before k ws r e =
      let one = and_then-ok (read_bus_of n (asked bus) k ws) (λ b k ws. given (before ++ b) k ws) r e in
      let b = bus-given bus (asked bus) refl there k ws one.0 one.1 in
      (b.0, b.1, sym (given-ok (before ++ one.0.value) one.0.at one.0.rest r one.2) ∙ ap (λ new. before ++ new) b.2)

  pub buses-ok : (buses : List ℕ) → AllByRecursion (λ k. is_some (asked k) ≡ true) buses → (before : List BusRead) (k : ℕ) (ws : List ℕ) (r : Read (List BusRead)) → read_buses n m buses before k ws ≡ Ok r → (new : List BusRead) × (r.value ≡ before ++ new) × Beside BusReads buses new
  buses-ok [] there before k ws r e = ([], sym (given-ok before k ws r e) ∙ sym (append-nil before), tt)
  buses-ok (bus ∷ buses) there before k ws r e =
      let first = and_then-ok (read_bus n m before bus k ws) (read_buses n m buses) r e in
      let b = bus-ok bus there.0 before k ws first.0 first.1 in
      let rest = buses-ok buses there.1 first.0.value first.0.at first.0.rest r first.2 in
      (b.0 ∷ rest.0, rest.1 ∙ ap (λ all. all ++ rest.0) b.2 ∙ append_assoc before (b.0 ∷ []) rest.0, (b.1, rest.2))

  -- ---- all of them

  pub record BusesReads (buses : List BusRead) : Type 0 where
    pub count : length buses ≡ length m.traffic
    pub dirs : AtDirs (λ d ns. DirRead n (length ns) d (slice_index_or (map bus_dir buses) d.bus d)) (root_of m)
    pub traffic : list_all is_counted (map bus_traffic buses) ≡ true

  abbrev StandsAs : List BusRead → DirValue × ℕ → Type 0
  StandsAs buses a = DirRead n a.1 a.0 (slice_index_or (map bus_dir buses) a.0.bus a.0)

  stands-as : (buses : List BusRead) → Beside BusReads (range_with_len 0 (length m.traffic)) buses → (k : ℕ) (a : DirValue × ℕ) → k < length m.traffic → asked k ≡ Some a → StandsAs buses a
  stands-as buses beside k a below is =
      let found = at-range BusReads bus_dir a.0 (length m.traffic) 0 k buses beside below in
      let here : 0 + k ≡ k = omega arith in
      let reads = subst (λ j. BusReads j found.0) here found.1 in
      let number : a.0.bus ≡ k = asked-number dir_and_count (m.top, 0) (λ a. a.0.bus) (λ d ns. refl) k m a is in
      let both : Some reads.before ≡ Some a = sym reads.is ∙ is in
      let same : reads.before ≡ a = cc in
      let there : slice_index_or (map bus_dir buses) a.0.bus a.0 ≡ found.0.dir = ap (λ j. slice_index_or (map bus_dir buses) j a.0) number ∙ found.2 in
      subst (λ e. DirRead n a.1 a.0 e) (sym there) (subst (λ (b : DirValue × ℕ). DirRead n b.1 b.0 found.0.dir) same reads.dir)

  pub all-buses : IsShaped m → (k : ℕ) (ws : List ℕ) (r : Read (List BusRead)) → read_buses n m (range_with_len 0 (length m.traffic)) [] k ws ≡ Ok r → BusesReads r.value
  all-buses shaped k ws r e =
      let there = range-all BusReads (λ k. is_some (asked k) ≡ true) (length m.traffic) 0 (λ k low high. asked-there dir_and_count (m.top, 0) m k shaped (omega (arith, high))) in
      let new = buses-ok (range_with_len 0 (length m.traffic)) there [] k ws r e in
      subst BusesReads (sym new.1) (record {
        count = length-range BusReads (length m.traffic) 0 new.0 new.2;
        dirs = asked-everywhere dir_and_count (m.top, 0) (StandsAs new.0) m shaped (stands-as new.0 new.2);
        traffic = beside-all BusReads bus_traffic is_counted (λ k b reads. reads.traffic) (range_with_len 0 (length m.traffic)) new.0 new.2;
      })
