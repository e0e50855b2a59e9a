-- What the traffic of a bus and the operations are that were read.
-- `behind_x` is what is read behind x, and `x_made` what is made of all that was read.
-- Letters: depth is how many levels of buses there are, leaves how many leaves, k the number of the next word, ws are the words.
use Rattle.std.specs.Prelude.{◌≡◌, ℕ, zero, suc, ◌*◌, Bool, true, ◌&&◌, ◌||◌, nat_eq, nat_lt, nat_le, List, [], ◌∷◌, ◌++◌, Result, Ok, refl, if◌then◌else◌}
use Rattle.std.specs.List.{list_all}
use Rattle.std.proofs.Common.{ap, ◌∙◌, arith}
use Rattle.std.proofs.lemmas.List.{drop_all}
use Rattle.std.specs.Cmp.Derive.{both_true}
use Rattle.state_judging.specs.DdmTypes.declared.keys.Key.{Key}
use Rattle.state_judging.specs.DdmTypes.declared.operations.Op.{Op}
use Rattle.state_judging.specs.TreeModel.declared.Traffic.{Traffic}
use Rattle.state_judging.specs.TreeRules.Bus.Own.{are_zero}
use Rattle.state_judging.specs.TreeRules.Order.Time.{key_ends}
use Rattle.bus_laws.proofs.Lists.{pass-pushed}
use Rattle.state_reading.specs.declared.StateRefusal.{StateRefusal}
use Rattle.state_reading.specs.Reading.{Read, and_then, given, times, word_that, any_word}
use Rattle.state_reading.specs.Parts.{most_counted, count_word, word_to, word_below, word_if, read_traffic, effect_size, effect_of, read_key, read_op}
use Rattle.state_judging.specs.Read.{is_counted}
use Rattle.state_judging.proofs.Inverted.{and_then-ok, given-so, word_that-ok, times-begun}
use Rattle.state_judging.proofs.Lists.{same-test}

-- ---- traffic

abbrev is_count : ℕ → Bool
is_count w = nat_le w most_counted

abbrev traffic_made : ℕ → ℕ → ℕ → ℕ → ℕ → ℕ → ℕ → List ℕ → Result (Read Traffic) StateRefusal
traffic_made reads copies erases exclusives outs injects k ws = given (record { reads = reads; copies = copies; erases = erases; exclusives = exclusives; outs = outs; injects = injects }) k ws

abbrev behind_outs : ℕ → ℕ → ℕ → ℕ → ℕ → ℕ → List ℕ → Result (Read Traffic) StateRefusal
behind_outs reads copies erases exclusives outs k ws = and_then (count_word k ws) (traffic_made reads copies erases exclusives outs)

abbrev behind_exclusives : ℕ → ℕ → ℕ → ℕ → ℕ → List ℕ → Result (Read Traffic) StateRefusal
behind_exclusives reads copies erases exclusives k ws = and_then (count_word k ws) (behind_outs reads copies erases exclusives)

abbrev behind_erases : ℕ → ℕ → ℕ → ℕ → List ℕ → Result (Read Traffic) StateRefusal
behind_erases reads copies erases k ws = and_then (count_word k ws) (behind_exclusives reads copies erases)

abbrev behind_copies : ℕ → ℕ → ℕ → List ℕ → Result (Read Traffic) StateRefusal
behind_copies reads copies k ws = and_then (count_word k ws) (behind_erases reads copies)

abbrev behind_reads : ℕ → ℕ → List ℕ → Result (Read Traffic) StateRefusal
behind_reads reads k ws = and_then (count_word k ws) (behind_copies reads)

traffic-last : (reads copies erases : ℕ) → is_count reads ≡ true → is_count copies ≡ true → is_count erases ≡ true → (k : ℕ) (ws : List ℕ) (r : Read Traffic) → behind_erases reads copies erases k ws ≡ Ok r → is_counted r.value ≡ true
traffic-last reads copies erases a b c k ws r e =
    let exclusives = and_then-ok (count_word k ws) (behind_exclusives reads copies erases) r e in
    let outs = and_then-ok (count_word exclusives.0.at exclusives.0.rest) (behind_outs reads copies erases exclusives.0.value) r exclusives.2 in
    last exclusives.0.value outs.0.value outs.0.at outs.0.rest (word_that-ok is_count k ws exclusives.0 exclusives.1) (word_that-ok is_count exclusives.0.at exclusives.0.rest outs.0 outs.1) outs.2
  where
    last : (exclusives outs k : ℕ) (ws : List ℕ) → is_count exclusives ≡ true → is_count outs ≡ true → behind_outs reads copies erases exclusives outs k ws ≡ Ok r → is_counted r.value ≡ true
    last exclusives outs k ws d f e =
        let injects = and_then-ok (count_word k ws) (traffic_made reads copies erases exclusives outs) r e in
        given-so (λ t. is_counted t ≡ true) (record { reads = reads; copies = copies; erases = erases; exclusives = exclusives; outs = outs; injects = injects.0.value }) injects.0.at injects.0.rest r injects.2
        (both_true a (both_true b (both_true c (both_true d (both_true f (word_that-ok is_count k ws injects.0 injects.1))))))

pub traffic-ok : (k : ℕ) (ws : List ℕ) (r : Read Traffic) → read_traffic k ws ≡ Ok r → is_counted r.value ≡ true
unfolding read_traffic
traffic-ok k ws r e =
    let reads = and_then-ok (count_word k ws) behind_reads r e in
    let copies = and_then-ok (count_word reads.0.at reads.0.rest) (behind_copies reads.0.value) r reads.2 in
    let erases = and_then-ok (count_word copies.0.at copies.0.rest) (behind_erases reads.0.value copies.0.value) r copies.2 in
    traffic-last reads.0.value copies.0.value erases.0.value (word_that-ok is_count k ws reads.0 reads.1) (word_that-ok is_count reads.0.at reads.0.rest copies.0 copies.1) (word_that-ok is_count copies.0.at copies.0.rest erases.0 erases.1) erases.0.at erases.0.rest r erases.2

-- ---- a key has no number of a level that isn't there

swap : (w : ℕ) → nat_eq w 0 ≡ true → nat_eq 0 w ≡ true
swap w e = same-test 0 w ∙ e

module _ (depth : ℕ) where
  abbrev if_level : ℕ → ℕ → Bool
  if_level level w = nat_lt level depth || nat_eq w 0

  -- the numbers of a stamp and of a path at one level
  record AtLevel (level s c : ℕ) : Type 0 where
    stamp : if_level level s ≡ true
    child : if_level level c ≡ true

key-ends : (depth s0 c0 s1 c1 s2 c2 s3 c3 i : ℕ) → AtLevel depth 0 s0 c0 → AtLevel depth 1 s1 c1 → AtLevel depth 2 s2 c2 → AtLevel depth 3 s3 c3
    → key_ends depth (record { s0 = s0; c0 = c0; s1 = s1; c1 = c1; s2 = s2; c2 = c2; s3 = s3; c3 = c3; i = i }) ≡ true
key-ends zero s0 c0 s1 c1 s2 c2 s3 c3 i a b c d =
    both_true (swap s0 a.stamp) (both_true (swap c0 a.child) (both_true (swap s1 b.stamp) (both_true (swap c1 b.child) (both_true (swap s2 c.stamp) (both_true (swap c2 c.child) (both_true (swap s3 d.stamp) (both_true (swap c3 d.child) refl)))))))
key-ends (suc zero) s0 c0 s1 c1 s2 c2 s3 c3 i a b c d =
    both_true (swap s1 b.stamp) (both_true (swap c1 b.child) (both_true (swap s2 c.stamp) (both_true (swap c2 c.child) (both_true (swap s3 d.stamp) (both_true (swap c3 d.child) refl)))))
key-ends (suc (suc zero)) s0 c0 s1 c1 s2 c2 s3 c3 i a b c d = both_true (swap s2 c.stamp) (both_true (swap c2 c.child) (both_true (swap s3 d.stamp) (both_true (swap c3 d.child) refl)))
key-ends (suc (suc (suc zero))) s0 c0 s1 c1 s2 c2 s3 c3 i a b c d = both_true (swap s3 d.stamp) (both_true (swap c3 d.child) refl)
key-ends (suc (suc (suc (suc depth)))) s0 c0 s1 c1 s2 c2 s3 c3 i a b c d =
    ap are_zero (drop_all (2 * suc (suc (suc (suc depth)))) (s0 ∷ c0 ∷ s1 ∷ c1 ∷ s2 ∷ c2 ∷ s3 ∷ c3 ∷ []) (omega arith))

module _ (depth : ℕ) where
  abbrev key_made : ℕ → ℕ → ℕ → ℕ → ℕ → ℕ → ℕ → ℕ → ℕ → ℕ → List ℕ → Result (Read Key) StateRefusal
  key_made s0 c0 s1 c1 s2 c2 s3 c3 i k ws = given (record { s0 = s0; c0 = c0; s1 = s1; c1 = c1; s2 = s2; c2 = c2; s3 = s3; c3 = c3; i = i }) k ws

  abbrev behind_c3 : ℕ → ℕ → ℕ → ℕ → ℕ → ℕ → ℕ → ℕ → ℕ → List ℕ → Result (Read Key) StateRefusal
  behind_c3 s0 c0 s1 c1 s2 c2 s3 c3 k ws = and_then (word_that any_word k ws) (key_made s0 c0 s1 c1 s2 c2 s3 c3)

  abbrev behind_s3 : ℕ → ℕ → ℕ → ℕ → ℕ → ℕ → ℕ → ℕ → List ℕ → Result (Read Key) StateRefusal
  behind_s3 s0 c0 s1 c1 s2 c2 s3 k ws = and_then (word_if (nat_lt 3 depth) k ws) (behind_c3 s0 c0 s1 c1 s2 c2 s3)

  abbrev behind_c2 : ℕ → ℕ → ℕ → ℕ → ℕ → ℕ → ℕ → List ℕ → Result (Read Key) StateRefusal
  behind_c2 s0 c0 s1 c1 s2 c2 k ws = and_then (word_if (nat_lt 3 depth) k ws) (behind_s3 s0 c0 s1 c1 s2 c2)

  abbrev behind_s2 : ℕ → ℕ → ℕ → ℕ → ℕ → ℕ → List ℕ → Result (Read Key) StateRefusal
  behind_s2 s0 c0 s1 c1 s2 k ws = and_then (word_if (nat_lt 2 depth) k ws) (behind_c2 s0 c0 s1 c1 s2)

  abbrev behind_c1 : ℕ → ℕ → ℕ → ℕ → ℕ → List ℕ → Result (Read Key) StateRefusal
  behind_c1 s0 c0 s1 c1 k ws = and_then (word_if (nat_lt 2 depth) k ws) (behind_s2 s0 c0 s1 c1)

  abbrev behind_s1 : ℕ → ℕ → ℕ → ℕ → List ℕ → Result (Read Key) StateRefusal
  behind_s1 s0 c0 s1 k ws = and_then (word_if (nat_lt 1 depth) k ws) (behind_c1 s0 c0 s1)

  abbrev behind_c0 : ℕ → ℕ → ℕ → List ℕ → Result (Read Key) StateRefusal
  behind_c0 s0 c0 k ws = and_then (word_if (nat_lt 1 depth) k ws) (behind_s1 s0 c0)

  abbrev behind_s0 : ℕ → ℕ → List ℕ → Result (Read Key) StateRefusal
  behind_s0 s0 k ws = and_then (word_if (nat_lt 0 depth) k ws) (behind_c0 s0)

  module _ (r : Read Key) where
    level_3 : (s0 c0 s1 c1 s2 c2 : ℕ) → AtLevel depth 0 s0 c0 → AtLevel depth 1 s1 c1 → AtLevel depth 2 s2 c2 → (k : ℕ) (ws : List ℕ) → behind_c2 s0 c0 s1 c1 s2 c2 k ws ≡ Ok r → key_ends depth r.value ≡ true
    level_3 s0 c0 s1 c1 s2 c2 x y z k ws e =
        let s3 = and_then-ok (word_if (nat_lt 3 depth) k ws) (behind_s3 s0 c0 s1 c1 s2 c2) r e in
        let c3 = and_then-ok (word_if (nat_lt 3 depth) s3.0.at s3.0.rest) (behind_c3 s0 c0 s1 c1 s2 c2 s3.0.value) r s3.2 in
        last s3.0.value c3.0.value c3.0.at c3.0.rest (record { stamp = word_that-ok (if_level depth 3) k ws s3.0 s3.1; child = word_that-ok (if_level depth 3) s3.0.at s3.0.rest c3.0 c3.1 }) c3.2
      where
        last : (s3 c3 k : ℕ) (ws : List ℕ) → AtLevel depth 3 s3 c3 → behind_c3 s0 c0 s1 c1 s2 c2 s3 c3 k ws ≡ Ok r → key_ends depth r.value ≡ true
        last s3 c3 k ws q e =
            let i = and_then-ok (word_that any_word k ws) (key_made s0 c0 s1 c1 s2 c2 s3 c3) r e in
            given-so (λ key. key_ends depth key ≡ true) (record { s0 = s0; c0 = c0; s1 = s1; c1 = c1; s2 = s2; c2 = c2; s3 = s3; c3 = c3; i = i.0.value }) i.0.at i.0.rest r i.2 (key-ends depth s0 c0 s1 c1 s2 c2 s3 c3 i.0.value x y z q)

    level_2 : (s0 c0 s1 c1 : ℕ) → AtLevel depth 0 s0 c0 → AtLevel depth 1 s1 c1 → (k : ℕ) (ws : List ℕ) → behind_c1 s0 c0 s1 c1 k ws ≡ Ok r → key_ends depth r.value ≡ true
    level_2 s0 c0 s1 c1 x y k ws e =
        let s2 = and_then-ok (word_if (nat_lt 2 depth) k ws) (behind_s2 s0 c0 s1 c1) r e in
        let c2 = and_then-ok (word_if (nat_lt 2 depth) s2.0.at s2.0.rest) (behind_c2 s0 c0 s1 c1 s2.0.value) r s2.2 in
        level_3 s0 c0 s1 c1 s2.0.value c2.0.value x y (record { stamp = word_that-ok (if_level depth 2) k ws s2.0 s2.1; child = word_that-ok (if_level depth 2) s2.0.at s2.0.rest c2.0 c2.1 }) c2.0.at c2.0.rest c2.2

    level_1 : (s0 c0 : ℕ) → AtLevel depth 0 s0 c0 → (k : ℕ) (ws : List ℕ) → behind_c0 s0 c0 k ws ≡ Ok r → key_ends depth r.value ≡ true
    level_1 s0 c0 x k ws e =
        let s1 = and_then-ok (word_if (nat_lt 1 depth) k ws) (behind_s1 s0 c0) r e in
        let c1 = and_then-ok (word_if (nat_lt 1 depth) s1.0.at s1.0.rest) (behind_c1 s0 c0 s1.0.value) r s1.2 in
        level_2 s0 c0 s1.0.value c1.0.value x (record { stamp = word_that-ok (if_level depth 1) k ws s1.0 s1.1; child = word_that-ok (if_level depth 1) s1.0.at s1.0.rest c1.0 c1.1 }) c1.0.at c1.0.rest c1.2

    pub key-ok : (k : ℕ) (ws : List ℕ) → read_key depth k ws ≡ Ok r → key_ends depth r.value ≡ true
    key-ok k ws e =
        let s0 = and_then-ok (word_if (nat_lt 0 depth) k ws) behind_s0 r e in
        let c0 = and_then-ok (word_if (nat_lt 0 depth) s0.0.at s0.0.rest) (behind_c0 s0.0.value) r s0.2 in
        level_1 s0.0.value c0.0.value (record { stamp = word_that-ok (if_level depth 0) k ws s0.0 s0.1; child = word_that-ok (if_level depth 0) s0.0.at s0.0.rest c0.0 c0.1 }) c0.0.at c0.0.rest c0.2

-- ---- operations

module _ (depth leaves : ℕ) where
  abbrev pub op_fits : Op → Bool
  op_fits o = nat_lt o.hart leaves && key_ends depth o.key

  abbrev op_made : List Op → Key → ℕ → ℕ → ℕ → ℕ → ℕ → ℕ → ℕ → List ℕ → Result (Read (List Op)) StateRefusal
  op_made ops key hart pc code a b c k ws = given (ops ++ record { key = key; hart = hart; pc = pc; effect = effect_of code a b c } ∷ []) k ws

  abbrev behind_b : List Op → Key → ℕ → ℕ → ℕ → ℕ → ℕ → ℕ → List ℕ → Result (Read (List Op)) StateRefusal
  behind_b ops key hart pc code a b k ws = and_then (word_if (nat_lt 2 (effect_size code)) k ws) (op_made ops key hart pc code a b)

  abbrev behind_a : List Op → Key → ℕ → ℕ → ℕ → ℕ → ℕ → List ℕ → Result (Read (List Op)) StateRefusal
  behind_a ops key hart pc code a k ws = and_then (word_if (nat_lt 1 (effect_size code)) k ws) (behind_b ops key hart pc code a)

  abbrev behind_effect : List Op → Key → ℕ → ℕ → ℕ → ℕ → List ℕ → Result (Read (List Op)) StateRefusal
  behind_effect ops key hart pc code k ws = and_then (word_that (λ w. if nat_eq code 1 then nat_le w 255 else (nat_lt 0 (effect_size code) || nat_eq w 0)) k ws) (behind_a ops key hart pc code)

  abbrev behind_pc : List Op → Key → ℕ → ℕ → ℕ → List ℕ → Result (Read (List Op)) StateRefusal
  behind_pc ops key hart pc k ws = and_then (word_to 7 k ws) (behind_effect ops key hart pc)

  abbrev behind_hart : List Op → Key → ℕ → ℕ → List ℕ → Result (Read (List Op)) StateRefusal
  behind_hart ops key hart k ws = and_then (word_that any_word k ws) (behind_pc ops key hart)

  abbrev behind_key : List Op → Key → ℕ → List ℕ → Result (Read (List Op)) StateRefusal
  behind_key ops key k ws = and_then (word_below leaves k ws) (behind_hart ops key)

  abbrev Fit : List Op → Type 0
  Fit ops = list_all op_fits ops ≡ true

  effect-ok : (ops : List Op) (key : Key) (hart pc code k : ℕ) (ws : List ℕ) (r : Read (List Op)) → Fit ops → op_fits (record { key = key; hart = hart; pc = pc; effect = effect_of code 0 0 0 }) ≡ true → behind_effect ops key hart pc code k ws ≡ Ok r → Fit r.value
  effect-ok ops key hart pc code k ws r all fits e =
      let a = and_then-ok (word_that (λ w. if nat_eq code 1 then nat_le w 255 else (nat_lt 0 (effect_size code) || nat_eq w 0)) k ws) (behind_a ops key hart pc code) r e in
      let b = and_then-ok (word_if (nat_lt 1 (effect_size code)) a.0.at a.0.rest) (behind_b ops key hart pc code a.0.value) r a.2 in
      last a.0.value b.0.value b.0.at b.0.rest b.2
    where
      last : (a b k : ℕ) (ws : List ℕ) → behind_b ops key hart pc code a b k ws ≡ Ok r → Fit r.value
      last a b k ws e =
          let c = and_then-ok (word_if (nat_lt 2 (effect_size code)) k ws) (op_made ops key hart pc code a b) r e in
          given-so Fit (ops ++ record { key = key; hart = hart; pc = pc; effect = effect_of code a b c.0.value } ∷ []) c.0.at c.0.rest r c.2 (pass-pushed op_fits ops (record { key = key; hart = hart; pc = pc; effect = effect_of code a b c.0.value }) all fits)

  op-next : (ops : List Op) (k : ℕ) (ws : List ℕ) (r : Read (List Op)) → Fit ops → read_op depth leaves ops k ws ≡ Ok r → Fit r.value
  op-next ops k ws r all e =
      let key = and_then-ok (read_key depth k ws) (behind_key ops) r e in
      let hart = and_then-ok (word_below leaves key.0.at key.0.rest) (behind_hart ops key.0.value) r key.2 in
      last key.0.value hart.0.value hart.0.at hart.0.rest (both_true (word_that-ok (λ w. nat_lt w leaves) key.0.at key.0.rest hart.0 hart.1) (key-ok depth key.0 k ws key.1)) hart.2
    where
      last : (key : Key) (hart k : ℕ) (ws : List ℕ) → (nat_lt hart leaves && key_ends depth key) ≡ true → behind_hart ops key hart k ws ≡ Ok r → Fit r.value
      last key hart k ws fits e =
          let pc = and_then-ok (word_that any_word k ws) (behind_pc ops key hart) r e in
          let code = and_then-ok (word_to 7 pc.0.at pc.0.rest) (behind_effect ops key hart pc.0.value) r pc.2 in
          effect-ok ops key hart pc.0.value code.0.value code.0.at code.0.rest r all fits code.2

  pub ops-ok : (count k : ℕ) (ws : List ℕ) (r : Read (List Op)) → times (read_op depth leaves) count [] k ws ≡ Ok r → list_all op_fits r.value ≡ true
  ops-ok count k ws r e = times-begun (read_op depth leaves) (λ i. Fit) (λ i. op-next) count [] k ws r refl e
