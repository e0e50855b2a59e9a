-- What is read of an operation and of a bus's traffic is what is spelled of them.
use Rattle.std.specs.Prelude.{◌≡◌, ℕ, nat_lt, List, [], ◌∷◌, ◌++◌, Ok, refl}
use Rattle.std.proofs.Common.{ap}
use Rattle.spelling_laws.specs.DdmTypes.declared.operations.Op.{Op}
use Rattle.spelling_laws.specs.DdmTypes.declared.keys.Key.{Key}
use Rattle.spelling_laws.specs.TreeModel.declared.Traffic.{Traffic}
use Rattle.spelling_laws.specs.StateReading.Reading.{Read, any_word}
use Rattle.spelling_laws.specs.StateReading.Parts.{read_traffic, read_key, read_op, effect_size, effect_of}
use Rattle.spelling_laws.specs.StateWords.Parts.{traffic_words, op_words}
use Rattle.spelling_laws.specs.StateWords.Numbers.{key_words}
use Rattle.spelling_laws.specs.Spells.{Spells}
use Rattle.spelling_laws.proofs.Numbers.{is_first_of, effect-spelled}
use Rattle.spelling_laws.proofs.Steps.{Added, is_count, is_below, is_to, is_if, step, word-step, ended, spells-both, spells-as}

pub traffic-read : (k : ℕ) (ws : List ℕ) (q : Read Traffic) → read_traffic k ws ≡ Ok q → Spells k ws (traffic_words q.value) q.at q.rest
unfolding read_traffic
traffic-read k ws q e =
    word-step is_count k ws _ q e (λ reads k1 ws1 w1 p1 e.
    word-step is_count k1 ws1 _ q e (λ copies k2 ws2 w2 p2 e.
    word-step is_count k2 ws2 _ q e (λ erases k3 ws3 w3 p3 e.
    word-step is_count k3 ws3 _ q e (λ exclusives k4 ws4 w4 p4 e.
    word-step is_count k4 ws4 _ q e (λ outs k5 ws5 w5 p5 e.
    word-step is_count k5 ws5 _ q e (λ injects k6 ws6 w6 p6 e.
    ended (λ q. Spells k ws (traffic_words q.value) q.at q.rest) (record { value = record { reads = reads; copies = copies; erases = erases; exclusives = exclusives; outs = outs; injects = injects }; at = k6; rest = ws6 }) q
    (spells-both w1 (spells-both w2 (spells-both w3 (spells-both w4 (spells-both w5 w6))))) e))))))

pub key-read : (depth k : ℕ) (ws : List ℕ) (q : Read Key) → read_key depth k ws ≡ Ok q → Spells k ws (key_words q.value) q.at q.rest
key-read depth k ws q e =
    word-step (is_if (nat_lt 0 depth)) k ws _ q e (λ s0 k1 ws1 w1 p1 e.
    word-step (is_if (nat_lt 0 depth)) k1 ws1 _ q e (λ c0 k2 ws2 w2 p2 e.
    word-step (is_if (nat_lt 1 depth)) k2 ws2 _ q e (λ s1 k3 ws3 w3 p3 e.
    word-step (is_if (nat_lt 1 depth)) k3 ws3 _ q e (λ c1 k4 ws4 w4 p4 e.
    word-step (is_if (nat_lt 2 depth)) k4 ws4 _ q e (λ s2 k5 ws5 w5 p5 e.
    word-step (is_if (nat_lt 2 depth)) k5 ws5 _ q e (λ c2 k6 ws6 w6 p6 e.
    word-step (is_if (nat_lt 3 depth)) k6 ws6 _ q e (λ s3 k7 ws7 w7 p7 e.
    word-step (is_if (nat_lt 3 depth)) k7 ws7 _ q e (λ c3 k8 ws8 w8 p8 e.
    word-step any_word k8 ws8 _ q e (λ i k9 ws9 w9 p9 e.
    ended (λ q. Spells k ws (key_words q.value) q.at q.rest) (record { value = record { s0 = s0; c0 = c0; s1 = s1; c1 = c1; s2 = s2; c2 = c2; s3 = s3; c3 = c3; i = i }; at = k9; rest = ws9 }) q
    (spells-both w1 (spells-both w2 (spells-both w3 (spells-both w4 (spells-both w5 (spells-both w6 (spells-both w7 (spells-both w8 w9)))))))) e)))))))))

pub op-read : (depth leaves : ℕ) (ops : List Op) (k : ℕ) (ws : List ℕ) (q : Read (List Op)) → read_op depth leaves ops k ws ≡ Ok q → Added op_words ops k ws q
op-read depth leaves ops k ws q e =
    step (read_key depth k ws) _ q e (λ key is e.
    word-step (is_below leaves) key.at key.rest _ q e (λ hart k1 ws1 w1 p1 e.
    word-step any_word k1 ws1 _ q e (λ pc k2 ws2 w2 p2 e.
    word-step (is_to 7) k2 ws2 _ q e (λ code k3 ws3 w3 p3 e.
    word-step (is_first_of code) k3 ws3 _ q e (λ a k4 ws4 w4 p4 e.
    word-step (is_if (nat_lt 1 (effect_size code))) k4 ws4 _ q e (λ b k5 ws5 w5 p5 e.
    word-step (is_if (nat_lt 2 (effect_size code))) k5 ws5 _ q e (λ c k6 ws6 w6 p6 e.
    ended (Added op_words ops k ws) (record { value = ops ++ record { key = key.value; hart = hart; pc = pc; effect = effect_of code a b c } ∷ []; at = k6; rest = ws6 }) q
    (record {
      entry = record { key = key.value; hart = hart; pc = pc; effect = effect_of code a b c };
      value = refl;
      spells = spells-as (ap (λ ws. key_words key.value ++ hart ∷ pc ∷ ws) (effect-spelled code a b c p3 p4 p5 p6))
          (spells-both (key-read depth k ws key is) (spells-both w1 (spells-both w2 (spells-both w3 (spells-both w4 (spells-both w5 w6))))));
    }) e)))))))
