-- Operations and traffic that are spelled are read again; and numbers that end at a level.
use Rattle.std.specs.Prelude.{◌≡◌, ℕ, zero, suc, ◌*◌, ◌≤◌, Bool, true, false, nat_eq, nat_lt, List, [], ◌∷◌, ◌++◌, drop, slice_index_or, Ok, refl}
use Rattle.std.proofs.Common.{sym, ap, ◌∙◌, arith}
use Rattle.std.proofs.lemmas.Bool.{eqb-true, eq-eqb, ltb-false, le-leb, and_parts}
use Rattle.spelling_laws.specs.DdmTypes.declared.operations.Op.{Op}
use Rattle.spelling_laws.specs.DdmTypes.declared.keys.Key.{Key}
use Rattle.spelling_laws.specs.TreeModel.declared.Traffic.{Traffic}
use Rattle.spelling_laws.specs.TreeRules.Bus.Own.{are_zero}
use Rattle.spelling_laws.specs.TreeRules.Order.Time.{key_ends}
use Rattle.spelling_laws.specs.StateReading.Reading.{any_word}
use Rattle.spelling_laws.specs.StateReading.Parts.{most_counted, read_traffic, read_key, read_op, effect_size}
use Rattle.spelling_laws.specs.StateWords.Parts.{traffic_words, op_words}
use Rattle.spelling_laws.specs.StateWords.Numbers.{key_words}
use Rattle.value_laws.specs.Values.{EffectHasForm, TrafficHasForm}
use Rattle.spelling_laws.proofs.Codes.{effect-coded}
use Rattle.spelling_laws.proofs.Numbers.{is_first_of}
use Rattle.spelling_laws.proofs.Steps.{is_count, is_below, is_to, is_if, spells-as}
use Rattle.spelling_laws.proofs.Taken.{Takes, take-part, take-word, taken-all}

-- ---- numbers that end

zero-all : (i : ℕ) (ns : List ℕ) → are_zero ns ≡ true → slice_index_or ns i 0 ≡ 0
zero-all i [] e = refl
zero-all zero (n ∷ ns) e = sym (eqb-true 0 n ((and_parts (nat_eq 0 n) (are_zero ns) e).0))
zero-all (suc i) (n ∷ ns) e = zero-all i ns ((and_parts (nat_eq 0 n) (are_zero ns) e).1)

zero-behind : (level i : ℕ) (ns : List ℕ) → are_zero (drop level ns) ≡ true → level ≤ i → slice_index_or ns i 0 ≡ 0
zero-behind zero i ns e le = zero-all i ns e
zero-behind (suc level) i [] e le = refl
zero-behind (suc level) zero (n ∷ ns) e le = absurd (omega (arith, le))
zero-behind (suc level) (suc i) (n ∷ ns) e le = zero-behind level i ns e (omega (arith, le))

pub if-zero : (b : Bool) (w : ℕ) → (b ≡ false → w ≡ 0) → is_if b w ≡ true
if-zero true w least = refl
if-zero false w least = eq-eqb w 0 (least refl)

pub end-fits : (level i : ℕ) (ns : List ℕ) → are_zero (drop level ns) ≡ true → is_if (nat_lt i level) (slice_index_or ns i 0) ≡ true
end-fits level i ns e = if-zero (nat_lt i level) (slice_index_or ns i 0) (λ past. zero-behind level i ns e (ltb-false i level past))

-- two numbers a level
pub pair-fits : (depth level i : ℕ) (ns : List ℕ) → are_zero (drop (2 * depth) ns) ≡ true → 2 * level ≤ i → is_if (nat_lt level depth) (slice_index_or ns i 0) ≡ true
pair-fits depth level i ns e le =
    if-zero (nat_lt level depth) (slice_index_or ns i 0) (λ past. let least : depth ≤ level = ltb-false level depth past in zero-behind (2 * depth) i ns e (omega (arith, least, le)))

-- ---- traffic

pub traffic-taken : (t : Traffic) → TrafficHasForm most_counted t → Takes read_traffic (traffic_words t) t
unfolding read_traffic
traffic-taken t form k at ws rest s =
    take-word is_count k ws _ _ t.reads (le-leb _ _ form.reads) (t.copies ∷ t.erases ∷ t.exclusives ∷ t.outs ∷ t.injects ∷ []) at rest s (λ k1 ws1 s1.
    take-word is_count k1 ws1 _ _ t.copies (le-leb _ _ form.copies) (t.erases ∷ t.exclusives ∷ t.outs ∷ t.injects ∷ []) at rest s1 (λ k2 ws2 s2.
    take-word is_count k2 ws2 _ _ t.erases (le-leb _ _ form.erases) (t.exclusives ∷ t.outs ∷ t.injects ∷ []) at rest s2 (λ k3 ws3 s3.
    take-word is_count k3 ws3 _ _ t.exclusives (le-leb _ _ form.exclusives) (t.outs ∷ t.injects ∷ []) at rest s3 (λ k4 ws4 s4.
    take-word is_count k4 ws4 _ _ t.outs (le-leb _ _ form.outs) (t.injects ∷ []) at rest s4 (λ k5 ws5 s5.
    take-word is_count k5 ws5 _ _ t.injects (le-leb _ _ form.injects) [] at rest s5 (λ k6 ws6 s6. taken-all t k6 at ws6 rest s6))))))

-- ---- operations

pub key-taken : (depth : ℕ) (key : Key) → key_ends depth key ≡ true → Takes (read_key depth) (key_words key) key
key-taken depth key ends k at ws rest s =
    let ns = key.s0 ∷ key.c0 ∷ key.s1 ∷ key.c1 ∷ key.s2 ∷ key.c2 ∷ key.s3 ∷ key.c3 ∷ [] in
    take-word (is_if (nat_lt 0 depth)) k ws _ _ key.s0 (pair-fits depth 0 0 ns ends (omega arith)) (key.c0 ∷ key.s1 ∷ key.c1 ∷ key.s2 ∷ key.c2 ∷ key.s3 ∷ key.c3 ∷ key.i ∷ []) at rest s (λ k1 ws1 s1.
    take-word (is_if (nat_lt 0 depth)) k1 ws1 _ _ key.c0 (pair-fits depth 0 1 ns ends (omega arith)) (key.s1 ∷ key.c1 ∷ key.s2 ∷ key.c2 ∷ key.s3 ∷ key.c3 ∷ key.i ∷ []) at rest s1 (λ k2 ws2 s2.
    take-word (is_if (nat_lt 1 depth)) k2 ws2 _ _ key.s1 (pair-fits depth 1 2 ns ends (omega arith)) (key.c1 ∷ key.s2 ∷ key.c2 ∷ key.s3 ∷ key.c3 ∷ key.i ∷ []) at rest s2 (λ k3 ws3 s3.
    take-word (is_if (nat_lt 1 depth)) k3 ws3 _ _ key.c1 (pair-fits depth 1 3 ns ends (omega arith)) (key.s2 ∷ key.c2 ∷ key.s3 ∷ key.c3 ∷ key.i ∷ []) at rest s3 (λ k4 ws4 s4.
    take-word (is_if (nat_lt 2 depth)) k4 ws4 _ _ key.s2 (pair-fits depth 2 4 ns ends (omega arith)) (key.c2 ∷ key.s3 ∷ key.c3 ∷ key.i ∷ []) at rest s4 (λ k5 ws5 s5.
    take-word (is_if (nat_lt 2 depth)) k5 ws5 _ _ key.c2 (pair-fits depth 2 5 ns ends (omega arith)) (key.s3 ∷ key.c3 ∷ key.i ∷ []) at rest s5 (λ k6 ws6 s6.
    take-word (is_if (nat_lt 3 depth)) k6 ws6 _ _ key.s3 (pair-fits depth 3 6 ns ends (omega arith)) (key.c3 ∷ key.i ∷ []) at rest s6 (λ k7 ws7 s7.
    take-word (is_if (nat_lt 3 depth)) k7 ws7 _ _ key.c3 (pair-fits depth 3 7 ns ends (omega arith)) (key.i ∷ []) at rest s7 (λ k8 ws8 s8.
    take-word any_word k8 ws8 _ _ key.i refl [] at rest s8 (λ k9 ws9 s9. taken-all key k9 at ws9 rest s9)))))))))

pub op-taken : (depth leaves : ℕ) (ops : List Op) (op : Op) → key_ends depth op.key ≡ true → nat_lt op.hart leaves ≡ true → EffectHasForm op.effect → Takes (read_op depth leaves ops) (op_words op) (ops ++ op ∷ [])
op-taken depth leaves ops op ends below form k at ws rest s =
    let f = effect-coded op.effect form in
    take-part (read_key depth) k ws _ _ (key_words op.key) op.key (key-taken depth op.key ends) (op.hart ∷ op.pc ∷ f.code ∷ f.a ∷ f.b ∷ f.c ∷ []) at rest (spells-as (ap (λ l. key_words op.key ++ op.hart ∷ op.pc ∷ l) f.words) s) (λ k1 ws1 s1.
    take-word (is_below leaves) k1 ws1 _ _ op.hart below (op.pc ∷ f.code ∷ f.a ∷ f.b ∷ f.c ∷ []) at rest s1 (λ k2 ws2 s2.
    take-word any_word k2 ws2 _ _ op.pc refl (f.code ∷ f.a ∷ f.b ∷ f.c ∷ []) at rest s2 (λ k3 ws3 s3.
    take-word (is_to 7) k3 ws3 _ _ f.code f.most (f.a ∷ f.b ∷ f.c ∷ []) at rest s3 (λ k4 ws4 s4.
    take-word (is_first_of f.code) k4 ws4 _ _ f.a f.first (f.b ∷ f.c ∷ []) at rest s4 (λ k5 ws5 s5.
    take-word (is_if (nat_lt 1 (effect_size f.code))) k5 ws5 _ _ f.b f.second (f.c ∷ []) at rest s5 (λ k6 ws6 s6.
    take-word (is_if (nat_lt 2 (effect_size f.code))) k6 ws6 _ _ f.c f.third [] at rest s6 (λ k7 ws7 s7.
    taken-all _ k7 at ws7 rest s7 ∙ ap (λ e. Ok (record { value = ops ++ record { key = op.key; hart = op.hart; pc = op.pc; effect = e } ∷ []; at = at; rest = rest })) f.back)))))))
