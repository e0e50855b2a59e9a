-- Numbers of 32 bits: what instructions make of them are such numbers.
use Rattle.std.proofs.Common.{◌≡◌, ℕ, zero, suc, ℤ, pos, negsuc, ◌+◌, ◌-◌, ◌*◌, ◌/◌, ◌%◌, ◌^◌, ◌<◌, ◌≤◌, Bool, true, false, cond, List, [], ◌∷◌, length, refl, ap, ◌∙◌, arith}
use Rattle.std.specs.Prelude.{nat_lt, int_lt, slice_index, slice_set}
use Rattle.std.specs.List.{AllByRecursion}
use Rattle.std.specs.Int.{w32, cast_unsigned, int_shr, to_le_bytes, from_le_bytes, from_bool}
use native.Mathlib.Nat.{div-le_self}
use Rattle.std.proofs.lemmas.Nat.{and_le_l, or_lt, xor_lt}
use Rattle.std.proofs.lemmas.List.{length-set}
use Rattle.value_laws.specs.RvDecode.declared.instructions.RegOp.{RegOp}
use Rattle.value_laws.specs.RvDecode.declared.instructions.RegOp.TheVariants.{Add, Sub, Sll, Slt, Sltu, Xor, Srl, Sra, Or, And}
use Rattle.value_laws.specs.RvDecode.declared.instructions.AmoOp.{AmoOp}
use Rattle.value_laws.specs.RvDecode.declared.instructions.AmoOp.TheVariants.{Add as AmoAdd, Swap as AmoSwap, Xor as AmoXor, Or as AmoOr, And as AmoAnd, Min as AmoMin, Max as AmoMax, Minu as AmoMinu, Maxu as AmoMaxu}
use Rattle.value_laws.specs.RvDecode.declared.instructions.LoadOp.{LoadOp}
use Rattle.value_laws.specs.RvDecode.declared.instructions.LoadOp.TheVariants.{Lb, Lh, Lw, Lbu, Lhu}
use Rattle.value_laws.specs.RvDecode.declared.instructions.StoreOp.{StoreOp}
use Rattle.value_laws.specs.RvDecode.declared.instructions.StoreOp.TheVariants.{Sb, Sh, Sw}
use Rattle.value_laws.specs.RvDecode.Table.{signed}
use Rattle.value_laws.specs.FlatModel.Hart.{amo_result, byte_in, half_in, loaded_value, register_result, signed_word, stored_word}
use Rattle.value_laws.specs.TreeModel.State.Leaf.{blank}
use Rattle.value_laws.specs.Values.{IsWord, AreWords}
use Rattle.value_laws.proofs.Lists.{all-set, all-replicate}

-- ---- lists of words

-- one past the end counts as 0
pub word-at : (ws : List ℕ) (k : ℕ) → AllByRecursion IsWord ws → IsWord (slice_index ws k)
word-at [] k all = omega arith
word-at (w ∷ ws) zero all = all.0
word-at (w ∷ ws) (suc k) all = word-at ws k all.1

pub words-set : (width : ℕ) (ws : List ℕ) (k w : ℕ) → AreWords width ws → IsWord w → AreWords width (slice_set ws k w)
words-set width ws k w are is = record { count = length-set ws k w ∙ are.count; each = all-set IsWord ws k w are.each is }

zeros : (n : ℕ) → length (blank n) ≡ n
zeros zero = refl
zeros (suc n) = ap suc (zeros n)

pub blank-words : (width : ℕ) → AreWords width (blank width)
blank-words width = record { count = zeros width; each = all-replicate IsWord width 0 (omega arith) }

-- ---- results

pub wraps : (a : ℕ) → IsWord (a % 2 ^ 32)
wraps a = omega arith

pub one_of : (b : Bool) (a c : ℕ) → IsWord a → IsWord c → IsWord (cond b a c)
one_of true a c first second = first
one_of false a c first second = second

bool_word : (b : Bool) → IsWord (from_bool b)
bool_word true = omega arith
bool_word false = omega arith

divided : (a b : ℕ) → IsWord a → IsWord (a / b)
divided a b small = let less : a / b ≤ a = div-le_self a b in omega (arith, small, less)

shifted : (z : ℤ) (k : ℕ) → IsWord (cast_unsigned w32 z) → IsWord (cast_unsigned w32 (int_shr z k))
shifted (pos n) k small = divided n (2 ^ k) small
shifted (negsuc n) k small = omega arith

back : (a : ℕ) → IsWord a → IsWord (cast_unsigned w32 (signed_word a))
back a small = by (nat_lt a (2 ^ 31)) where
  by : (b : Bool) → IsWord (cast_unsigned w32 (cond b (pos a) (negsuc (2 ^ 32 - suc a))))
  by true = small
  by false = omega arith

pub register_words : (op : RegOp) (a b : ℕ) → IsWord a → IsWord b → IsWord (register_result op a b)
register_words Add a b first second = wraps (a + b)
register_words Sub a b first second = wraps (a + (2 ^ 32 - b))
register_words Sll a b first second = wraps (a * 2 ^ (b % 32))
register_words Slt a b first second = bool_word (int_lt (signed_word a) (signed_word b))
register_words Sltu a b first second = bool_word (nat_lt a b)
register_words Xor a b first second = xor_lt 32 a b first second
register_words Srl a b first second = divided a (2 ^ (b % 32)) first
register_words Sra a b first second = shifted (signed_word a) (b % 32) (back a first)
register_words Or a b first second = or_lt 32 a b first second
register_words And a b first second = let less = and_le_l a b in omega (arith, less, first)

pub amo_words : (op : AmoOp) (a b : ℕ) → IsWord a → IsWord b → IsWord (amo_result op a b)
amo_words AmoAdd a b first second = wraps (a + b)
amo_words AmoSwap a b first second = second
amo_words AmoXor a b first second = xor_lt 32 a b first second
amo_words AmoOr a b first second = or_lt 32 a b first second
amo_words AmoAnd a b first second = let less = and_le_l a b in omega (arith, less, first)
amo_words AmoMin a b first second = one_of (int_lt (signed_word b) (signed_word a)) b a second first
amo_words AmoMax a b first second = one_of (int_lt (signed_word a) (signed_word b)) b a second first
amo_words AmoMinu a b first second = omega (arith, first)
amo_words AmoMaxu a b first second = omega (arith, first, second)

-- ---- immediates

pub signed_immediate : (n : ℕ) → n < 4096 → IsWord (cast_unsigned w32 (signed 12 n))
signed_immediate n small = by (nat_lt n 2048) where
  by : (b : Bool) → IsWord (cast_unsigned w32 (cond b (pos n) (negsuc (4095 - n))))
  by true = omega (arith, small)
  by false = omega arith

-- ---- bytes of a word

byte_small : (word k : ℕ) → byte_in word k < 256
byte_small word zero = omega arith
byte_small word (suc zero) = omega arith
byte_small word (suc (suc zero)) = omega arith
byte_small word (suc (suc (suc zero))) = omega arith
byte_small word (suc (suc (suc (suc k)))) = omega arith

half_small : (word k : ℕ) → half_in word k < 65536
half_small word k = let low = byte_small word k in let high = byte_small word (k + 1) in omega (arith, low, high)

abbrev AreBytes : List ℕ → Type 0
AreBytes xs = (k : ℕ) → slice_index xs k < 256

bytes_set : (xs : List ℕ) (k v : ℕ) → AreBytes xs → v < 256 → AreBytes (slice_set xs k v)
bytes_set [] k v are small = are
bytes_set (x ∷ xs) zero v are small = λ j. elim j as (λ j. slice_index (v ∷ xs) j < 256) [ zero ↦ small | suc j ↦ are (suc j) ]
bytes_set (x ∷ xs) (suc k) v are small =
    let rest = bytes_set xs k v (λ j. are (suc j)) small in
    λ j. elim j as (λ j. slice_index (x ∷ slice_set xs k v) j < 256) [ zero ↦ are zero | suc j ↦ rest j ]

four_bytes : (xs : List ℕ) → AreBytes xs → IsWord (from_le_bytes w32 xs)
four_bytes xs are =
    let a = are 0 in
    let b = are 1 in
    let c = are 2 in
    let d = are 3 in
    omega (arith, a, b, c, d)

pub loaded_words : (op : LoadOp) (word k : ℕ) → IsWord word → IsWord (loaded_value op word k)
loaded_words Lb word k small = by (nat_lt (byte_in word k) (2 ^ 7)) where
  by : (b : Bool) → IsWord (cast_unsigned w32 (cond b (pos (byte_in word k)) (negsuc (2 ^ 8 - suc (byte_in word k)))))
  by true = let low = byte_small word k in omega (arith, low)
  by false = omega arith
loaded_words Lh word k small = by (nat_lt (half_in word k) (2 ^ 15)) where
  by : (b : Bool) → IsWord (cast_unsigned w32 (cond b (pos (half_in word k)) (negsuc (2 ^ 16 - suc (half_in word k)))))
  by true = let low = half_small word k in omega (arith, low)
  by false = omega arith
loaded_words Lw word k small = small
loaded_words Lbu word k small = let low = byte_small word k in omega (arith, low)
loaded_words Lhu word k small = let low = half_small word k in omega (arith, low)

pub stored_words : (op : StoreOp) (word k v : ℕ) → IsWord v → IsWord (stored_word op word k v)
stored_words Sb word k v small = four_bytes _ (bytes_set (to_le_bytes w32 word) k (byte_in v 0) (byte_small word) (byte_small v 0))
stored_words Sh word k v small = four_bytes _ (bytes_set (slice_set (to_le_bytes w32 word) k (byte_in v 0)) (k + 1) (byte_in v 1) (bytes_set (to_le_bytes w32 word) k (byte_in v 0) (byte_small word) (byte_small v 0)) (byte_small v 1))
stored_words Sw word k v small = small
