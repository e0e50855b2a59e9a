-- The words of an effect.
use Rattle.std.proofs.Common.{◌≡◌, ℕ, ◌<◌, Bool, true, false, cond, List, [], ◌∷◌, ◌++◌, Option, Some, None, refl, ap, ◌∙◌, subst, append_assoc}
use Rattle.std.specs.Prelude.{codes, bytes_eq, option_map}
use Rattle.std.specs.List.{join_with_byte}
use Rattle.std.proofs.lemmas.Slice.Eq.{bytes_eq-Decides}
use Rattle.witness_check.specs.DdmTypes.declared.operations.Effect.{Effect}
use Rattle.witness_check.specs.DdmTypes.declared.operations.Effect.TheVariants.{Plain, Put, Load, Store, Lr, ScOk, ScFail, Amo}
use Rattle.witness_check.specs.DdmText.Hex.{hex2, hex8}
use Rattle.text_model.specs.Words.{effect_text}
use Rattle.witness_check.specs.Lines.{hex2_in, hex8_in, with_both, with_all, effect_of_words}
use Rattle.witness_check.specs.Witness.{IsEffect}
use Rattle.witness_check.proofs.HexTexts.{hex2_of, hex8_of, hex2_in-hex2, hex8_in-hex8}

abbrev pub words_of_effect : Effect → List (List ℕ)
words_of_effect Plain = codes "plain" ∷ []
words_of_effect (Put byte) = codes "put" ∷ hex2 byte ∷ []
words_of_effect (Load address word) = codes "load" ∷ hex8 address ∷ hex8 word ∷ []
words_of_effect (Store address before after) = codes "store" ∷ hex8 address ∷ hex8 before ∷ hex8 after ∷ []
words_of_effect (Lr address word) = codes "lr" ∷ hex8 address ∷ hex8 word ∷ []
words_of_effect (ScOk address before after) = codes "scok" ∷ hex8 address ∷ hex8 before ∷ hex8 after ∷ []
words_of_effect (ScFail address) = codes "scfail" ∷ hex8 address ∷ []
words_of_effect (Amo address before after) = codes "amo" ∷ hex8 address ∷ hex8 before ∷ hex8 after ∷ []

-- ---- what words say

pub record AreOf (words : List (List ℕ)) (effect : Effect) : Type 0 where
  pub fits : IsEffect effect
  pub are : words ≡ words_of_effect effect

pub same_bytes : (xs ys : List ℕ) → bytes_eq xs ys ≡ true → xs ≡ ys
same_bytes xs ys = (bytes_eq-Decides xs ys).0

some_effect : (a b : Effect) (words : List (List ℕ)) → Some a ≡ Some b → AreOf words a → AreOf words b
some_effect a b words e are = let P : Effect → Type 0 = λ x. AreOf words x in subst P (cc e) are

plain_words : (d : Bool) (name : List ℕ) (effect : Effect) → bytes_eq name (codes "plain") ≡ d → cond d (Some Plain) None ≡ Some effect → AreOf (name ∷ []) effect
plain_words true name effect named e = some_effect Plain effect (name ∷ []) e (record { fits = tt; are = ap (λ (w : List ℕ). w ∷ []) (same_bytes name (codes "plain") named) })
plain_words false name effect named e = absurd (cc e)

put_words : (o : Option ℕ) (name a : List ℕ) (effect : Effect) → bytes_eq name (codes "put") ≡ true → hex2_in a ≡ o → option_map (λ byte. Put byte) o ≡ Some effect → AreOf (name ∷ a ∷ []) effect
put_words (Some x) name a effect named first e =
    let one = hex2_of a x first in
    some_effect (Put x) effect (name ∷ a ∷ []) e (record {
      fits = one.small;
      are = ap (λ (w : List ℕ). w ∷ a ∷ []) (same_bytes name (codes "put") named) ∙ ap (λ (w : List ℕ). codes "put" ∷ w ∷ []) one.is;
    })
put_words None name a effect named first e = absurd (cc e)

scfail_words : (o : Option ℕ) (name a : List ℕ) (effect : Effect) → bytes_eq name (codes "scfail") ≡ true → hex8_in a ≡ o → option_map (λ address. ScFail address) o ≡ Some effect → AreOf (name ∷ a ∷ []) effect
scfail_words (Some x) name a effect named first e =
    let one = hex8_of a x first in
    some_effect (ScFail x) effect (name ∷ a ∷ []) e (record {
      fits = one.small;
      are = ap (λ (w : List ℕ). w ∷ a ∷ []) (same_bytes name (codes "scfail") named) ∙ ap (λ (w : List ℕ). codes "scfail" ∷ w ∷ []) one.is;
    })
scfail_words None name a effect named first e = absurd (cc e)

load_words : (o o' : Option ℕ) (name a b : List ℕ) (effect : Effect) → bytes_eq name (codes "load") ≡ true → hex8_in a ≡ o → hex8_in b ≡ o' → with_both (λ x y. Load x y) o o' ≡ Some effect → AreOf (name ∷ a ∷ b ∷ []) effect
load_words (Some x) (Some y) name a b effect named first second e =
    let one = hex8_of a x first in
    let two = hex8_of b y second in
    some_effect (Load x y) effect (name ∷ a ∷ b ∷ []) e (record {
      fits = (one.small, two.small);
      are = ap (λ (w : List ℕ). w ∷ a ∷ b ∷ []) (same_bytes name (codes "load") named) ∙ ap (λ (w : List ℕ). codes "load" ∷ w ∷ b ∷ []) one.is ∙ ap (λ (w : List ℕ). codes "load" ∷ hex8 x ∷ w ∷ []) two.is;
    })
load_words (Some x) None name a b effect named first second e = absurd (cc e)
load_words None o' name a b effect named first second e = absurd (cc e)

lr_words : (o o' : Option ℕ) (name a b : List ℕ) (effect : Effect) → bytes_eq name (codes "lr") ≡ true → hex8_in a ≡ o → hex8_in b ≡ o' → with_both (λ x y. Lr x y) o o' ≡ Some effect → AreOf (name ∷ a ∷ b ∷ []) effect
lr_words (Some x) (Some y) name a b effect named first second e =
    let one = hex8_of a x first in
    let two = hex8_of b y second in
    some_effect (Lr x y) effect (name ∷ a ∷ b ∷ []) e (record {
      fits = (one.small, two.small);
      are = ap (λ (w : List ℕ). w ∷ a ∷ b ∷ []) (same_bytes name (codes "lr") named) ∙ ap (λ (w : List ℕ). codes "lr" ∷ w ∷ b ∷ []) one.is ∙ ap (λ (w : List ℕ). codes "lr" ∷ hex8 x ∷ w ∷ []) two.is;
    })
lr_words (Some x) None name a b effect named first second e = absurd (cc e)
lr_words None o' name a b effect named first second e = absurd (cc e)

store_words : (o o' o'' : Option ℕ) (name a b c : List ℕ) (effect : Effect) → bytes_eq name (codes "store") ≡ true → hex8_in a ≡ o → hex8_in b ≡ o' → hex8_in c ≡ o'' → with_all (λ x y z. Store x y z) o o' o'' ≡ Some effect → AreOf (name ∷ a ∷ b ∷ c ∷ []) effect
store_words (Some x) (Some y) (Some z) name a b c effect named first second third e =
    let one = hex8_of a x first in
    let two = hex8_of b y second in
    let three = hex8_of c z third in
    some_effect (Store x y z) effect (name ∷ a ∷ b ∷ c ∷ []) e (record {
      fits = (one.small, two.small, three.small);
      are =
          ap (λ (w : List ℕ). w ∷ a ∷ b ∷ c ∷ []) (same_bytes name (codes "store") named) ∙ ap (λ (w : List ℕ). codes "store" ∷ w ∷ b ∷ c ∷ []) one.is
          ∙ ap (λ (w : List ℕ). codes "store" ∷ hex8 x ∷ w ∷ c ∷ []) two.is ∙ ap (λ (w : List ℕ). codes "store" ∷ hex8 x ∷ hex8 y ∷ w ∷ []) three.is;
    })
store_words (Some x) (Some y) None name a b c effect named first second third e = absurd (cc e)
store_words (Some x) None o'' name a b c effect named first second third e = absurd (cc e)
store_words None o' o'' name a b c effect named first second third e = absurd (cc e)

scok_words : (o o' o'' : Option ℕ) (name a b c : List ℕ) (effect : Effect) → bytes_eq name (codes "scok") ≡ true → hex8_in a ≡ o → hex8_in b ≡ o' → hex8_in c ≡ o'' → with_all (λ x y z. ScOk x y z) o o' o'' ≡ Some effect → AreOf (name ∷ a ∷ b ∷ c ∷ []) effect
scok_words (Some x) (Some y) (Some z) name a b c effect named first second third e =
    let one = hex8_of a x first in
    let two = hex8_of b y second in
    let three = hex8_of c z third in
    some_effect (ScOk x y z) effect (name ∷ a ∷ b ∷ c ∷ []) e (record {
      fits = (one.small, two.small, three.small);
      are =
          ap (λ (w : List ℕ). w ∷ a ∷ b ∷ c ∷ []) (same_bytes name (codes "scok") named) ∙ ap (λ (w : List ℕ). codes "scok" ∷ w ∷ b ∷ c ∷ []) one.is
          ∙ ap (λ (w : List ℕ). codes "scok" ∷ hex8 x ∷ w ∷ c ∷ []) two.is ∙ ap (λ (w : List ℕ). codes "scok" ∷ hex8 x ∷ hex8 y ∷ w ∷ []) three.is;
    })
scok_words (Some x) (Some y) None name a b c effect named first second third e = absurd (cc e)
scok_words (Some x) None o'' name a b c effect named first second third e = absurd (cc e)
scok_words None o' o'' name a b c effect named first second third e = absurd (cc e)

amo_words : (o o' o'' : Option ℕ) (name a b c : List ℕ) (effect : Effect) → bytes_eq name (codes "amo") ≡ true → hex8_in a ≡ o → hex8_in b ≡ o' → hex8_in c ≡ o'' → with_all (λ x y z. Amo x y z) o o' o'' ≡ Some effect → AreOf (name ∷ a ∷ b ∷ c ∷ []) effect
amo_words (Some x) (Some y) (Some z) name a b c effect named first second third e =
    let one = hex8_of a x first in
    let two = hex8_of b y second in
    let three = hex8_of c z third in
    some_effect (Amo x y z) effect (name ∷ a ∷ b ∷ c ∷ []) e (record {
      fits = (one.small, two.small, three.small);
      are =
          ap (λ (w : List ℕ). w ∷ a ∷ b ∷ c ∷ []) (same_bytes name (codes "amo") named) ∙ ap (λ (w : List ℕ). codes "amo" ∷ w ∷ b ∷ c ∷ []) one.is
          ∙ ap (λ (w : List ℕ). codes "amo" ∷ hex8 x ∷ w ∷ c ∷ []) two.is ∙ ap (λ (w : List ℕ). codes "amo" ∷ hex8 x ∷ hex8 y ∷ w ∷ []) three.is;
    })
amo_words (Some x) (Some y) None name a b c effect named first second third e = absurd (cc e)
amo_words (Some x) None o'' name a b c effect named first second third e = absurd (cc e)
amo_words None o' o'' name a b c effect named first second third e = absurd (cc e)

one_by : (d d' : Bool) (name a : List ℕ) (effect : Effect) → bytes_eq name (codes "put") ≡ d → bytes_eq name (codes "scfail") ≡ d' → cond d (option_map (λ byte. Put byte) (hex2_in a)) (cond d' (option_map (λ address. ScFail address) (hex8_in a)) None) ≡ Some effect → AreOf (name ∷ a ∷ []) effect
one_by true d' name a effect put fail e = put_words (hex2_in a) name a effect put refl e
one_by false true name a effect put fail e = scfail_words (hex8_in a) name a effect fail refl e
one_by false false name a effect put fail e = absurd (cc e)

two_by : (d d' : Bool) (name a b : List ℕ) (effect : Effect) → bytes_eq name (codes "load") ≡ d → bytes_eq name (codes "lr") ≡ d'
    → cond d (with_both (λ x y. Load x y) (hex8_in a) (hex8_in b)) (cond d' (with_both (λ x y. Lr x y) (hex8_in a) (hex8_in b)) None) ≡ Some effect → AreOf (name ∷ a ∷ b ∷ []) effect
two_by true d' name a b effect load lr e = load_words (hex8_in a) (hex8_in b) name a b effect load refl refl e
two_by false true name a b effect load lr e = lr_words (hex8_in a) (hex8_in b) name a b effect lr refl refl e
two_by false false name a b effect load lr e = absurd (cc e)

three_by : (d d' d'' : Bool) (name a b c : List ℕ) (effect : Effect) → bytes_eq name (codes "store") ≡ d → bytes_eq name (codes "scok") ≡ d' → bytes_eq name (codes "amo") ≡ d''
    → cond d (with_all (λ x y z. Store x y z) (hex8_in a) (hex8_in b) (hex8_in c)) (cond d' (with_all (λ x y z. ScOk x y z) (hex8_in a) (hex8_in b) (hex8_in c)) (cond d'' (with_all (λ x y z. Amo x y z) (hex8_in a) (hex8_in b) (hex8_in c)) None)) ≡ Some effect
    → AreOf (name ∷ a ∷ b ∷ c ∷ []) effect
three_by true d' d'' name a b c effect store scok amo e = store_words (hex8_in a) (hex8_in b) (hex8_in c) name a b c effect store refl refl refl e
three_by false true d'' name a b c effect store scok amo e = scok_words (hex8_in a) (hex8_in b) (hex8_in c) name a b c effect scok refl refl refl e
three_by false false true name a b c effect store scok amo e = amo_words (hex8_in a) (hex8_in b) (hex8_in c) name a b c effect amo refl refl refl e
three_by false false false name a b c effect store scok amo e = absurd (cc e)

pub effect_is : (words : List (List ℕ)) (effect : Effect) → effect_of_words words ≡ Some effect → AreOf words effect
unfolding effect_of_words
effect_is [] effect e = absurd (cc e)
effect_is (name ∷ []) effect e = plain_words (bytes_eq name (codes "plain")) name effect refl e
effect_is (name ∷ a ∷ []) effect e = one_by (bytes_eq name (codes "put")) (bytes_eq name (codes "scfail")) name a effect refl refl e
effect_is (name ∷ a ∷ b ∷ []) effect e = two_by (bytes_eq name (codes "load")) (bytes_eq name (codes "lr")) name a b effect refl refl e
effect_is (name ∷ a ∷ b ∷ c ∷ []) effect e = three_by (bytes_eq name (codes "store")) (bytes_eq name (codes "scok")) (bytes_eq name (codes "amo")) name a b c effect refl refl refl e
effect_is (name ∷ a ∷ b ∷ c ∷ d ∷ more) effect e = absurd (cc e)

-- ---- and back

both_read : (make : ℕ → ℕ → Effect) (x y : ℕ) → x < 4294967296 → y < 4294967296 → with_both make (hex8_in (hex8 x)) (hex8_in (hex8 y)) ≡ Some (make x y)
both_read make x y first second = ap (λ o. with_both make o (hex8_in (hex8 y))) (hex8_in-hex8 x first) ∙ ap (λ o. with_both make (Some x) o) (hex8_in-hex8 y second)

all_read : (make : ℕ → ℕ → ℕ → Effect) (x y z : ℕ) → x < 4294967296 → y < 4294967296 → z < 4294967296 → with_all make (hex8_in (hex8 x)) (hex8_in (hex8 y)) (hex8_in (hex8 z)) ≡ Some (make x y z)
all_read make x y z first second third =
    ap (λ o. with_all make o (hex8_in (hex8 y)) (hex8_in (hex8 z))) (hex8_in-hex8 x first)
    ∙ ap (λ o. with_all make (Some x) o (hex8_in (hex8 z))) (hex8_in-hex8 y second)
    ∙ ap (λ o. with_all make (Some x) (Some y) o) (hex8_in-hex8 z third)

join_two : (name a b : List ℕ) → name ++ (a ++ 32 ∷ b) ≡ ((name ++ a) ++ 32 ∷ []) ++ b
join_two name a b = simp append_assoc

join_three : (name a b c : List ℕ) → name ++ (a ++ 32 ∷ (b ++ 32 ∷ c)) ≡ ((((name ++ a) ++ 32 ∷ []) ++ b) ++ 32 ∷ []) ++ c
join_three name a b c = simp append_assoc

pub effect_read : (effect : Effect) → IsEffect effect → effect_of_words (words_of_effect effect) ≡ Some effect
unfolding effect_of_words
effect_read Plain fits = refl
effect_read (Put byte) fits = ap (λ o. option_map (λ b. Put b) o) (hex2_in-hex2 byte fits)
effect_read (Load address word) fits = both_read (λ x y. Load x y) address word fits.0 fits.1
effect_read (Store address before after) fits = all_read (λ x y z. Store x y z) address before after fits.0 fits.1 fits.2
effect_read (Lr address word) fits = both_read (λ x y. Lr x y) address word fits.0 fits.1
effect_read (ScOk address before after) fits = all_read (λ x y z. ScOk x y z) address before after fits.0 fits.1 fits.2
effect_read (ScFail address) fits = ap (λ o. option_map (λ a. ScFail a) o) (hex8_in-hex8 address fits)
effect_read (Amo address before after) fits = all_read (λ x y z. Amo x y z) address before after fits.0 fits.1 fits.2

pub join-effect : (effect : Effect) → join_with_byte 32 (words_of_effect effect) ≡ effect_text effect
unfolding effect_text
join-effect Plain = refl
join-effect (Put byte) = refl
join-effect (Load address word) = join_two (codes "load ") (hex8 address) (hex8 word)
join-effect (Store address before after) = join_three (codes "store ") (hex8 address) (hex8 before) (hex8 after)
join-effect (Lr address word) = join_two (codes "lr ") (hex8 address) (hex8 word)
join-effect (ScOk address before after) = join_three (codes "scok ") (hex8 address) (hex8 before) (hex8 after)
join-effect (ScFail address) = refl
join-effect (Amo address before after) = join_three (codes "amo ") (hex8 address) (hex8 before) (hex8 after)
