-- The word of a key, and its numbers.
use Rattle.std.proofs.Common.{◌≡◌, ℕ, ◌*◌, ◌<◌, ◌≤◌, Bool, true, false, cond, nat_eq, zero, suc, take, List, [], ◌∷◌, ◌++◌, map, Option, Some, None, decimal, refl, sym, ap, ◌∙◌, subst, arith, append_assoc}
use Rattle.std.specs.Prelude.{option_and_then}
use Rattle.std.specs.List.{join_with_byte}
use Rattle.std.specs.Result.{result_ok}
use Rattle.std.proofs.lemmas.Bool.{eqb-true}
use Rattle.std.proofs.lemmas.List.{append-nil}
use Rattle.witness_check.specs.DdmTypes.declared.keys.Key.{Key}
use Rattle.witness_check.specs.DdmTypes.Keys.{key_zero}
use Rattle.witness_check.specs.DdmText.Numbers.{is_digit, number_of}
use Rattle.witness_check.proofs.DdmText.Spellings.{spelling-number_of, number_of-within, number_of-decimal}
use Rattle.text_model.specs.Schedule.{pieces_at, place_in, with_byte_before}
use Rattle.text_model.specs.Lines.{Lacks}
use Rattle.text_model.specs.Report.{key_text, level_numbers, number_stops}
use Rattle.text_model.proofs.OneSpelling.{is_ok_by}
use Rattle.text_model.proofs.Pieces.{some_piece, pieces_at-append, pieces_at-whole, Lacks-decimal}
use Rattle.witness_check.specs.Lines.{with_number, numbers_in, key_of_numbers, key_in}
use Rattle.witness_check.specs.Witness.{IsWord, HasWords}

-- ---- pieces put together again

join_by : (d : Bool) (separator byte : ℕ) (piece : List ℕ) (pieces : List (List ℕ)) → nat_eq byte separator ≡ d → join_with_byte separator (cond d ([] ∷ piece ∷ pieces) ((byte ∷ piece) ∷ pieces)) ≡ byte ∷ join_with_byte separator (piece ∷ pieces)
join_by true separator byte piece pieces same = ap (λ b. b ∷ join_with_byte separator (piece ∷ pieces)) (sym (eqb-true byte separator same))
join_by false separator byte piece [] other = refl
join_by false separator byte piece (next ∷ pieces) other = refl

pub join-pieces_at : (separator : ℕ) (text : List ℕ) → join_with_byte separator (pieces_at separator text) ≡ text
unfolding pieces_at
join-pieces_at separator [] = refl
join-pieces_at separator (byte ∷ text) =
    let some = some_piece separator text in
    ap (λ ps. join_with_byte separator (with_byte_before separator byte ps)) some.2
    ∙ join_by (nat_eq byte separator) separator byte some.0 some.1 refl
    ∙ ap (λ ps. byte ∷ join_with_byte separator ps) (sym some.2)
    ∙ ap (λ t. byte ∷ t) (join-pieces_at separator text)

-- ---- a number

pub record IsDecimal (word : List ℕ) (n : ℕ) : Type 0 where
  pub small : n < 4294967296
  pub is : word ≡ decimal n

pub decimal_of : (word : List ℕ) (n : ℕ) → place_in word ≡ Some n → IsDecimal word n
decimal_of word n e =
    let read = is_ok_by (number_of word 4294967295) n e in
    record { small = omega (arith, number_of-within word 4294967295 n read); is = spelling-number_of word 4294967295 n (omega arith) read }

pub place_in-decimal : (n : ℕ) → n < 4294967296 → place_in (decimal n) ≡ Some n
place_in-decimal n small = ap result_ok (number_of-decimal n 4294967295 (omega arith) (omega arith))

-- ---- numbers

abbrev pub AreSmall : List ℕ → Type 0
AreSmall [] = Unit {0}
AreSmall (n ∷ ns) = IsWord n × AreSmall ns

-- words that are the spellings of these numbers
pub record AreDecimals (words : List (List ℕ)) (ns : List ℕ) : Type 0 where
  pub small : AreSmall ns
  pub are : words ≡ map decimal ns

pub decimals_of : (words : List (List ℕ)) (ns : List ℕ) → numbers_in words ≡ Some ns → AreDecimals words ns
decimals_of [] [] e = record { small = tt; are = refl }
decimals_of [] (n ∷ ns) e = absurd (cc e)
decimals_of (w ∷ ws) ns e = by (λ ms rest. decimals_of ws ms rest) (place_in w) (numbers_in ws) ns refl refl e where
  by : ((ms : List ℕ) → numbers_in ws ≡ Some ms → AreDecimals ws ms) → (o : Option ℕ) (more : Option (List ℕ)) (ns : List ℕ) → place_in w ≡ o → numbers_in ws ≡ more → with_number o more ≡ Some ns → AreDecimals (w ∷ ws) ns
  by more (Some n) (Some others) [] one rest e = absurd (cc e)
  by more (Some n) (Some others) (m ∷ ms) one rest e =
      let first : n ≡ m = cc e in
      let behind : others ≡ ms = cc e in
      let here = decimal_of w m (one ∙ ap (λ (k : ℕ). Some k) first) in
      let there = more ms (rest ∙ ap (λ (ks : List ℕ). Some ks) behind) in
      record { small = (here.small, there.small); are = ap (λ (t : List ℕ). t ∷ ws) here.is ∙ ap (λ (ts : List (List ℕ)). decimal m ∷ ts) there.are }
  by more (Some n) None ns one rest e = absurd (cc e)
  by more None others ns one rest e = absurd (cc e)

pub numbers_in-decimals : (ns : List ℕ) → AreSmall ns → numbers_in (map decimal ns) ≡ Some ns
numbers_in-decimals [] small = refl
numbers_in-decimals (n ∷ ns) small = ap (λ o. with_number o (numbers_in (map decimal ns))) (place_in-decimal n small.0) ∙ ap (λ o. with_number (Some n) o) (numbers_in-decimals ns small.1)

-- ---- words that are joined and taken apart

abbrev pub AllLack : ℕ → List (List ℕ) → Type 0
AllLack separator [] = Unit {0}
AllLack separator (w ∷ ws) = Lacks separator w × AllLack separator ws

pub pieces_at-join : (separator : ℕ) (w : List ℕ) (ws : List (List ℕ)) → nat_eq separator separator ≡ true → AllLack separator (w ∷ ws) → pieces_at separator (join_with_byte separator (w ∷ ws)) ≡ w ∷ ws
pieces_at-join separator w [] same lacks = pieces_at-whole separator w lacks.0
pieces_at-join separator w (v ∷ ws) same lacks =
    pieces_at-append separator w (join_with_byte separator (v ∷ ws)) same lacks.0 ∙ ap (λ ps. w ∷ ps) (pieces_at-join separator v ws same lacks.1)

lacks_decimals : (separator : ℕ) (ns : List ℕ) → is_digit separator ≡ false → AreSmall ns → AllLack separator (map decimal ns)
lacks_decimals separator [] other small = tt
lacks_decimals separator (n ∷ ns) other small = let few : n < 4294967296 = small.0 in (Lacks-decimal separator n other (omega arith), lacks_decimals separator ns other small.1)

-- ---- keys

-- numbers, each with a full stop behind it, and a last one
stops_join : (ns : List ℕ) (i : ℕ) → number_stops ns ++ decimal i ≡ join_with_byte 46 (map decimal (ns ++ i ∷ []))
unfolding number_stops
stops_join [] i = refl
stops_join (n ∷ []) i = ap (λ t. t ++ decimal i) (append-nil (decimal n ++ 46 ∷ [])) ∙ append_assoc (decimal n) (46 ∷ []) (decimal i)
stops_join (n ∷ m ∷ ns) i =
    append_assoc (decimal n ++ 46 ∷ []) (number_stops (m ∷ ns)) (decimal i)
    ∙ append_assoc (decimal n) (46 ∷ []) (number_stops (m ∷ ns) ++ decimal i)
    ∙ ap (λ t. decimal n ++ 46 ∷ t) (stops_join (m ∷ ns) i)

-- the word of a key, with its depth
pub record IsKeyOf (word : List ℕ) (key : Key) : Type 0 where
  pub depth : ℕ
  pub least : 1 ≤ depth
  pub most : depth ≤ 4
  pub fits : HasWords key
  pub is : word ≡ key_text depth key

key_of : (ns : List ℕ) (word : List ℕ) (key : Key) → word ≡ join_with_byte 46 (map decimal ns) → AreSmall ns → key_of_numbers ns ≡ Some key → IsKeyOf word key
unfolding key_text
key_of [] word key is small e = absurd (cc e)
key_of (a ∷ []) word key is small e = absurd (cc e)
key_of (a ∷ b ∷ []) word key is small e = absurd (cc e)
key_of (a ∷ b ∷ i ∷ []) word key is small e =
    let P : Key → Type 0 = λ k. IsKeyOf word k in
    let made : Key = record key_zero { s0 = a; c0 = b; i = i } in
    let same : made ≡ key = cc e in
    subst P same (record {
      depth = 1;
      least = omega arith;
      most = omega arith;
      fits = record { level0 = (small.0, small.1.0); level1 = (omega arith, omega arith); level2 = (omega arith, omega arith); level3 = (omega arith, omega arith); last = small.1.1.0 };
      is = is ∙ sym (stops_join (a ∷ b ∷ []) i);
    })
key_of (a ∷ b ∷ c ∷ d ∷ []) word key is small e = absurd (cc e)
key_of (a ∷ b ∷ c ∷ d ∷ i ∷ []) word key is small e =
    let P : Key → Type 0 = λ k. IsKeyOf word k in
    let made : Key = record key_zero { s0 = a; c0 = b; s1 = c; c1 = d; i = i } in
    let same : made ≡ key = cc e in
    subst P same (record {
      depth = 2;
      least = omega arith;
      most = omega arith;
      fits = record { level0 = (small.0, small.1.0); level1 = (small.1.1.0, small.1.1.1.0); level2 = (omega arith, omega arith); level3 = (omega arith, omega arith); last = small.1.1.1.1.0 };
      is = is ∙ sym (stops_join (a ∷ b ∷ c ∷ d ∷ []) i);
    })
key_of (a ∷ b ∷ c ∷ d ∷ f ∷ g ∷ []) word key is small e = absurd (cc e)
key_of (a ∷ b ∷ c ∷ d ∷ f ∷ g ∷ i ∷ []) word key is small e =
    let P : Key → Type 0 = λ k. IsKeyOf word k in
    let made : Key = record key_zero { s0 = a; c0 = b; s1 = c; c1 = d; s2 = f; c2 = g; i = i } in
    let same : made ≡ key = cc e in
    subst P same (record {
      depth = 3;
      least = omega arith;
      most = omega arith;
      fits = record { level0 = (small.0, small.1.0); level1 = (small.1.1.0, small.1.1.1.0); level2 = (small.1.1.1.1.0, small.1.1.1.1.1.0); level3 = (omega arith, omega arith); last = small.1.1.1.1.1.1.0 };
      is = is ∙ sym (stops_join (a ∷ b ∷ c ∷ d ∷ f ∷ g ∷ []) i);
    })
key_of (a ∷ b ∷ c ∷ d ∷ f ∷ g ∷ h ∷ j ∷ []) word key is small e = absurd (cc e)
key_of (a ∷ b ∷ c ∷ d ∷ f ∷ g ∷ h ∷ j ∷ i ∷ []) word key is small e =
    let P : Key → Type 0 = λ k. IsKeyOf word k in
    let made : Key = record { s0 = a; c0 = b; s1 = c; c1 = d; s2 = f; c2 = g; s3 = h; c3 = j; i = i } in
    let same : made ≡ key = cc e in
    subst P same (record {
      depth = 4;
      least = omega arith;
      most = omega arith;
      fits = record { level0 = (small.0, small.1.0); level1 = (small.1.1.0, small.1.1.1.0); level2 = (small.1.1.1.1.0, small.1.1.1.1.1.0); level3 = (small.1.1.1.1.1.1.0, small.1.1.1.1.1.1.1.0); last = small.1.1.1.1.1.1.1.1.0 };
      is = is ∙ sym (stops_join (a ∷ b ∷ c ∷ d ∷ f ∷ g ∷ h ∷ j ∷ []) i);
    })
key_of (a ∷ b ∷ c ∷ d ∷ f ∷ g ∷ h ∷ j ∷ i ∷ k ∷ more) word key is small e = absurd (cc e)

pub key_is : (word : List ℕ) (key : Key) → key_in word ≡ Some key → IsKeyOf word key
unfolding key_in
key_is word key e = by (numbers_in (pieces_at 46 word)) refl e where
  by : (o : Option (List ℕ)) → numbers_in (pieces_at 46 word) ≡ o → option_and_then key_of_numbers o ≡ Some key → IsKeyOf word key
  by None read e = absurd (cc e)
  by (Some ns) read e =
      let are = decimals_of (pieces_at 46 word) ns read in
      key_of ns word key (sym (join-pieces_at 46 word) ∙ ap (λ ps. join_with_byte 46 ps) are.are) are.small e

-- ---- and back

-- the numbers of a key that a tree of this depth has
abbrev pub key_numbers : ℕ → Key → List ℕ
key_numbers depth key = take (2 * depth) (level_numbers key) ++ key.i ∷ []

read_numbers : (n : ℕ) (ns : List ℕ) (word : List ℕ) (key : Key) → AreSmall (n ∷ ns) → word ≡ join_with_byte 46 (map decimal (n ∷ ns)) → key_of_numbers (n ∷ ns) ≡ Some key → key_in word ≡ Some key
unfolding key_in
read_numbers n ns word key small is e =
    ap (λ t. option_and_then key_of_numbers (numbers_in (pieces_at 46 t))) is
    ∙ ap (λ ps. option_and_then key_of_numbers (numbers_in ps)) (pieces_at-join 46 (decimal n) (map decimal ns) refl (lacks_decimals 46 (n ∷ ns) refl small))
    ∙ ap (λ o. option_and_then key_of_numbers o) (numbers_in-decimals (n ∷ ns) small)
    ∙ e

-- the word of a key of a depth is read as a key
pub record IsRead (depth : ℕ) (key : Key) : Type 0 where
  pub read : Key
  pub is : key_in (key_text depth key) ≡ Some read

pub key_read : (depth : ℕ) (key : Key) → 1 ≤ depth → depth ≤ 4 → HasWords key → IsRead depth key
unfolding key_text
key_read zero key least most fits = absurd (omega (arith, least))
key_read (suc zero) key least most fits = record {
  read = record key_zero { s0 = key.s0; c0 = key.c0; i = key.i };
  is = read_numbers key.s0 (key.c0 ∷ key.i ∷ []) _ _ (fits.level0.0, (fits.level0.1, (fits.last, tt))) (stops_join (key.s0 ∷ key.c0 ∷ []) key.i) refl;
}
key_read (suc (suc zero)) key least most fits = record {
  read = record key_zero { s0 = key.s0; c0 = key.c0; s1 = key.s1; c1 = key.c1; i = key.i };
  is = read_numbers key.s0 (key.c0 ∷ key.s1 ∷ key.c1 ∷ key.i ∷ []) _ _ (fits.level0.0, (fits.level0.1, (fits.level1.0, (fits.level1.1, (fits.last, tt))))) (stops_join (key.s0 ∷ key.c0 ∷ key.s1 ∷ key.c1 ∷ []) key.i) refl;
}
key_read (suc (suc (suc zero))) key least most fits = record {
  read = record key_zero { s0 = key.s0; c0 = key.c0; s1 = key.s1; c1 = key.c1; s2 = key.s2; c2 = key.c2; i = key.i };
  is =
      read_numbers key.s0 (key.c0 ∷ key.s1 ∷ key.c1 ∷ key.s2 ∷ key.c2 ∷ key.i ∷ []) _ _
      (fits.level0.0, (fits.level0.1, (fits.level1.0, (fits.level1.1, (fits.level2.0, (fits.level2.1, (fits.last, tt)))))))
      (stops_join (key.s0 ∷ key.c0 ∷ key.s1 ∷ key.c1 ∷ key.s2 ∷ key.c2 ∷ []) key.i) refl;
}
key_read (suc (suc (suc (suc zero)))) key least most fits = record {
  read = key;
  is =
      read_numbers key.s0 (key.c0 ∷ key.s1 ∷ key.c1 ∷ key.s2 ∷ key.c2 ∷ key.s3 ∷ key.c3 ∷ key.i ∷ []) _ _
      (fits.level0.0, (fits.level0.1, (fits.level1.0, (fits.level1.1, (fits.level2.0, (fits.level2.1, (fits.level3.0, (fits.level3.1, (fits.last, tt)))))))))
      (stops_join (key.s0 ∷ key.c0 ∷ key.s1 ∷ key.c1 ∷ key.s2 ∷ key.c2 ∷ key.s3 ∷ key.c3 ∷ []) key.i) refl;
}
key_read (suc (suc (suc (suc (suc n))))) key least most fits = absurd (omega (arith, most))
