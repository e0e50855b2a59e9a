-- What changed, put into what was there before, is what is there now.
use Rattle.std.proofs.Common.{◌≡◌, ℕ, Bool, true, false, not, cond, ◌&&◌, ◌||◌, List, [], ◌∷◌, map, filter, bytes_eq, refl, sym, ap, ap₂, ◌∙◌}
use Rattle.std.proofs.lemmas.Slice.Eq.{bytes_eq-Decides}
use Rattle.film_model.specs.DdmTypes.declared.turns.Turn.{Turn}
use Rattle.film_model.specs.TreeModel.State.Values.{MachineValue}
use Rattle.film_model.specs.TreeModel.Turns.Machine.{turn_of, run_of}
use Rattle.tree_model.proofs.RoomsKept.{turn-within}
use Rattle.film_model.specs.Part.{Part, has_value, changes}
use Rattle.film_model.specs.Still.{still}
use Rattle.film_model.specs.Replay.{part_key, has_key, has_keys_once, told_or_kept, replayed, without_value, told_by, told_in, all_replayed, IsReplayable}
use Rattle.film_model.proofs.RegistersKept.{turn_registers}
use Rattle.film_model.proofs.StillKeys.{turn_keys}

-- ---- tests

both : (a b : Bool) → (a && b) ≡ true → (a ≡ true) × (b ≡ true)
both true b e = (refl, e)
both false b e = absurd (cc e)

neither : (a b : Bool) → (a || b) ≡ false → (a ≡ false) × (b ≡ false)
neither true b e = absurd (cc e)
neither false b e = (refl, e)

no : (b : Bool) → not b ≡ true → b ≡ false
no true e = absurd (cc e)
no false e = refl

other_way : (a b : List ℕ) (t : Bool) → bytes_eq b a ≡ t → bytes_eq a b ≡ false → t ≡ false
other_way a b true e other = absurd (let same = (bytes_eq-Decides a b).1 (sym ((bytes_eq-Decides b a).0 e)) in cc)
other_way a b false e other = refl

-- ---- parts

abbrev part_of : List ℕ → List ℕ → Part
part_of key value = record { key = key; value = value }

-- a part of whose key nothing is told stays
stays : (p : Part) (cs : List Part) → has_key p.key cs ≡ false → told_or_kept cs p ≡ p
stays p [] absent = refl
stays p (c ∷ cs) absent =
    let parts = neither (bytes_eq c.key p.key) (has_key p.key cs) absent in
    ap (λ (b : Bool). cond b c (told_or_kept cs p)) parts.0 ∙ stays p cs parts.1

-- a part that is told of another key is passed over
passed : (q : Part) (cs ps : List Part) → has_key q.key ps ≡ false → replayed (q ∷ cs) ps ≡ replayed cs ps
passed q cs [] absent = refl
passed q cs (p ∷ ps) absent =
    let parts = neither (bytes_eq p.key q.key) (has_key q.key ps) absent in
    ap₂ (λ (x : Part) (xs : List Part). x ∷ xs)
    (ap (λ (b : Bool). cond b q (told_or_kept cs p)) (other_way p.key q.key (bytes_eq q.key p.key) refl parts.0))
    (passed q cs ps parts.1)

-- what changed has the keys of what was there
no_new_key : (key : List ℕ) (ps qs : List Part) → map part_key ps ≡ map part_key qs → has_key key ps ≡ false → has_key key (changes ps qs) ≡ false
no_new_key key [] qs same absent = refl
no_new_key key (p ∷ ps) [] same absent = refl
no_new_key key (p ∷ ps) (q ∷ qs) same absent = by (no_new_key key ps qs (cc same) parts.1) (bytes_eq p.value q.value) where
  head : p.key ≡ q.key
  head = cc same

  parts : (bytes_eq p.key key ≡ false) × (has_key key ps ≡ false)
  parts = neither (bytes_eq p.key key) (has_key key ps) absent

  by : has_key key (changes ps qs) ≡ false → (b : Bool) → has_key key (cond b (changes ps qs) (q ∷ changes ps qs)) ≡ false
  by rest true = rest
  by rest false = ap₂ (λ x y. x || y) (ap (λ k. bytes_eq k key) (sym head) ∙ parts.0) rest

pub changes_are_all : (ps qs : List Part) → has_keys_once ps ≡ true → map part_key ps ≡ map part_key qs → replayed (changes ps qs) ps ≡ qs
changes_are_all [] [] once same = refl
changes_are_all [] (q ∷ qs) once same = absurd (cc same)
changes_are_all (p ∷ ps) [] once same = absurd (cc same)
changes_are_all (p ∷ ps) (q ∷ qs) once same = by (changes_are_all ps qs ones.1 tail) (bytes_eq p.value q.value) refl where
  head : p.key ≡ q.key
  head = cc same

  tail : map part_key ps ≡ map part_key qs
  tail = cc same

  ones : (not (has_key p.key ps) ≡ true) × (has_keys_once ps ≡ true)
  ones = both (not (has_key p.key ps)) (has_keys_once ps) once

  absent : has_key p.key ps ≡ false
  absent = no (has_key p.key ps) ones.0

  by : replayed (changes ps qs) ps ≡ qs → (b : Bool) → bytes_eq p.value q.value ≡ b → replayed (cond b (changes ps qs) (q ∷ changes ps qs)) (p ∷ ps) ≡ q ∷ qs
  by rest true e =
      ap₂ (λ (x : Part) (xs : List Part). x ∷ xs)
      (stays p (changes ps qs) (no_new_key p.key ps qs tail absent) ∙ ap₂ part_of head ((bytes_eq-Decides p.value q.value).0 e))
      rest
  by rest false e =
      ap₂ (λ (x : Part) (xs : List Part). x ∷ xs)
      (ap (λ (b : Bool). cond b q (told_or_kept (changes ps qs) p)) ((bytes_eq-Decides q.key p.key).1 (sym head)))
      (passed q (changes ps qs) ps (ap (λ k. has_key k ps) (sym head) ∙ absent) ∙ rest)

-- ---- a run

same_has_key : (key : List ℕ) (ps qs : List Part) → map part_key ps ≡ map part_key qs → has_key key ps ≡ has_key key qs
same_has_key key [] [] same = refl
same_has_key key [] (q ∷ qs) same = absurd (cc same)
same_has_key key (p ∷ ps) [] same = absurd (cc same)
same_has_key key (p ∷ ps) (q ∷ qs) same =
    let head : p.key ≡ q.key = cc same in
    ap₂ (λ x y. x || y) (ap (λ k. bytes_eq k key) head) (same_has_key key ps qs (cc same))

-- whether keys come once is a fact of the keys alone
same_once : (ps qs : List Part) → map part_key ps ≡ map part_key qs → has_keys_once ps ≡ has_keys_once qs
same_once [] [] same = refl
same_once [] (q ∷ qs) same = absurd (cc same)
same_once (p ∷ ps) [] same = absurd (cc same)
same_once (p ∷ ps) (q ∷ qs) same =
    let head : p.key ≡ q.key = cc same in
    ap₂ (λ x y. not x && y) (ap (λ k. has_key k ps) head ∙ same_has_key q.key ps qs (cc same)) (same_once ps qs (cc same))

told_or_not : (value : List ℕ) (p : Part) (rest : List Part) → cond (bytes_eq [] value) rest (p ∷ rest) ≡ cond (not (bytes_eq value [])) (p ∷ rest) rest
told_or_not [] p rest = refl
told_or_not (byte ∷ bytes) p rest = refl

-- to parts without values, those that have one are what changes
changes_at_start : (ps : List Part) → changes (map without_value ps) ps ≡ filter has_value ps
changes_at_start [] = refl
changes_at_start (p ∷ ps) =
    ap (λ rest. cond (bytes_eq [] p.value) rest (p ∷ rest)) (changes_at_start ps) ∙ told_or_not p.value p (filter has_value ps)

keys_at_start : (ps : List Part) → map part_key (map without_value ps) ≡ map part_key ps
keys_at_start [] = refl
keys_at_start (p ∷ ps) = ap (λ ks. p.key ∷ ks) (keys_at_start ps)

all_by_head : (ps : List Part) → has_keys_once ps ≡ true → replayed (filter has_value ps) (map without_value ps) ≡ ps
all_by_head ps once =
    ap (λ cs. replayed cs (map without_value ps)) (sym (changes_at_start ps))
    ∙ changes_are_all (map without_value ps) ps (same_once (map without_value ps) ps (keys_at_start ps) ∙ once) (keys_at_start ps)

all_by_turns : (items : ℕ) (ts : List Turn) (m : MachineValue) → IsReplayable items m → all_replayed (told_by ts m) (still m) ≡ still (run_of ts m).machine
unfolding run_of
all_by_turns items [] m fit = refl
all_by_turns items (t ∷ ts) m fit =
    let next = (turn_of t m).machine in
    let same = turn_keys items t m fit.rooms fit.registers in
    ap (all_replayed (told_by ts next)) (changes_are_all (still m) (still next) fit.once same)
    ∙ all_by_turns items ts next (record {
      once = sym (same_once (still m) (still next) same) ∙ fit.once;
      rooms = turn-within items t m fit.rooms;
      registers = turn_registers t m fit.registers;
    })

pub films_tell_all : (items : ℕ) (ts : List Turn) (m : MachineValue) → IsReplayable items m → all_replayed (told_in ts m) (map without_value (still m)) ≡ still (run_of ts m).machine
films_tell_all items ts m fit = ap (all_replayed (told_by ts m)) (all_by_head (still m) fit.once) ∙ all_by_turns items ts m fit
