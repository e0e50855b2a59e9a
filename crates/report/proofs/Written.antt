-- Bytes that are written piece by piece.
use Rattle.std.proofs.Common.{◌≡◌, ℕ, ◌+◌, ◌≤◌, List, [], ◌++◌, length, take, drop, Option, Some, None, Result, Ok, Err, sym, ap, subst, ◌∙◌, arith, append_assoc}
use Rattle.std.specs.Prelude.{IfSome, OnErr}
use Rattle.std.proofs.Math.Seq.{take-add, take-append-add}
use Rattle.std.proofs.lemmas.List.{append-nil, take-append-le, take-take, length-append, length-take}
use Rattle.ddm_outside.specs.Causes.{Rose}
use Rattle.ddm_outside.specs.Telling.{Takes, WritesTold}
use Rattle.report.specs.Appends.{Appends, AppendsPart, IsWrittenFrom}

-- one text, and then another
pub appends_more : (old mid new : Option (List ℕ)) (a b : List ℕ) → Appends old mid a → Appends mid new b → Appends old new (a ++ b)
appends_more None mid new a b first more = tt
appends_more (Some h) mid new a b first more = subst (λ (o : Option (List ℕ)). IfSome o (λ x. new ≡ Some (x ++ b))) first more ∙ ap Some (append_assoc h a b)

-- no text
pub appends_none : (old : Option (List ℕ)) → Appends old old []
appends_none None = tt
appends_none (Some h) = ap Some (sym (append-nil h))

-- one text, and then a first part of another
pub part_more : (old mid new : Option (List ℕ)) (a b : List ℕ) → Appends old mid a → AppendsPart mid new b → AppendsPart old new (a ++ b)
part_more old mid new a b first (n, few, more) =
    (length a + n, omega (arith, few, length-append a b), subst (Appends old new) (sym (take-append-add a b n)) (appends_more old mid new a (take n b) first more))

-- a first part of a text is one of a longer text
pub part_front : (old new : Option (List ℕ)) (a b : List ℕ) → AppendsPart old new a → AppendsPart old new (a ++ b)
part_front old new a b (n, few, more) = (n, omega (arith, few, length-append a b), subst (Appends old new) (sym (take-append-le n a b few)) more)

pub on_err : {T E : Type 0} (r : Result T E) (P : Type 0) → P → OnErr r P
on_err (Ok a) P p = tt
on_err (Err e) P p = p

pub map_err : {T E : Type 0} (r : Result T E) (P Q : Type 0) → (P → Q) → OnErr r P → OnErr r Q
map_err (Ok a) P Q f p = tt
map_err (Err e) P Q f p = f p

-- a count that rose since some moment rose since an earlier one
pub rose_before : (a b c : ℕ) → a ≤ b → Rose b c → Rose a c
rose_before a b c earlier rose = omega (arith, earlier, rose)

-- what was written, and then some more of the bytes
pub writes_on : (old mid new : Option (List ℕ)) (bytes : List ℕ) (at n : ℕ) → Appends old mid (take at bytes) → Takes mid new (drop at bytes) n → Appends old new (take (at + n) bytes)
writes_on old mid new bytes at n was took =
    subst (Appends old new) (sym (take-add at n bytes)) (appends_more old mid new (take at bytes) (take n (drop at bytes)) was took.held)

-- what a sink takes of the first bytes, it takes of all of them
takes_front : (old new : Option (List ℕ)) (bytes : List ℕ) (m n : ℕ) → Takes old new (take m bytes) n → Takes old new bytes n
takes_front old new bytes m n took = record {
  some = took.some;
  most = omega (arith, took.most, length-take m bytes);
  held = subst (λ (x : List ℕ). IfSome old (λ h. new ≡ Some (h ++ x))) (take-take n m bytes (omega (arith, took.most, length-take m bytes))) took.held;
}

-- the same of a call's result
pub writes_front : {E : Type 0} (old new : Option (List ℕ)) (bytes : List ℕ) (m : ℕ) (result : Result ℕ E) → WritesTold old new (take m bytes) result → WritesTold old new bytes result
writes_front old new bytes m (Ok n) told = takes_front old new bytes m n told
writes_front old new bytes m (Err e) told = told

-- what is left begins with a line
pub written_cut : (old mid : Option (List ℕ)) (all held line left rest : List ℕ) → rest ≡ line ++ left → IsWrittenFrom old mid all (held ++ rest) → IsWrittenFrom old mid all ((held ++ line) ++ left)
written_cut old mid all held line left rest begins was = rw (append_assoc held line left, sym begins) was

-- a first part of a text was written: then more of it, some bytes of which are kept back
pub written_more : (old mid new : Option (List ℕ)) (all front left kept : List ℕ) → IsWrittenFrom old mid all (front ++ left) → IsWrittenFrom mid new front kept → IsWrittenFrom old new all (kept ++ left)
written_more old mid new all front left kept (done, is, was) (more, cut, is_more) =
    let rest = ap (λ t. t ++ left) cut ∙ append_assoc more kept left in
    (done ++ more, is ∙ ap (λ t. done ++ t) rest ∙ sym (append_assoc done more (kept ++ left)), appends_more old mid new done more was is_more)

-- then a first part of what is left
pub written_part : (old mid new : Option (List ℕ)) (all front left : List ℕ) → IsWrittenFrom old mid all (front ++ left) → AppendsPart mid new front → AppendsPart old new all
written_part old mid new all front left (done, is, was) part =
    subst (AppendsPart old new) (sym is) (part_more old mid new done (front ++ left) was (part_front mid new front left part))
