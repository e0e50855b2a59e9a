-- A line that is written in pieces.
use Rattle.std.proofs.Common.{◌≡◌, ℕ, ◌+◌, ◌-◌, ◌≤◌, List, ◌++◌, length, map, take, drop, Option, Result, Ok, Err, refl, sym, ap, subst, ◌∙◌, arith, append_assoc}
use Rattle.std.specs.Prelude.{OnOk, OnErr, codes}
use Rattle.std.proofs.Math.Seq.{take-add, take-length}
use Rattle.std.proofs.lemmas.List.{append-nil, map-append, take-append-drop}
use Rattle.ddm_cli.specs.DdmOutside.Causes.{HasCause, Rose}
use Rattle.ddm_cli.specs.ReportCrate.Appends.{Appends, AppendsPart}
use Rattle.ddm_cli.proofs.ReportCrate.Written.{appends_more, on_err, part_front, part_more, rose_before}
use Rattle.ddm_cli.specs.TextModel.Faults.{key_refusal_text, name_words, shown_byte, shown_key, tree_key_fault}
use Rattle.ddm_cli.specs.TreeConfig.declared.refusal.TreeRefusal.{TreeRefusal}
use Rattle.ddm_cli.specs.TreeConfig.declared.refusal.TreeRefusal.TheVariants as tree
use Rattle.ddm_cli.specs.Printed.{Writes}
use Rattle.ddm_cli.specs.Refusals.{tree_line, tree_line_head, tree_line_rest}
use Rattle.ddm_cli.specs.Top.{Offers, fault_line, line_head, line_rest}
use Rattle.ddm_cli.specs.declared.status.Status.{Status}
use Rattle.ddm_cli.specs.declared.status.Status.TheVariants.{Done, Usage, ImageLoad, ImageBuild, Tree, Schedule, Witness, Checkpoint, SmallLists, Table, ReadFault, UnreadTable, WriteFault, NoMemory, Litmus, UnreadTest}

-- what two calls in a row wrote
pub writes_of : {E : Type 0} (old new : Option (List ℕ)) (a : List ℕ) (w : Result (Unit {0}) E) → OnOk w (Appends old new a) → OnErr w (AppendsPart old new a) → Writes old new a w
writes_of old new a (Ok u) ok err = ok
writes_of old new a (Err e) ok err = err

pub writes_more : {E : Type 0} (old mid new : Option (List ℕ)) (a b : List ℕ) (w : Result (Unit {0}) E) → Appends old mid a → Writes mid new b w → Writes old new (a ++ b) w
writes_more old mid new a b (Ok u) first more = appends_more old mid new a b first more
writes_more old mid new a b (Err e) first more = part_more old mid new a b first more

pub cause_before : {T E : Type 0} (a b c : ℕ) (w : Result T E) → a ≤ b → HasCause b c w → HasCause a c w
cause_before a b c (Ok u) earlier cause = record { later = omega (arith, earlier, cause.later); failed = tt }
cause_before a b c (Err e) earlier cause = record { later = omega (arith, earlier, cause.later); failed = rose_before a b c earlier cause.failed }

tree_line_parts : (r : TreeRefusal) → tree_line r ≡ tree_line_head r ++ tree_line_rest r
unfolding tree_key_fault key_refusal_text name_words
tree_line_parts tree.TooLong = sym (append-nil _)
tree_line_parts tree.NotToml = sym (append-nil _)
tree_line_parts (tree.UnknownKey key) = refl
tree_line_parts (tree.MissingKey k) = sym (append-nil _)
tree_line_parts (tree.WrongType k) = sym (append-nil _)
tree_line_parts (tree.BadShape p) = sym (append-nil _)
tree_line_parts tree.Uneven = sym (append-nil _)
tree_line_parts tree.TooDeep = sym (append-nil _)
tree_line_parts tree.TooWide = sym (append-nil _)
tree_line_parts tree.TooManyLeaves = sym (append-nil _)
tree_line_parts (tree.OutOfRange k) = sym (append-nil _)
tree_line_parts tree.NoMemory = sym (append-nil _)

line_parts : (s : Status) → fault_line s ≡ line_head s ++ line_rest s
unfolding fault_line
line_parts (Tree r) = tree_line_parts r
line_parts Done = sym (append-nil _)
line_parts (Usage k) = sym (append-nil _)
line_parts (ImageLoad r) = sym (append-nil _)
line_parts (ImageBuild r) = sym (append-nil _)
line_parts (Schedule line r) = sym (append-nil _)
line_parts (Witness r) = sym (append-nil _)
line_parts (Checkpoint r) = sym (append-nil _)
line_parts (SmallLists key) = sym (append-nil _)
line_parts (Table n r) = sym (append-nil _)
line_parts (UnreadTable n) = sym (append-nil _)
line_parts (Litmus x) = sym (append-nil _)
line_parts UnreadTest = sym (append-nil _)
line_parts (ReadFault role) = sym (append-nil _)
line_parts WriteFault = sym (append-nil _)
line_parts NoMemory = sym (append-nil _)

module _ {K : Type 0} (held : K → Option (List ℕ)) (failures : K → ℕ) where
  -- the head was taken, and the rest offered
  pub rest_offered : {E : Type 0} (old mid new : K) (s : Status) (r : Result (Unit {0}) E) → Appends (held old) (held mid) (line_head s) → failures old ≤ failures mid
      → OnOk r (Appends (held mid) (held new) (line_rest s)) → OnErr r (AppendsPart (held mid) (held new) (line_rest s)) → HasCause (failures mid) (failures new) r
      → Offers held failures old new (fault_line s)
  rest_offered old mid new s (Ok u) head earlier ok err cause =
      let whole = appends_more (held old) (held mid) (held new) (line_head s) (line_rest s) head ok in
      rw (line_parts s) (record { part = (length (line_head s ++ line_rest s), omega arith, subst (Appends (held old) (held new)) (sym (take-length (line_head s ++ line_rest s))) whole); whole = λ quiet. whole })
  rest_offered old mid new s (Err e) head earlier ok err cause =
      rw (line_parts s) (record { part = part_more (held old) (held mid) (held new) (line_head s) (line_rest s) head err; whole = λ quiet. absurd (quiet (rose_before (failures old) (failures mid) (failures new) earlier cause.failed)) })

  -- a first part of the head was taken
  pub head_offered : (old new : K) (s : Status) → AppendsPart (held old) (held new) (line_head s) → Rose (failures old) (failures new) → Offers held failures old new (fault_line s)
  head_offered old new s part rose = rw (line_parts s) (record { part = part_front (held old) (held new) (line_head s) (line_rest s) part; whole = λ quiet. absurd (quiet rose) })

-- ---- a key, piece by piece

on_err_weaker : {T E : Type 0} (r : Result T E) (P Q : Type 0) → (P → Q) → OnErr r P → OnErr r Q
on_err_weaker (Ok a) P Q f p = tt
on_err_weaker (Err e) P Q f p = f p

-- the pieces up to here are the first bytes
piece_joins : (bytes : List ℕ) (at end : ℕ) → at ≤ end → map shown_byte (take at bytes) ++ map shown_byte (take (end - at) (drop at bytes)) ≡ map shown_byte (take end bytes)
piece_joins bytes at end up =
    let reach : at + (end - at) ≡ end = omega (arith, up) in
    sym (map-append shown_byte (take at bytes) (take (end - at) (drop at bytes)))
    ∙ ap (map shown_byte) (sym (take-add at (end - at) bytes) ∙ ap (λ n. take n bytes) reach)

pub piece_written : (old mid new : Option (List ℕ)) (bytes piece : List ℕ) (at end : ℕ) → at ≤ end → piece ≡ map shown_byte (take (end - at) (drop at bytes))
    → Appends old mid (map shown_byte (take at bytes)) → Appends mid new piece → Appends old new (map shown_byte (take end bytes))
piece_written old mid new bytes piece at end up is so_far more =
    subst (Appends old new) (ap (λ t. map shown_byte (take at bytes) ++ t) is ∙ piece_joins bytes at end up) (appends_more old mid new (map shown_byte (take at bytes)) piece so_far more)

pub piece_failed : {T E : Type 0} (r : Result T E) (old mid new : Option (List ℕ)) (bytes key piece : List ℕ) (at end : ℕ) → bytes ≡ key → at ≤ end → piece ≡ map shown_byte (take (end - at) (drop at bytes))
    → Appends old mid (map shown_byte (take at bytes)) → AppendsPart mid new piece → OnErr r (AppendsPart old new (shown_key key ++ codes "\n"))
piece_failed r old mid new bytes key piece at end same up is so_far more =
    let first = map shown_byte (take end bytes) in
    let rest = map shown_byte (drop end bytes) in
    let joined = subst (AppendsPart old new) (ap (λ t. map shown_byte (take at bytes) ++ t) is ∙ piece_joins bytes at end up) (part_more old mid new (map shown_byte (take at bytes)) piece so_far more) in
    let whole : first ++ rest ≡ shown_key key = sym (map-append shown_byte (take end bytes) (drop end bytes)) ∙ ap (map shown_byte) (take-append-drop end bytes ∙ same) in
    on_err r _ (subst (AppendsPart old new) (sym (append_assoc first rest (codes "\n")) ∙ ap (λ t. t ++ codes "\n") whole) (part_front old new first (rest ++ codes "\n") joined))

pub end_failed : {T E : Type 0} (r : Result T E) (old mid new : Option (List ℕ)) (bytes key : List ℕ) (at : ℕ) → bytes ≡ key → length bytes ≤ at → at ≤ length bytes
    → Appends old mid (map shown_byte (take at bytes)) → OnErr r (AppendsPart mid new (codes "\n")) → OnErr r (AppendsPart old new (shown_key key ++ codes "\n"))
end_failed r old mid new bytes key at same past within so_far more =
    let all : at ≡ length bytes = omega (arith, past, within) in
    let whole : take at bytes ≡ key = ap (λ n. take n bytes) all ∙ take-length bytes ∙ same in
    on_err_weaker r _ _ (λ part. part_more old mid new (shown_key key) (codes "\n") (subst (λ t. Appends old mid (map shown_byte t)) whole so_far) part) more
