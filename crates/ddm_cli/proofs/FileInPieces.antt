-- A file that is read piece by piece.
use Rattle.std.proofs.Common.{◌≡◌, ℕ, ◌+◌, ◌≤◌, List, ◌++◌, length, take, drop, Option, Some, None, sym, ap, ◌∙◌, append_assoc, length-append, arith}
use Rattle.std.specs.Prelude.{IfSome}
use Rattle.std.proofs.lemmas.List.{length-take-le}
use Rattle.ddm_cli.specs.DdmOutside.Telling.{ReadsPart}

-- what was read is the front of the file, and so it is with a piece more
pub piece_read : (told : Option (List ℕ)) (read longer into : List ℕ) (at n : ℕ) → IfSome told (λ file. file ≡ read ++ drop (length read) file) → at ≡ length read
    → IfSome told (λ file. ReadsPart file at n into) → n ≤ length into → longer ≡ read ++ take n into → IfSome told (λ file. file ≡ longer ++ drop (length longer) file)
piece_read None read longer into at n so_far place part few is = tt
piece_read (Some file) read longer into at n so_far place part few is =
    let long : length longer ≡ at + n = ap length is ∙ length-append read (take n into) ∙ omega (arith, place, length-take-le n into few) in
    so_far ∙ ap (λ k. read ++ drop k file) (sym place) ∙ ap (λ l. read ++ l) part.bytes ∙ sym (append_assoc read (take n into) (drop (at + n) file)) ∙ ap (λ l. l ++ drop (at + n) file) (sym is) ∙ ap (λ k. longer ++ drop k file) (sym long)
