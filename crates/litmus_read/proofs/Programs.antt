-- A program, one judgement after another.
use Rattle.std.proofs.Common.{◌≡◌, ℕ, List, refl}
use Rattle.std.specs.Prelude.{Ok, Err}
use Rattle.std.specs.List.{range_with_len}
use Rattle.litmus_model.specs.declared.parts.PlacedStep.{PlacedStep}
use Rattle.litmus_model.specs.declared.parts.Token.{Token}
use Rattle.litmus_model.specs.declared.refusal.TestRefusal.{TestRefusal}
use Rattle.litmus_model.specs.Refusing.{and_then}
use Rattle.litmus_model.specs.Tokens.{Piece, pieces_at}
use Rattle.litmus_model.specs.Program.{not_too_many, program_labels, program_of, rows_steps, thread_count, whole_rows}
use Rattle.litmus_text.specs.declared.judged.Unread.{Unread}
use Rattle.litmus_text.specs.declared.judged.Unread.TheVariants.{Refused, NoMemory}
use Rattle.litmus_text.specs.Reads.{Reads, ReadsList}
use Rattle.litmus_read.specs.Kept.{program_from}

pub rows_bad : (line : ℕ) (tokens : List Token) (pieces : List Piece) (r : TestRefusal) → pieces ≡ pieces_at 59 line tokens → whole_rows pieces ≡ Err r → program_of line tokens ≡ Err r
unfolding program_of and_then
rows_bad line tokens pieces r are bad = rw (← are, bad) refl

pub threads_bad : (line : ℕ) (tokens : List Token) (pieces rows : List Piece) (e : Unread) → pieces ≡ pieces_at 59 line tokens → whole_rows pieces ≡ Ok rows
    → Reads (λ (n : ℕ). n) (thread_count line rows) (Err e) → Reads program_from (program_of line tokens) (Err e)
unfolding program_of and_then
threads_bad line tokens pieces rows (Refused r) are whole bad = rw (← are, whole, bad) refl
threads_bad line tokens pieces rows NoMemory are whole bad = tt

pub many_bad : (line : ℕ) (tokens : List Token) (pieces rows : List Piece) (threads : ℕ) (r : TestRefusal) → pieces ≡ pieces_at 59 line tokens → whole_rows pieces ≡ Ok rows
    → thread_count line rows ≡ Ok threads → not_too_many rows ≡ Err r → program_of line tokens ≡ Err r
unfolding program_of and_then
many_bad line tokens pieces rows threads r are whole named bad = rw (← are, whole, named, bad) refl

pub steps_bad : (line : ℕ) (tokens : List Token) (pieces rows further : List Piece) (threads : ℕ) (e : Unread) → pieces ≡ pieces_at 59 line tokens → whole_rows pieces ≡ Ok rows
    → thread_count line rows ≡ Ok threads → not_too_many rows ≡ Ok further → ReadsList (rows_steps threads further) (Err e) → Reads program_from (program_of line tokens) (Err e)
unfolding program_of and_then
steps_bad line tokens pieces rows further threads (Refused r) are whole named few bad = rw (← are, whole, named, few, bad) refl
steps_bad line tokens pieces rows further threads NoMemory are whole named few bad = tt

pub labels_bad : (line : ℕ) (tokens : List Token) (pieces rows further : List Piece) (threads : ℕ) (steps : List PlacedStep) (e : Unread) → pieces ≡ pieces_at 59 line tokens
    → whole_rows pieces ≡ Ok rows → thread_count line rows ≡ Ok threads → not_too_many rows ≡ Ok further → rows_steps threads further ≡ Ok steps
    → Reads (λ (done : Unit {0}). steps) (program_labels (range_with_len 0 threads) steps) (Err e) → Reads program_from (program_of line tokens) (Err e)
unfolding program_of and_then
labels_bad line tokens pieces rows further threads steps (Refused r) are whole named few made bad = rw (← are, whole, named, few, made, bad) refl
labels_bad line tokens pieces rows further threads steps NoMemory are whole named few made bad = tt

pub program_good : (line : ℕ) (tokens : List Token) (pieces rows further : List Piece) (threads : ℕ) (steps : List PlacedStep) → pieces ≡ pieces_at 59 line tokens
    → whole_rows pieces ≡ Ok rows → thread_count line rows ≡ Ok threads → not_too_many rows ≡ Ok further → rows_steps threads further ≡ Ok steps
    → program_labels (range_with_len 0 threads) steps ≡ Ok steps → program_of line tokens ≡ Ok (record { threads = threads; steps = steps })
unfolding program_of and_then
program_good line tokens pieces rows further threads steps are whole named few made judged = rw (← are, whole, named, few, made, judged) refl
