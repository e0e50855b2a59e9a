-- Program headers and what is made of them, one more at a time.
use Rattle.std.proofs.Common.{◌≡◌, ℕ, ◌+◌, ◌^◌, ◌<◌, ◌≤◌, List, [], ◌∷◌, ◌++◌, map, length, take, drop, get_or, refl, ap, ◌∙◌, arith, add-one, All, Bool, true, false, Some, None}
use Rattle.std.specs.Prelude.{sum_by, find}
use Rattle.std.specs.List.{range_with_len}
use Rattle.std.proofs.Math.Seq.{take-suc, drop-cons}
use Rattle.std.proofs.Math.ListN.{drop_of_length-le}
use Rattle.std.proofs.lemmas.List.{map-append}
use Rattle.std.proofs.lemmas.List.FromFn.{map-range_with_len_more}
use Rattle.std.proofs.lemmas.List.Sums.{sum_by_more}
use Rattle.std.proofs.lemmas.List.Elements.{All-map}
use Rattle.elf_load.specs.declared.refusal.ImageRefusal.{ImageRefusal}
use Rattle.elf_load.specs.DdmTypes.declared.sizes.Span.{Span}
use Rattle.elf_load.specs.DdmTypes.ItemTable.{span_end}
use Rattle.elf_load.specs.declared.headers.ProgramHeader.{ProgramHeader}
use Rattle.elf_load.specs.ElfFile.{segment_of, header_at, header_span, code_bytes_of, header_refusal, headers_refusal}

pub more_headers : (file : List ℕ) (k : ℕ) → map (header_at file) (range_with_len 0 (k + 1)) ≡ map (header_at file) (range_with_len 0 k) ++ header_at file k ∷ []
more_headers file k = map-range_with_len_more (header_at file) 0 k k (omega arith)

pub more_spans : (hs : List ProgramHeader) (k : ℕ) (d : ProgramHeader) → k < length hs → map header_span (take (k + 1) hs) ≡ map header_span (take k hs) ++ header_span (get_or hs k d) ∷ []
more_spans hs k d inside = rw add-one (ap (λ (l : List ProgramHeader). map header_span l) (take-suc hs k d inside) ∙ map-append header_span (take k hs) (get_or hs k d ∷ []))

pub more_code : (hs : List ProgramHeader) (k : ℕ) (d : ProgramHeader) → k < length hs → sum_by code_bytes_of (take (k + 1) hs) ≡ sum_by code_bytes_of (take k hs) + code_bytes_of (get_or hs k d)
more_code hs k d inside = sum_by_more code_bytes_of hs k d inside

abbrev EndsInside : ProgramHeader → Type 0
EndsInside h = h.vaddr + h.memsz ≤ 2 ^ 32

pub spans_end : (hs : List ProgramHeader) → All EndsInside hs → All (λ span. span_end span ≤ 2 ^ 32) (map header_span hs)
spans_end hs ends = All-map (λ (span : Span). span_end span ≤ 2 ^ 32) header_span hs ends

-- what is left decides
pub headers_next : (n : ℕ) (hs : List ProgramHeader) (k : ℕ) (d : ProgramHeader) → k < length hs → header_refusal n (take k hs) (get_or hs k d) ≡ None
    → headers_refusal n (take k hs) (drop k hs) ≡ headers_refusal n (take (k + 1) hs) (drop (k + 1) hs)
unfolding headers_refusal
headers_next n hs k d inside none = rw (add-one, drop-cons hs k d, none, take-suc hs k d inside) refl

pub headers_here : (n : ℕ) (hs : List ProgramHeader) (k : ℕ) (d : ProgramHeader) (r : ImageRefusal) → k < length hs → header_refusal n (take k hs) (get_or hs k d) ≡ Some r
    → headers_refusal n (take k hs) (drop k hs) ≡ Some r
unfolding headers_refusal
headers_here n hs k d r inside some = rw (drop-cons hs k d, some) refl

pub headers_done : (n : ℕ) (hs : List ProgramHeader) (k : ℕ) → length hs ≤ k → headers_refusal n (take k hs) (drop k hs) ≡ None
unfolding headers_refusal
headers_done n hs k past = rw (drop_of_length-le hs past) refl

-- the same of a search in a list
pub find_in_next : (p : ProgramHeader → Bool) (hs : List ProgramHeader) (k : ℕ) (d : ProgramHeader) → k < length hs → p (get_or hs k d) ≡ false → find p (drop k hs) ≡ find p (drop (k + 1) hs)
find_in_next p hs k d inside fails = rw (add-one, drop-cons hs k d, fails) refl

pub find_in_here : (p : ProgramHeader → Bool) (hs : List ProgramHeader) (k : ℕ) (d : ProgramHeader) → k < length hs → p (get_or hs k d) ≡ true → find p (drop k hs) ≡ Some (get_or hs k d)
find_in_here p hs k d inside holds = rw (drop-cons hs k d, holds) refl

pub more_segments : (file : List ℕ) (hs : List ProgramHeader) (k : ℕ) (d : ProgramHeader) → k < length hs → map (segment_of file) (take (k + 1) hs) ≡ map (segment_of file) (take k hs) ++ segment_of file (get_or hs k d) ∷ []
more_segments file hs k d inside = rw add-one (ap (λ (l : List ProgramHeader). map (segment_of file) l) (take-suc hs k d inside) ∙ map-append (segment_of file) (take k hs) (get_or hs k d ∷ []))

-- A search of program headers.
pub ruleset headers_search = (headers_next, headers_here, headers_done)
