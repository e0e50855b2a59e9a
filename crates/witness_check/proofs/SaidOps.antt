-- The operations that a text says, a line at a time; and of a text that is lines of operations.
-- Letters: text is a text, line one of its lines, from a place in it.
use Rattle.std.proofs.Common.{◌≡◌, ℕ, ◌+◌, List, [], ◌∷◌, ◌++◌, map, take, drop, Some, None, refl, sym, ap, ◌∙◌, append_assoc, append-nil}
use Rattle.std.specs.Prelude.{nat_eq, position}
use Rattle.std.specs.List.{flat_map}
use Rattle.std.proofs.lemmas.List.Concat.{flat_map-cons}
use Rattle.std.proofs.lemmas.List.{drop-drop}
use Rattle.text_model.specs.Lines.{Lacks}
use Rattle.text_model.specs.Schedule.{pieces_at}
use Rattle.text_model.proofs.Pieces.{pieces_at-append}
use Rattle.witness_check.specs.DdmTypes.declared.operations.Op.{Op}
use Rattle.witness_check.specs.Lines.{op_in, op_of_words, without_key}
use Rattle.witness_check.specs.Listed.{said, ops_in}
use Rattle.witness_check.specs.Witness.{BeginsWith}
use Rattle.witness_check.proofs.Cuts.{last_word, first_word}
use Rattle.witness_check.proofs.LineTexts.{read_line}

-- the last line, which has no line feed
pub ops-last : (text : List ℕ) → None ≡ position (λ byte. nat_eq byte 10) text → ops_in text ≡ said (op_in text)
unfolding ops_in
ops-last text none = ap (flat_map (λ line. said (op_in line))) (last_word 10 text (sym none)) ∙ (flat_map-cons (λ line. said (op_in line)) text [] ∙ append-nil (said (op_in text)))

-- a line with its line feed, and what is behind it
pub ops-next : (text : List ℕ) (end : ℕ) → Some end ≡ position (λ byte. nat_eq byte 10) text → ops_in text ≡ said (op_in (take end text)) ++ ops_in (drop (end + 1) text)
unfolding ops_in
ops-next text end some = ap (flat_map (λ line. said (op_in line))) (first_word 10 text end refl (sym some)) ∙ flat_map-cons (λ line. said (op_in line)) (take end text) (pieces_at 10 (drop (end + 1) text))

-- ---- a text that is read from a place on

module _ (text rest : List ℕ) (from : ℕ) (is : rest ≡ drop from text) (kept more : List Op) (so_far : kept ++ ops_in (drop from text) ≡ ops_in text) where
  pub kept-last : None ≡ position (λ byte. nat_eq byte 10) rest → more ≡ kept ++ said (op_in rest) → more ≡ ops_in text
  kept-last none added = added ∙ (ap (λ l. kept ++ l) (sym (ops-last rest none) ∙ ap ops_in is) ∙ so_far)

  pub kept-next : (end : ℕ) → Some end ≡ position (λ byte. nat_eq byte 10) rest → more ≡ kept ++ said (op_in (take end rest)) → more ++ ops_in (drop (from + (end + 1)) text) ≡ ops_in text
  kept-next end some added =
      let dropped : drop (from + (end + 1)) text ≡ drop (end + 1) rest = sym (drop-drop (end + 1) from text) ∙ ap (drop (end + 1)) (sym is) in
      ap (λ l. l ++ ops_in (drop (from + (end + 1)) text)) added
      ∙ (append_assoc kept (said (op_in (take end rest))) (ops_in (drop (from + (end + 1)) text))
      ∙ (ap (λ l. kept ++ l) (ap (λ t. said (op_in (take end rest)) ++ ops_in t) dropped ∙ (sym (ops-next rest end some) ∙ ap ops_in is)) ∙ so_far))

-- ---- a text that is the lines of these operations

line-first : (line more : List ℕ) → Lacks 10 line → pieces_at 10 (line ++ 10 ∷ more) ≡ line ∷ pieces_at 10 more
line-first line more lacks = pieces_at-append 10 line more refl lacks

empty-text : ops_in [] ≡ []
unfolding ops_in op_in op_of_words pieces_at
empty-text = refl

pub ops-said : (text : List ℕ) (ops : List Op) → BeginsWith text ops [] → ops_in text ≡ map without_key ops
unfolding ops_in
ops-said text [] is = ap ops_in is ∙ empty-text
ops-said text (op ∷ ops) is =
    let read = read_line is.0 op is.3 in
    let more = is.1 in
    ap ops_in is.2
    ∙ (ap (flat_map (λ line. said (op_in line))) (line-first is.0 more read.lacks)
    ∙ (flat_map-cons (λ line. said (op_in line)) is.0 (pieces_at 10 more)
    ∙ (ap (λ o. said o ++ ops_in more) read.is ∙ (ap (λ (o : Op). o ∷ ops_in more) read.same ∙ ap (λ l. without_key op ∷ l) (ops-said more ops is.4)))))
