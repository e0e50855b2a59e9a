-- The tests by what is gathered are the rules' own.
-- Letters: p is the face of a parent, k are the bits of its bus, q are kinds.
use Rattle.std.proofs.Common.{◌≡◌, ◌∙◌, ap, sym, refl, ℕ, Bool, true, false, not, ◌&&◌, ◌||◌, List, [], ◌∷◌, is_some}
use Rattle.std.specs.List.{list_all}
use Rattle.std.specs.Bool.{beq}
use Rattle.bus_judging.specs.DdmTypes.declared.answers.TxKind.{TxKind}
use Rattle.bus_judging.specs.DdmTypes.declared.answers.TxKind.TheVariants.{EraseTx, ExclusiveTx}
use Rattle.bus_judging.specs.TreeModel.State.Kinds.{brings_copy, has_kind}
use Rattle.bus_judging.specs.TreeModel.State.Lists.{has_some}
use Rattle.bus_judging.specs.TreeModel.State.States.{is_held, is_exclusive, is_shared}
use Rattle.bus_judging.specs.TreeModel.State.Values.{Note, no_note, local, up_read, up_erase}
use Rattle.bus_judging.specs.TreeModel.State.Directory.{is_local, is_up_read, is_up_erase, note_why}
use Rattle.tree_rules.specs.Bus.Faces.{ParentFace, face_above}
use Rattle.tree_rules.specs.Bus.Item.{Bits, ItemRule, item_test, item_holds, implies, copies_in, starts_for, ends_with_inject, held_after, answering_held, exclusive_alone, parked_alone, exclusive_covered, queue_in_order, queue_start, inject_covered, erased_shared, hold_follows, local_noted, up_read_noted, data_read, up_erase_noted, erase_end, reads_noted, erases_noted, granted_held, exclusive_noted, giver, givers_held, read_answered, asked_alone, one_request, request_open, request_noted}
use Rattle.bus_judging.specs.Queue.{first_kind, last_kind}
use Rattle.bus_judging.specs.Parent.{facts_at, starts_with, ends_in_inject, held_behind}
use Rattle.bus_judging.proofs.Gathered.{last-some}
use Rattle.bus_judging.specs.Tests.{notes_local, notes_read, notes_erase, granted_read, granted_erase, test_by_facts, five_by_facts}

starts-agree : (q : List TxKind) (held : Bool) → starts_for held q ≡ starts_with (first_kind q) held
starts-agree [] held = refl
starts-agree (k ∷ q) held = refl

ends-agree : (q : List TxKind) → ends_with_inject q ≡ ends_in_inject (last_kind q)
ends-agree [] = refl
ends-agree (k ∷ []) = refl
ends-agree (k ∷ l ∷ q) = ends-agree (l ∷ q)

held-agree : (q : List TxKind) (held : Bool) → held_after held q ≡ held_behind (last_kind q) held
held-agree [] held = refl
held-agree (k ∷ []) held = refl
held-agree (k ∷ l ∷ q) held = held-agree (l ∷ q) (brings_copy k) ∙ (ap (λ o. held_behind o (brings_copy k)) (last-some l q) ∙ sym (ap (λ o. held_behind o held) (last-some l q)))

local-agrees : (note : Note) → is_local note ≡ notes_local (note_why note)
local-agrees no_note = refl
local-agrees (local first joined) = refl
local-agrees (up_read first joined) = refl
local-agrees (up_erase d) = refl

read-agrees : (note : Note) → is_up_read note ≡ notes_read (note_why note)
read-agrees no_note = refl
read-agrees (local first joined) = refl
read-agrees (up_read first joined) = refl
read-agrees (up_erase d) = refl

erase-agrees : (note : Note) → is_up_erase note ≡ notes_erase (note_why note)
erase-agrees no_note = refl
erase-agrees (local first joined) = refl
erase-agrees (up_read first joined) = refl
erase-agrees (up_erase d) = refl

some-agrees : (q : List TxKind) → has_some q ≡ is_some (first_kind q)
some-agrees [] = refl
some-agrees (k ∷ q) = refl

-- ---- what the bus above sees

erase-seen : (shared noted asked erased ended : Bool) → (shared && (noted && (not asked && (not erased && not ended)))) ≡ (noted && ((shared && not (ended || erased)) && not asked))
erase-seen false false asked erased ended = refl
erase-seen false true asked erased ended = refl
erase-seen true false asked erased ended = refl
erase-seen true true false false false = refl
erase-seen true true false false true = refl
erase-seen true true false true false = refl
erase-seen true true false true true = refl
erase-seen true true true false false = refl
erase-seen true true true false true = refl
erase-seen true true true true false = refl
erase-seen true true true true true = refl

pub face_by_facts : (p : ParentFace) (n : ℕ) → face_above p n ≡ record { hold = p.hold; reads = granted_read (facts_at p); erases = granted_erase (facts_at p); replies = n; answers = p.answering }
face_by_facts p n = rw (read-agrees p.note, erase-agrees p.note, some-agrees p.queue, erase-seen (is_shared p.hold) (notes_erase (note_why p.note)) (has_kind EraseTx p.requests) (has_kind EraseTx p.queue) (has_kind ExclusiveTx p.queue)) refl

-- ---- the tests

by_facts : (r : ItemRule) (p : ParentFace) (k : Bits) → item_test r p k ≡ test_by_facts r (facts_at p) k
by_facts answering_held p k = refl
by_facts exclusive_alone p k = refl
by_facts parked_alone p k = refl
by_facts exclusive_covered p k = refl
by_facts queue_in_order p k = refl
by_facts queue_start p k = starts-agree (copies_in p.queue) k.held
by_facts inject_covered p k = ap (λ b. implies b (is_exclusive p.hold)) (ends-agree (copies_in p.queue))
by_facts erased_shared p k = refl
by_facts hold_follows p k = ap (λ b. beq (is_held p.hold) b) (held-agree (copies_in p.queue) k.held)
by_facts local_noted p k = rw (local-agrees p.note) refl
by_facts up_read_noted p k = rw (read-agrees p.note) refl
by_facts data_read p k = rw (read-agrees p.note) refl
by_facts up_erase_noted p k = rw (erase-agrees p.note) refl
by_facts erase_end p k = rw (erase-agrees p.note) refl
by_facts reads_noted p k = refl
by_facts erases_noted p k = refl
by_facts granted_held p k = refl
by_facts exclusive_noted p k = rw (erase-agrees p.note) refl
by_facts giver p k = rw (local-agrees p.note) refl
by_facts givers_held p k = refl
by_facts read_answered p k = refl
by_facts asked_alone p k = rw (local-agrees p.note, some-agrees p.queue) refl
by_facts one_request p k = refl
by_facts request_open p k = rw (read-agrees p.note, some-agrees p.queue) refl
by_facts request_noted p k = rw (erase-agrees p.note) refl

-- ---- all rules, five by five

ands : (a b c d e rest : Bool) → (a && (b && (c && (d && (e && rest))))) ≡ (((((a && b) && c) && d) && e) && rest)
ands false b c d e rest = refl
ands true false c d e rest = refl
ands true true false d e rest = refl
ands true true true false e rest = refl
ands true true true true e rest = refl

and-true : (b : Bool) → (b && true) ≡ b
and-true true = refl
and-true false = refl

abbrev last : List ItemRule
last = read_answered ∷ asked_alone ∷ one_request ∷ request_open ∷ request_noted ∷ []

abbrev fourth : List ItemRule
fourth = erases_noted ∷ granted_held ∷ exclusive_noted ∷ giver ∷ givers_held ∷ last

abbrev third : List ItemRule
third = up_read_noted ∷ data_read ∷ up_erase_noted ∷ erase_end ∷ reads_noted ∷ fourth

abbrev second : List ItemRule
second = queue_start ∷ inject_covered ∷ erased_shared ∷ hold_follows ∷ local_noted ∷ third

module _ (p : ParentFace) (k : Bits) where
  five : (a b c d e : ItemRule) → ((((item_test a p k && item_test b p k) && item_test c p k) && item_test d p k) && item_test e p k) ≡ five_by_facts (facts_at p) k a b c d e
  five a b c d e = rw (by_facts a p k, by_facts b p k, by_facts c p k, by_facts d p k, by_facts e p k) refl

  abbrev test : ItemRule → Bool
  test r = item_test r p k

  group : (a b c d e : ItemRule) (rest others : Bool) → rest ≡ others → (test a && (test b && (test c && (test d && (test e && rest))))) ≡ (five_by_facts (facts_at p) k a b c d e && others)
  group a b c d e rest others same = ands (test a) (test b) (test c) (test d) (test e) rest ∙ (ap (λ g. g && rest) (five a b c d e) ∙ ap (λ r. five_by_facts (facts_at p) k a b c d e && r) same)

  pub all_rules : item_holds p k
      ≡ (five_by_facts (facts_at p) k answering_held exclusive_alone parked_alone exclusive_covered queue_in_order
      && (five_by_facts (facts_at p) k queue_start inject_covered erased_shared hold_follows local_noted
      && (five_by_facts (facts_at p) k up_read_noted data_read up_erase_noted erase_end reads_noted
      && (five_by_facts (facts_at p) k erases_noted granted_held exclusive_noted giver givers_held
      && five_by_facts (facts_at p) k read_answered asked_alone one_request request_open request_noted))))
  all_rules =
      group answering_held exclusive_alone parked_alone exclusive_covered queue_in_order (list_all test second) _
      (group queue_start inject_covered erased_shared hold_follows local_noted (list_all test third) _
      (group up_read_noted data_read up_erase_noted erase_end reads_noted (list_all test fourth) _
      (group erases_noted granted_held exclusive_noted giver givers_held (list_all test last) _
      (ands (test read_answered) (test asked_alone) (test one_request) (test request_open) (test request_noted) true
      ∙ (and-true ((((test read_answered && test asked_alone) && test one_request) && test request_open) && test request_noted) ∙ five read_answered asked_alone one_request request_open request_noted)))))
