-- The states of an item at a bus that its rules leave are few: what passes at each of them, computed, passes wherever the
-- rules hold.
use Rattle.std.specs.Prelude.{◌≡◌, ℕ, ◌+◌, Bool, true, false, not, ◌&&◌, ◌||◌, List, [], ◌∷◌, if◌then◌else◌, refl}
use Rattle.std.proofs.Common.{ap, subst}
use Rattle.std.proofs.Math.Bool.{and-false}
use Rattle.std.specs.List.{list_any, list_all}
use Rattle.std.specs.Cmp.Derive.{both_true}
use Rattle.bus_laws.specs.DdmTypes.declared.answers.TxKind.{TxKind}
use Rattle.bus_laws.specs.DdmTypes.declared.sizes.Hold.{Hold}
use Rattle.bus_laws.specs.TreeModel.State.Lists.{all_from}
use Rattle.bus_laws.specs.TreeModel.State.States.{is_held, is_exclusive}
use Rattle.bus_laws.specs.TreeModel.State.Values.{Note, no_note, local, up_read, up_erase}
use Rattle.bus_laws.specs.TreeModel.State.Directory.{is_reader, is_local, is_up_read, is_up_erase}
use Rattle.tree_rules.specs.Bus.Faces.{ChildFace, ParentFace}
use Rattle.tree_rules.specs.Bus.Item.{implies, holds_it, holds_exclusive, one_holds, gives_none, gives_one, one_gives, reader_is_granted, eraser_is_granted, Bits, bits_of, ItemRule, answering_held, exclusive_alone, parked_alone, exclusive_covered, queue_in_order, queue_start, inject_covered, erased_shared, hold_follows, local_noted, up_read_noted, data_read, up_erase_noted, erase_end, reads_noted, erases_noted, granted_held, exclusive_noted, giver, givers_held, read_answered, asked_alone, one_request, request_open, request_noted, item_test, ItemRules}
use Rattle.tree_rules.proofs.Implying.{implies-by}
use Rattle.bus_laws.proofs.Every.{when, when-at, every_bool, every_bool-at, every_hold, every_hold-at, every_requests, every_requests-at, every_queue, every_queue-at}

-- ---- what is true of the bits of any children

abbrev bits_agree : Note → Bool → Bits → Bool
bits_agree note parked k =
    implies (parked && k.sole) (not k.exclusive) && (implies k.sole k.held && (implies k.exclusive k.held && (not (k.one_gift && k.no_gift) && (implies (not (is_local note || is_up_read note)) k.readers && implies (not (is_up_erase note)) k.eraser))))

-- ---- each state, from the parent's part inward

-- rules that look at the parent alone
abbrev parent_rules : List ItemRule
parent_rules = answering_held ∷ inject_covered ∷ data_read ∷ erase_end ∷ exclusive_noted ∷ read_answered ∷ asked_alone ∷ request_open ∷ request_noted ∷ []

-- rules that look at the holders
abbrev holder_rules : List ItemRule
holder_rules = exclusive_alone ∷ parked_alone ∷ exclusive_covered ∷ queue_start ∷ erased_shared ∷ hold_follows ∷ []

-- rules that look at readers, eraser and gifts
abbrev noted_rules : List ItemRule
noted_rules = local_noted ∷ up_read_noted ∷ up_erase_noted ∷ giver ∷ []

-- each of these rules passes
abbrev passes : List ItemRule → ParentFace → Bits → Bool
passes rs p k = list_all (λ r. item_test r p k) rs

-- bits for rules that look at none
abbrev no_bits : Bits
no_bits = record { held = false; sole = false; exclusive = false; one_gift = false; no_gift = false; givers = false; granted = false; readers = false; eraser = false; reads = false; erases = false }

-- the parent's face by its parts
abbrev face : Note → List TxKind → Hold → Bool → List TxKind → Bool → ParentFace
face note q h a rq parked = record { hold = h; note = note; answering = a; queue = q; requests = rq; parked = parked }

-- what each of the rules of granted requests and givers tells is true
abbrev pub bits : Bool → Bool → Bool → Bool → Bool → Bool → Bool → Bits
bits held sole exclusive one_gift no_gift readers eraser = record { held = held; sole = sole; exclusive = exclusive; one_gift = one_gift; no_gift = no_gift; givers = true; granted = true; readers = readers; eraser = eraser; reads = true; erases = true }

module _ (f : ParentFace → Bits → Bool) where
  module _ (p : ParentFace) where
    -- the bits one by one: the last, the last two, ..
    abbrev at_eraser : Bool → Bool → Bool → Bool → Bool → Bool → Bool → Bool
    at_eraser held sole exclusive one none readers eraser =
        when (passes noted_rules p (bits held sole exclusive one none readers eraser) && bits_agree p.note p.parked (bits held sole exclusive one none readers eraser)) (λ yes. f p (bits held sole exclusive one none readers eraser))

    abbrev at_readers : Bool → Bool → Bool → Bool → Bool → Bool → Bool
    at_readers held sole exclusive one none readers = every_bool (at_eraser held sole exclusive one none readers)

    abbrev at_no_gift : Bool → Bool → Bool → Bool → Bool → Bool
    at_no_gift held sole exclusive one none = every_bool (at_readers held sole exclusive one none)

    abbrev at_one_gift : Bool → Bool → Bool → Bool → Bool
    at_one_gift held sole exclusive one = every_bool (at_no_gift held sole exclusive one)

    abbrev at_exclusive : Bool → Bool → Bool → Bool
    at_exclusive held sole exclusive =
        when (passes holder_rules p (record no_bits { held = held; sole = sole; exclusive = exclusive })) (λ yes. every_bool (at_one_gift held sole exclusive))

    abbrev at_sole : Bool → Bool → Bool
    at_sole held sole = every_bool (at_exclusive held sole)

    abbrev at_held : Bool → Bool
    at_held held = every_bool (at_sole held)

  -- the parent's part
  module _ (note : Note) where
    abbrev at_parked : List TxKind → Hold → Bool → List TxKind → Bool → Bool
    at_parked q h a rq parked = every_bool (at_held (face note q h a rq parked))

    abbrev at_requests : List TxKind → Hold → Bool → List TxKind → Bool
    at_requests q h a rq = when (passes parent_rules (face note q h a rq false) no_bits) (λ yes. every_bool (at_parked q h a rq))

    abbrev at_answering : List TxKind → Hold → Bool → Bool
    at_answering q h a = every_requests (at_requests q h a)

    abbrev at_hold : List TxKind → Hold → Bool
    at_hold q h = every_bool (at_answering q h)

    abbrev at_queue : List TxKind → Bool
    at_queue q = every_hold (at_hold q)

    -- it passes at each state with this note
    abbrev pub each_state : Bool
    each_state = every_queue at_queue

-- ---- at a state

module _ (f : ParentFace → Bits → Bool) (p : ParentFace) (k : Bits) (r : (r : ItemRule) → item_test r p k ≡ true) (agree : bits_agree p.note p.parked k ≡ true) where
  abbrev whole : Bits
  whole = bits k.held k.sole k.exclusive k.one_gift k.no_gift k.readers k.eraser

  noted-pass : (passes noted_rules p whole && bits_agree p.note p.parked whole) ≡ true
  noted-pass = both_true (both_true (r local_noted) (both_true (r up_read_noted) (both_true (r up_erase_noted) (both_true (r giver) refl)))) agree

  holders-pass : passes holder_rules p (record no_bits { held = k.held; sole = k.sole; exclusive = k.exclusive }) ≡ true
  holders-pass = both_true (r exclusive_alone) (both_true (r parked_alone) (both_true (r exclusive_covered) (both_true (r queue_start) (both_true (r erased_shared) (both_true (r hold_follows) refl)))))

  parent-passes : passes parent_rules (face p.note p.queue p.hold p.answering p.requests false) no_bits ≡ true
  parent-passes = both_true (r answering_held) (both_true (r inject_covered) (both_true (r data_read) (both_true (r erase_end) (both_true (r exclusive_noted) (both_true (r read_answered) (both_true (r asked_alone) (both_true (r request_open) (both_true (r request_noted) refl))))))))

  bits-passed : every_bool (at_held f p) ≡ true → f p whole ≡ true
  bits-passed h =
      let at1 = every_bool-at (at_held f p) h k.held in
      let at2 = every_bool-at (at_sole f p k.held) at1 k.sole in
      let at3 = every_bool-at (at_exclusive f p k.held k.sole) at2 k.exclusive in
      let at4 = when-at (passes holder_rules p (record no_bits { held = k.held; sole = k.sole; exclusive = k.exclusive })) (λ yes. every_bool (at_one_gift f p k.held k.sole k.exclusive)) at3 holders-pass in
      let at5 = every_bool-at (at_one_gift f p k.held k.sole k.exclusive) at4 k.one_gift in
      let at6 = every_bool-at (at_no_gift f p k.held k.sole k.exclusive k.one_gift) at5 k.no_gift in
      let at7 = every_bool-at (at_readers f p k.held k.sole k.exclusive k.one_gift k.no_gift) at6 k.readers in
      let at8 = every_bool-at (at_eraser f p k.held k.sole k.exclusive k.one_gift k.no_gift k.readers) at7 k.eraser in
      when-at (passes noted_rules p whole && bits_agree p.note p.parked whole) (λ yes. f p whole) at8 noted-pass

  pub state-passed : each_state f p.note ≡ true → f p whole ≡ true
  state-passed h =
      let at1 = every_queue-at (at_queue f p.note) h p.queue (r queue_in_order) in
      let at2 = every_hold-at (at_hold f p.note p.queue) at1 p.hold in
      let at3 = every_bool-at (at_answering f p.note p.queue p.hold) at2 p.answering in
      let at4 = every_requests-at (at_requests f p.note p.queue p.hold p.answering) at3 p.requests (r one_request) in
      let at5 = when-at (passes parent_rules (face p.note p.queue p.hold p.answering p.requests false) no_bits) (λ yes. every_bool (at_parked f p.note p.queue p.hold p.answering p.requests)) at4 parent-passes in
      bits-passed (every_bool-at (at_parked f p.note p.queue p.hold p.answering p.requests) at5 p.parked)

-- ---- the bits of children agree

right-true : (b : Bool) → implies b true ≡ true
unfolding implies
right-true true = refl
right-true false = refl

sole-step : (h any one : Bool) → implies one any ≡ true → implies (if h then not any else one) (h || any) ≡ true
sole-step true any one e = right-true (not any)
sole-step false any one e = e

sole-held : (cs : List ChildFace) → implies (one_holds cs) (list_any holds_it cs) ≡ true
unfolding implies
sole-held [] = refl
sole-held (c ∷ cs) = sole-step (holds_it c) (list_any holds_it cs) (one_holds cs) (sole-held cs)

sole-held_parked : (parked : Bool) (cs : List ChildFace) → implies (if parked then not (list_any holds_it cs) else one_holds cs) (parked || list_any holds_it cs) ≡ true
sole-held_parked true cs = right-true (not (list_any holds_it cs))
sole-held_parked false cs = sole-held cs

exclusive-step : (h : Hold) (e any : Bool) → implies e any ≡ true → implies (is_exclusive h || e) (is_held h || any) ≡ true
exclusive-step Hold.Invalid e any i = i
exclusive-step Hold.Shared e any i = right-true e
exclusive-step Hold.Exclusive e any i = right-true true

exclusive-held : (cs : List ChildFace) → implies (list_any holds_exclusive cs) (list_any holds_it cs) ≡ true
unfolding implies
exclusive-held [] = refl
exclusive-held (c ∷ cs) = exclusive-step c.hold (list_any holds_exclusive cs) (list_any holds_it cs) (exclusive-held cs)

exclusive-held_parked : (parked : Bool) (cs : List ChildFace) → implies (list_any holds_exclusive cs) (parked || list_any holds_it cs) ≡ true
exclusive-held_parked true cs = right-true (list_any holds_exclusive cs)
exclusive-held_parked false cs = exclusive-held cs

parked-step : (any e : Bool) → implies e any ≡ true → implies (not any) (not e) ≡ true
unfolding implies
parked-step true e i = refl
parked-step false true i = cc
parked-step false false i = refl

parked-alone : (parked : Bool) (cs : List ChildFace) → implies (parked && (if parked then not (list_any holds_it cs) else one_holds cs)) (not (list_any holds_exclusive cs)) ≡ true
unfolding implies
parked-alone true cs = parked-step (list_any holds_it cs) (list_any holds_exclusive cs) (exclusive-held cs)
parked-alone false cs = refl

gift-step : (n g one all : Bool) → not (one && all) ≡ true → not ((if n then one else (g && all)) && (n && all)) ≡ true
gift-step true g one all e = e
gift-step false g one all e = ap not (and-false (g && all))

one_gift-alone : (cs : List ChildFace) → not (one_gives cs && list_all gives_none cs) ≡ true
one_gift-alone [] = refl
one_gift-alone (c ∷ cs) = gift-step (gives_none c) (gives_one c) (one_gives cs) (list_all gives_none cs) (one_gift-alone cs)

none-read : (note : Note) (i : ℕ) (cs : List ChildFace) → ((j : ℕ) → is_reader note j ≡ false) → all_from (reader_is_granted note) i cs ≡ true
none-read note i [] none = refl
none-read note i (c ∷ cs) none = both_true (implies-by (is_reader note i) c.reads (λ e. let f = none i in cc)) (none-read note (i + 1) cs none)

readers-agree : (note : Note) (cs : List ChildFace) → implies (not (is_local note || is_up_read note)) (all_from (reader_is_granted note) 0 cs) ≡ true
unfolding implies
readers-agree no_note cs = none-read no_note 0 cs (λ j. refl)
readers-agree (local first joined) cs = refl
readers-agree (up_read first joined) cs = refl
readers-agree (up_erase d) cs = none-read (up_erase d) 0 cs (λ j. refl)

eraser-agrees : (note : Note) (cs : List ChildFace) → implies (not (is_up_erase note)) (eraser_is_granted note cs) ≡ true
unfolding implies
eraser-agrees no_note cs = refl
eraser-agrees (local first joined) cs = refl
eraser-agrees (up_read first joined) cs = refl
eraser-agrees (up_erase d) cs = refl

bits-agree : (p : ParentFace) (cs : List ChildFace) → bits_agree p.note p.parked (bits_of p cs) ≡ true
bits-agree p cs =
    both_true (parked-alone p.parked cs) (both_true (sole-held_parked p.parked cs) (both_true (exclusive-held_parked p.parked cs) (both_true (one_gift-alone cs) (both_true (readers-agree p.note cs) (eraser-agrees p.note cs)))))

whole-is : (k : Bits) → k.givers ≡ true → k.granted ≡ true → k.reads ≡ true → k.erases ≡ true → bits k.held k.sole k.exclusive k.one_gift k.no_gift k.readers k.eraser ≡ k
whole-is k givers granted reads erases =
    let same : bits k.held k.sole k.exclusive k.one_gift k.no_gift k.readers k.eraser ≡ record { held = k.held; sole = k.sole; exclusive = k.exclusive; one_gift = k.one_gift; no_gift = k.no_gift; givers = k.givers; granted = k.granted; readers = k.readers; eraser = k.eraser; reads = k.reads; erases = k.erases } = rw (givers, granted, reads, erases) refl in
    same

-- what passes at each state passes where the rules hold
pub state-at : (f : ParentFace → Bits → Bool) → ((note : Note) → each_state f note ≡ true) → (p : ParentFace) (cs : List ChildFace) → ItemRules p cs → f p (bits_of p cs) ≡ true
state-at f h p cs r =
    subst (λ k. f p k ≡ true) (whole-is (bits_of p cs) (r.each givers_held) (r.each granted_held) (r.each reads_noted) (r.each erases_noted)) (state-passed f p (bits_of p cs) r.each (bits-agree p cs) (h p.note))
