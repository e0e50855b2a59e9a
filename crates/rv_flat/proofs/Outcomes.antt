-- The step of a hart, by what its next instruction asks for.
use Rattle.std.proofs.Common.{◌≡◌, ℕ, ◌<◌, Bool, true, false, ◌&&◌, List, [], map, length, Option, Some, None, Ok, Err, refl, ap, ◌∙◌, arith}
use Rattle.std.specs.Prelude.{Result, if◌then◌else◌}
use Rattle.std.specs.List.{range_with_len}
use Rattle.std.proofs.Math.ListN.{length-set}
use Rattle.std.proofs.lemmas.List.FromFn.{length-map-range_with_len}
use Rattle.rv_flat.specs.DdmTypes.declared.sizes.Start.{Start}
use Rattle.rv_flat.proofs.FlatModel.Frames.{same_counts}
use Rattle.rv_flat.proofs.FlatModel.Steps.{finish_keeps, finish_failing_keeps}
use Rattle.rv_flat.specs.ItemWords.{words_by_item, words_of_item}
use Rattle.rv_flat.specs.DdmTypes.declared.operations.HaltCause.{HaltCause}
use Rattle.rv_flat.specs.DdmTypes.CodeMap.{CodeWord}
use Rattle.rv_flat.specs.DdmTypes.ItemTable.{ItemTable, item_count}
use Rattle.rv_flat.specs.FlatModel.declared.Ask.{Ask}
use Rattle.rv_flat.specs.FlatModel.declared.Ask.TheVariants.{Plain, Put, NeedsShared, NeedsExclusive, Conditional, Halt}
use Rattle.rv_flat.specs.FlatModel.Hart.{Finished, ask_of, finish_of}
use Rattle.rv_flat.specs.FlatModel.Flat.{FlatHart, FlatMachine, FlatStepped, Change, change_by, conditional, flat_halted, flat_hart, flat_hart_start, flat_step, machine_after, has_reserved, hart_step, item_words, leaving, storing_to, stepped, unless_halted, with_change}
use Rattle.rv_hart.specs.Steps.{IsReady}
use Rattle.rv_flat.specs.Asks.{IsOfItem, IsOfNoItem, ask_unless_halted, next_ask}
use Rattle.rv_flat.proofs.Asked.{asked_inside}

-- ---- a hart that isn't halted

of_item : (halt : Option HaltCause) (ask : Ask) (x : ℕ) → IsOfItem x (ask_unless_halted halt ask) → (halt ≡ None) × IsOfItem x ask
of_item None ask x of = (refl, of)
of_item (Some cause) ask x of = absurd of

of_no_item : (halt : Option HaltCause) (ask : Ask) → IsOfNoItem (ask_unless_halted halt ask) → (halt ≡ None) × IsOfNoItem ask
of_no_item None ask of = (refl, of)
of_no_item (Some cause) ask of = absurd of

item_ready : (ask : Ask) (x : ℕ) → IsOfItem x ask → IsReady ask
item_ready Plain x of = tt
item_ready (Put byte) x of = tt
item_ready (NeedsShared y lr) x of = tt
item_ready (NeedsExclusive y) x of = tt
item_ready (Conditional y) x of = tt
item_ready (Halt cause) x of = of

pub item_running : (code : List CodeWord) (items : ItemTable) (g : FlatHart) (x : ℕ) → IsOfItem x (next_ask code items g) → g.hart.halt ≡ None
item_running code items g x of = (of_item g.hart.halt (ask_of code items g.hart) x of).0

pub item_is_ready : (code : List CodeWord) (items : ItemTable) (g : FlatHart) (x : ℕ) → IsOfItem x (next_ask code items g) → IsReady (ask_of code items g.hart)
item_is_ready code items g x of = item_ready (ask_of code items g.hart) x (of_item g.hart.halt (ask_of code items g.hart) x of).1

pub item_inside : (code : List CodeWord) (items : ItemTable) (g : FlatHart) (x : ℕ) → IsOfItem x (next_ask code items g) → x < item_count items
item_inside code items g x of = asked_inside code items g.hart x (of_item g.hart.halt (ask_of code items g.hart) x of).1

pub no_item_running : (code : List CodeWord) (items : ItemTable) (g : FlatHart) → IsOfNoItem (next_ask code items g) → g.hart.halt ≡ None
no_item_running code items g of = (of_no_item g.hart.halt (ask_of code items g.hart) of).0

pub no_item_asked : (code : List CodeWord) (items : ItemTable) (g : FlatHart) → IsOfNoItem (next_ask code items g) → IsOfNoItem (ask_of code items g.hart)
no_item_asked code items g of = (of_no_item g.hart.halt (ask_of code items g.hart) of).1

-- ---- words that stay

pub shared_words : (code : List CodeWord) (items : ItemTable) (g : FlatHart) (words : List ℕ) (x : ℕ) (lr : Bool) → next_ask code items g ≡ NeedsShared x lr → (finish_of code items g.hart words false).words ≡ words
shared_words code items g words x lr e = go g.hart.halt e where
  go : (halt : Option HaltCause) → ask_unless_halted halt (ask_of code items g.hart) ≡ NeedsShared x lr → (finish_of code items g.hart words false).words ≡ words
  go None e = finish_keeps code items x lr g.hart words false e
  go (Some cause) e = grind arith

pub failing_words : (code : List CodeWord) (items : ItemTable) (g : FlatHart) (words : List ℕ) (x : ℕ) → next_ask code items g ≡ Conditional x → (finish_of code items g.hart words false).words ≡ words
failing_words code items g words x e = go g.hart.halt e where
  go : (halt : Option HaltCause) → ask_unless_halted halt (ask_of code items g.hart) ≡ Conditional x → (finish_of code items g.hart words false).words ≡ words
  go None e = finish_failing_keeps code items g.hart x words e
  go (Some cause) e = grind arith

-- ---- the step

step_is : (code : List CodeWord) (items : ItemTable) (m : FlatMachine) (h : ℕ) (sc_ok : Bool) → flat_step code items m h sc_ok ≡ stepped m h (change_by (next_ask code items (flat_hart m h)) (flat_hart m h).reserved (finish_of code items (flat_hart m h).hart) (item_words m) sc_ok)
unfolding flat_step hart_step
step_is code items m h sc_ok = ap (stepped m h) (go (flat_hart m h).hart.halt) where
  go : (halt : Option HaltCause) → (let ask = ask_of code items (flat_hart m h).hart in
      unless_halted halt (change_by ask (flat_hart m h).reserved (finish_of code items (flat_hart m h).hart) (item_words m) sc_ok) ≡ change_by (ask_unless_halted halt ask) (flat_hart m h).reserved (finish_of code items (flat_hart m h).hart) (item_words m) sc_ok)
  go None = refl
  go (Some cause) = refl

step_by : (code : List CodeWord) (items : ItemTable) (m : FlatMachine) (h : ℕ) (sc_ok : Bool) (ask : Ask) → next_ask code items (flat_hart m h) ≡ ask → flat_step code items m h sc_ok ≡ stepped m h (change_by ask (flat_hart m h).reserved (finish_of code items (flat_hart m h).hart) (item_words m) sc_ok)
step_by code items m h sc_ok ask e = step_is code items m h sc_ok ∙ ap (λ a. stepped m h (change_by a (flat_hart m h).reserved (finish_of code items (flat_hart m h).hart) (item_words m) sc_ok)) e

-- what is done, and the machine after a change
abbrev pub done_by : List CodeWord → ItemTable → FlatMachine → ℕ → List ℕ → Bool → Finished
done_by code items m h words sc_ok = finish_of code items (flat_hart m h).hart words sc_ok

abbrev pub left : FlatMachine → ℕ → Finished → Option ℕ → FlatStepped
left m h f reserved = Ok (f.effect, with_change m h (leaving f reserved))

abbrev pub stored : FlatMachine → ℕ → ℕ → Finished → Option ℕ → FlatStepped
stored m h x f reserved = Ok (f.effect, with_change m h (storing_to x f reserved))

pub step_halts : (code : List CodeWord) (items : ItemTable) (m : FlatMachine) (h : ℕ) (sc_ok : Bool) (cause : HaltCause) → next_ask code items (flat_hart m h) ≡ Halt cause → flat_step code items m h sc_ok ≡ Err cause
step_halts code items m h sc_ok cause e = step_by code items m h sc_ok (Halt cause) e

pub step_plain : (code : List CodeWord) (items : ItemTable) (m : FlatMachine) (h : ℕ) (sc_ok : Bool) → next_ask code items (flat_hart m h) ≡ Plain → flat_step code items m h sc_ok ≡ left m h (done_by code items m h [] false) (flat_hart m h).reserved
step_plain code items m h sc_ok e = step_by code items m h sc_ok Plain e

pub step_puts : (code : List CodeWord) (items : ItemTable) (m : FlatMachine) (h : ℕ) (sc_ok : Bool) (byte : ℕ) → next_ask code items (flat_hart m h) ≡ Put byte → flat_step code items m h sc_ok ≡ left m h (done_by code items m h [] false) (flat_hart m h).reserved
step_puts code items m h sc_ok byte e = step_by code items m h sc_ok (Put byte) e

pub step_shares : (code : List CodeWord) (items : ItemTable) (m : FlatMachine) (h : ℕ) (sc_ok : Bool) (x : ℕ) (lr : Bool) → next_ask code items (flat_hart m h) ≡ NeedsShared x lr → flat_step code items m h sc_ok ≡ left m h (done_by code items m h (item_words m x) false) (if lr then Some x else (flat_hart m h).reserved)
step_shares code items m h sc_ok x lr e = step_by code items m h sc_ok (NeedsShared x lr) e

pub step_stores : (code : List CodeWord) (items : ItemTable) (m : FlatMachine) (h : ℕ) (sc_ok : Bool) (x : ℕ) → next_ask code items (flat_hart m h) ≡ NeedsExclusive x → flat_step code items m h sc_ok ≡ stored m h x (done_by code items m h (item_words m x) false) (flat_hart m h).reserved
step_stores code items m h sc_ok x e = step_by code items m h sc_ok (NeedsExclusive x) e

conditional_by : (code : List CodeWord) (items : ItemTable) (m : FlatMachine) (h : ℕ) (sc_ok : Bool) (x : ℕ) (b : Bool) → next_ask code items (flat_hart m h) ≡ Conditional x → (sc_ok && has_reserved (flat_hart m h).reserved x) ≡ b → flat_step code items m h sc_ok ≡ stepped m h (Ok (conditional b x (finish_of code items (flat_hart m h).hart (item_words m x))))
conditional_by code items m h sc_ok x b e t = step_by code items m h sc_ok (Conditional x) e ∙ ap (λ k. stepped m h (Ok (conditional k x (finish_of code items (flat_hart m h).hart (item_words m x))))) t

pub step_keeps : (code : List CodeWord) (items : ItemTable) (m : FlatMachine) (h : ℕ) (sc_ok : Bool) (x : ℕ) → next_ask code items (flat_hart m h) ≡ Conditional x → (sc_ok && has_reserved (flat_hart m h).reserved x) ≡ true → flat_step code items m h sc_ok ≡ stored m h x (done_by code items m h (item_words m x) true) None
step_keeps code items m h sc_ok x e t = conditional_by code items m h sc_ok x true e t

pub step_loses : (code : List CodeWord) (items : ItemTable) (m : FlatMachine) (h : ℕ) (sc_ok : Bool) (x : ℕ) → next_ask code items (flat_hart m h) ≡ Conditional x → (sc_ok && has_reserved (flat_hart m h).reserved x) ≡ false → flat_step code items m h sc_ok ≡ left m h (done_by code items m h (item_words m x) false) None
step_loses code items m h sc_ok x e t = conditional_by code items m h sc_ok x false e t

-- ---- numbers of harts and items

counts : (code : List CodeWord) (items : ItemTable) (m : FlatMachine) (h : ℕ) (sc_ok : Bool) → (length (machine_after m h (flat_step code items m h sc_ok)).harts ≡ length m.harts) × (length (machine_after m h (flat_step code items m h sc_ok)).words ≡ length m.words)
unfolding flat_step flat_halted
counts code items m h sc_ok = go (hart_step code items (flat_hart m h) (item_words m) sc_ok) where
  go : (r : Result Change HaltCause) → (length (machine_after m h (stepped m h r)).harts ≡ length m.harts) × (length (machine_after m h (stepped m h r)).words ≡ length m.words)
  go (Ok c) = same_counts m h c
  go (Err cause) = (length-set m.harts h _, refl)

pub same_harts : (code : List CodeWord) (items : ItemTable) (m : FlatMachine) (h : ℕ) (sc_ok : Bool) → length (machine_after m h (flat_step code items m h sc_ok)).harts ≡ length m.harts
same_harts code items m h sc_ok = (counts code items m h sc_ok).0

pub same_items : (code : List CodeWord) (items : ItemTable) (m : FlatMachine) (h : ℕ) (sc_ok : Bool) → length (machine_after m h (flat_step code items m h sc_ok)).words ≡ length m.words
same_items code items m h sc_ok = (counts code items m h sc_ok).1

pub start_harts : (start : Start) (n : ℕ) → length (map (flat_hart_start start) (range_with_len 0 n)) ≡ n
start_harts start n = length-map-range_with_len (flat_hart_start start) 0 n

pub start_items : (width n : ℕ) (words : List ℕ) → length (words_by_item width n words) ≡ n
start_items width n words = length-map-range_with_len (words_of_item width words) 0 n

pub halted_harts : (m : FlatMachine) (h : ℕ) (cause : HaltCause) → length (flat_halted m h cause).harts ≡ length m.harts
unfolding flat_halted
halted_harts m h cause = length-set m.harts h _

pub halted_items : (m : FlatMachine) (h : ℕ) (cause : HaltCause) → length (flat_halted m h cause).words ≡ length m.words
unfolding flat_halted
halted_items m h cause = refl

-- How many harts and items there are at the start.
pub ruleset start_lengths = (start_harts, start_items)

-- What a step does.
pub ruleset step_cases = (step_halts, step_plain, step_puts, step_shares, step_stores, step_keeps, step_loses)

-- What a step leaves as long as it was.
pub ruleset step_lengths = (shared_words, failing_words, same_harts, same_items, halted_harts, halted_items)
