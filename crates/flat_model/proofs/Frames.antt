-- What a step leaves as it was: the other harts but for their reservations on the item that it stores to, and the words of the other items.
use Rattle.std.proofs.Common.{◌≡◌, ◌≢◌, ℕ, ◌<◌, [], length, Option, Some, None, refl, ◌∙◌}
use Rattle.std.proofs.Math.ListN.{get_or-map, length-set, length-map}
use Rattle.std.proofs.lemmas.List.{get_or-set_same, get_or-set_other}
use Rattle.flat_model.specs.Flat.{FlatHart, FlatMachine, Stored, Change, flat_hart, no_flat_hart, item_words, without_reserved, with_stored, with_change}

-- a hart of the machine after an item was stored to
abbrev pub freed : Option Stored → FlatHart → FlatHart
freed None g = g
freed (Some s) g = without_reserved s.item g

stored_hart : (m : FlatMachine) (stored : Option Stored) (g : ℕ) → flat_hart (with_stored m stored) g ≡ freed stored (flat_hart m g)
stored_hart m None g = refl
stored_hart m (Some s) g = get_or-map (without_reserved s.item) m.harts g no_flat_hart

stored_length : (m : FlatMachine) (stored : Option Stored) → length (with_stored m stored).harts ≡ length m.harts
stored_length m None = refl
stored_length m (Some s) = length-map m.harts (without_reserved s.item)

-- another hart keeps all but a reservation on the item that is stored to
pub other_hart : (m : FlatMachine) (h : ℕ) (c : Change) (g : ℕ) → g ≢ h → flat_hart (with_change m h c) g ≡ freed c.stored (flat_hart m g)
other_hart m h c g other = get_or-set_other (with_stored m c.stored).harts h g c.after no_flat_hart other ∙ stored_hart m c.stored g

-- the step's own hart
pub own_hart : (m : FlatMachine) (h : ℕ) (c : Change) → h < length m.harts → flat_hart (with_change m h c) h ≡ c.after
own_hart m h c below = get_or-set_same (with_stored m c.stored).harts h c.after no_flat_hart (rw (stored_length m c.stored) below)

-- words of an item that isn't stored to
pub other_words : (m : FlatMachine) (h : ℕ) (c : Change) (x : ℕ) → ((s : Stored) → c.stored ≡ Some s → x ≢ s.item) → item_words (with_change m h c) x ≡ item_words m x
other_words m h c x other = go c.stored other where
  go : (stored : Option Stored) → ((s : Stored) → stored ≡ Some s → x ≢ s.item) → item_words (with_stored m stored) x ≡ item_words m x
  go None other = refl
  go (Some s) other = get_or-set_other m.words s.item x s.words [] (other s refl)

-- words of the item that is stored to
pub own_words : (m : FlatMachine) (h : ℕ) (c : Change) (s : Stored) → c.stored ≡ Some s → s.item < length m.words → item_words (with_change m h c) s.item ≡ s.words
own_words m h c s e below = rw e (get_or-set_same m.words s.item s.words [] below)

-- a step keeps the number of harts and of items
pub same_counts : (m : FlatMachine) (h : ℕ) (c : Change) → (length (with_change m h c).harts ≡ length m.harts) × (length (with_change m h c).words ≡ length m.words)
same_counts m h c = (length-set (with_stored m c.stored).harts h c.after ∙ stored_length m c.stored, go c.stored) where
  go : (stored : Option Stored) → length (with_stored m stored).words ≡ length m.words
  go None = refl
  go (Some s) = length-set m.words s.item s.words
