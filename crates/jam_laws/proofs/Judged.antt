-- What was judged of a turn goes on: it is granted, or a list that needs a place is full.
use Rattle.std.proofs.Common.{◌≡◌, ℕ, Bool, true, false, Option, Some, None, refl}
use Rattle.std.specs.Prelude.{◌||◌}
use Rattle.jam_laws.specs.DdmTypes.declared.answers.BusyCause.{BusyCause}
use Rattle.jam_laws.specs.DdmTypes.declared.answers.QueueName.{QueueName}
use Rattle.jam_laws.specs.TreeModel.Turns.Grant.{Grant, Judged, nothing_there, refused, granted, unless_full, bus_answer}
use Rattle.jam_laws.specs.GoesOn.{is_granted, finds_list_full}

-- a list is full
abbrev pub full : Judged → Bool
full nothing_there = false
full (refused (BusyCause.QueueFull list)) = true
full (refused (BusyCause.ItemPending bus x why)) = false
full (refused (BusyCause.BufferFull leaf)) = false
full (refused (BusyCause.ParkingFull bus)) = false
full (refused (BusyCause.NoRoom x)) = false
full (granted g) = false

-- it is granted, or a list is full
abbrev pub goes : Judged → Bool
goes nothing_there = false
goes (refused (BusyCause.QueueFull list)) = true
goes (refused (BusyCause.ItemPending bus x why)) = false
goes (refused (BusyCause.BufferFull leaf)) = false
goes (refused (BusyCause.ParkingFull bus)) = false
goes (refused (BusyCause.NoRoom x)) = false
goes (granted g) = true

pub unless_full-goes : (o : Option QueueName) (g : Grant) → goes (unless_full o g) ≡ true
unfolding unless_full
unless_full-goes None g = refl
unless_full-goes (Some list) g = refl

pub unless_full-room : (o : Option QueueName) (g : Grant) → o ≡ None → full (unless_full o g) ≡ false
unfolding unless_full
unless_full-room None g room = refl
unless_full-room (Some list) g room = cc

pub full-answer : (bus : ℕ) (j : Judged) → finds_list_full (bus_answer bus j) ≡ full j
full-answer bus nothing_there = refl
full-answer bus (refused (BusyCause.QueueFull list)) = refl
full-answer bus (refused (BusyCause.ItemPending b x why)) = refl
full-answer bus (refused (BusyCause.BufferFull leaf)) = refl
full-answer bus (refused (BusyCause.ParkingFull b)) = refl
full-answer bus (refused (BusyCause.NoRoom x)) = refl
full-answer bus (granted g) = refl

pub goes-answer : (bus : ℕ) (j : Judged) → (is_granted (bus_answer bus j) || finds_list_full (bus_answer bus j)) ≡ goes j
goes-answer bus nothing_there = refl
goes-answer bus (refused (BusyCause.QueueFull list)) = refl
goes-answer bus (refused (BusyCause.ItemPending b x why)) = refl
goes-answer bus (refused (BusyCause.BufferFull leaf)) = refl
goes-answer bus (refused (BusyCause.ParkingFull b)) = refl
goes-answer bus (refused (BusyCause.NoRoom x)) = refl
goes-answer bus (granted g) = refl
