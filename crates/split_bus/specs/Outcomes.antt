-- What a turn of a bus needs to be safe, and its outcome part by part.
-- To be believed: contracts of code speak of it.
use Rattle.std.specs.Prelude.{◌≡◌, ℕ, ◌+◌, ◌^◌, ◌<◌, Bool, true, false, List, length, All, ⊤}
use Rattle.split_bus.specs.DdmTypes.declared.answers.TurnAnswer.{TurnAnswer}
use Rattle.split_bus.specs.TreeModel.declared.BusTurn.{BusTurn}
use Rattle.split_bus.specs.TreeModel.State.Lists.{rest_of}
use Rattle.split_bus.specs.TreeModel.State.Directory.{front_taken}
use Rattle.split_bus.specs.TreeModel.State.Values.{DownValue, DirValue, Node}
use Rattle.split_bus.specs.TreeModel.Turns.Grant.{Judged, nothing_there, refused, granted, Outcome}
use Rattle.item_states.specs.Parts.{node_items}

-- the answer, the parent and the children after a turn are those of the outcome
pub record IsOutcome (o : Outcome) (a : TurnAnswer) (p : DirValue) (ns : List Node) : Type 0 where
  pub answer : a ≡ o.answer
  pub parent : p ≡ o.parent
  pub kids : ns ≡ o.kids

-- each child keeps something of the item
abbrev pub HaveItem : ℕ → List Node → Type 0
HaveItem x ns = All (λ n. x < node_items n) ns

-- what a turn needs that moves an item whose words are so many
pub record IsReady (width x : ℕ) (p : DirValue) (ns : List Node) : Type 0 where
  pub words_fit : width < 2 ^ 32
  pub sized : p.sizes.width ≡ width
  pub count : p.count + 1 < 2 ^ 32
  pub in_range : x < length p.items
  pub have : HaveItem x ns

-- the parent after the first entry of its down list was taken
abbrev pub fronted : DownValue → DirValue → DirValue
fronted e p = front_taken e.stamp (rest_of p.down) p

-- each child keeps something of as many items as the parent
abbrev pub AreSized : DirValue → List Node → Type 0
AreSized p ns = All (λ n. node_items n ≡ length p.items) ns

-- the child that a turn names is one of this many
abbrev pub NamesOneOf : ℕ → BusTurn → Type 0
NamesOneOf count BusTurn.Down = ⊤
NamesOneOf count (BusTurn.Request c) = c < count
NamesOneOf count (BusTurn.Reply c) = c < count
NamesOneOf count (BusTurn.Leave c choice) = c < count

-- ---- what would be granted

abbrev pub grants : Judged → Bool
grants nothing_there = false
grants (refused cause) = false
grants (granted g) = true

abbrev pub is_granted : TurnAnswer → Bool
is_granted (TurnAnswer.Granted e) = true
is_granted _ = false

-- Down, Request or Reply: what is under way goes on
abbrev pub goes_on_with : BusTurn → Bool
goes_on_with BusTurn.Down = true
goes_on_with (BusTurn.Request c) = true
goes_on_with (BusTurn.Reply c) = true
goes_on_with (BusTurn.Leave c choice) = false

-- what looks at an item needs: the parent and each child keep something of it
pub record IsKept (width x : ℕ) (p : DirValue) (ns : List Node) : Type 0 where
  pub words_fit : width < 2 ^ 32
  pub in_range : x < length p.items
  pub have : HaveItem x ns
