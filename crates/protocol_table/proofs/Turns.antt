-- Every turn is judged as the table says, and the table says what its first row says that speaks.
use Rattle.std.proofs.Common.{◌≡◌, Bool, true, false, not, List, [], ◌∷◌, ◌++◌, Option, Some, None, refl, ap, ◌∙◌}
use Rattle.std.specs.Prelude.{◌&&◌}
use Rattle.protocol_table.specs.DdmTypes.declared.keys.Stamp.{Stamp}
use Rattle.tree_model.specs.declared.BusTurn.{BusTurn}
use Rattle.tree_model.specs.State.Values.{DirValue, Node}
use Rattle.tree_model.specs.State.Child.{child_request, child_reply, child_leaving}
use Rattle.tree_model.specs.Turns.Children.{child_at}
use Rattle.tree_model.specs.Turns.Grant.{Judged, nothing_there, outcome_of}
use Rattle.tree_model.specs.Turns.Bus.{bus_judged, bus_step}
use Rattle.protocol_table.specs.Situation.{Situation, situation_of}
use Rattle.protocol_table.specs.Row.{Row, speaks, row_says, says}
use Rattle.protocol_table.specs.Table.{table, said_of, table_says}
use Rattle.protocol_table.specs.Laws.{silent, ComesTo, FirstRowDecides, NoRowIsEmpty, NothingIsEmpty}
use Rattle.protocol_table.proofs.Requests.{request-said}
use Rattle.protocol_table.proofs.Replies.{reply-said}
use Rattle.protocol_table.proofs.Entries.{entry-said}
use Rattle.protocol_table.proofs.Leaves.{leave-said}

and-first : (a b : Bool) → (a && b) ≡ true → a ≡ true
and-first true b e = refl
and-first false b e = e

and-second : (a b : Bool) → (a && b) ≡ true → b ≡ true
and-second true b e = e
and-second false b e = cc

not-true : (b : Bool) → not b ≡ true → b ≡ false
not-true true e = cc
not-true false e = refl

-- ---- rows

first-says : (before : List Row) (row : Row) (after : List Row) (s : Situation) → silent before s ≡ true
    → speaks row s ≡ true → says (before ++ row ∷ after) s ≡ row_says row s
first-says [] row after s quiet heard = rw heard refl
first-says (r ∷ rows) row after s quiet heard =
    rw (not-true (speaks r s) (and-first (not (speaks r s)) (silent rows s) quiet))
    (first-says rows row after s (and-second (not (speaks r s)) (silent rows s) quiet) heard)

none-says : (rows : List Row) (s : Situation) → silent rows s ≡ true → says rows s ≡ nothing_there
none-says [] s quiet = refl
none-says (r ∷ rows) s quiet =
    rw (not-true (speaks r s) (and-first (not (speaks r s)) (silent rows s) quiet))
    (none-says rows s (and-second (not (speaks r s)) (silent rows s) quiet))

-- ---- turns

module _ (above : Stamp) (p : DirValue) (ns : List Node) where
  turn-said : (t : BusTurn) → bus_judged above p ns t ≡ table_says above p ns t
  turn-said BusTurn.Down = entry-said above p ns p.down
  turn-said (BusTurn.Request c) = request-said above p ns c (child_request (child_at c ns))
  turn-said (BusTurn.Reply c) = reply-said above p ns c (child_reply (child_at c ns))
  turn-said (BusTurn.Leave c choice) = leave-said above p ns c (child_leaving choice (child_at c ns))

  pub turn-is : (t : BusTurn) → ComesTo above p ns t (table_says above p ns t)
  unfolding bus_step
  turn-is t = ap (λ j. outcome_of p ns j) (turn-said t)

  turn-says : (t : BusTurn) (o : Option Situation) (j : Judged) → situation_of above p ns t ≡ o → said_of o ≡ j
      → ComesTo above p ns t j
  turn-says t o j e said = turn-is t ∙ ap (λ i. outcome_of p ns i) (ap said_of e ∙ said)

pub first-decides : FirstRowDecides
first-decides above p ns t s row before after e first =
    turn-says above p ns t (Some s) (row_says row s) e
    (ap (λ rows. says rows s) first.rows ∙ first-says before row after s first.quiet first.heard)

pub none-decides : NoRowIsEmpty
none-decides above p ns t s e quiet = turn-says above p ns t (Some s) nothing_there e (none-says table s quiet)

pub nothing-decides : NothingIsEmpty
nothing-decides above p ns t e = turn-says above p ns t None nothing_there e refl
