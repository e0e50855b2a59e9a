-- What small schedules give.
use Rattle.std.proofs.Common.{◌≡◌, ℕ, ◌+◌, ◌/◌, List, Result, Err, refl, take, map, get_or, ap, sym, ◌∙◌, zero-add}
use Rattle.std.specs.Prelude.{codes}
use Rattle.std.specs.List.{range_with_len}
use Rattle.std.proofs.lemmas.List.FromFn.{get_or-map-range_with_len}
use Rattle.text_model.specs.DdmTypes.declared.turns.Turn.{Turn}
use Rattle.text_model.specs.declared.ScheduleRefusal.{ScheduleRefusal}
use Rattle.text_model.specs.declared.ScheduleRefusal.TheVariants.{BadTurn, TooManyTurns, NoSuchHart, NoSuchBus, NoSuchChild, NoEnd, AfterEnd}
use Rattle.text_model.specs.Schedule.{one_leaf, schedule_of, schedule_text}
use Rattle.text_model.specs.Compute.{texts_compute}
use Rattle.text_model.specs.Examples.{IsRefused, IsRefusedAfter, IsRefusedWhereCut, Gives, eight_turns, eight_turns_text}

pub unfinished : IsRefused (codes "h 0 0\n") 2 NoEnd
unfolding texts_compute
unfinished = refl

pub no_such_hart : IsRefused (codes "h 1 0\nend\n") 1 NoSuchHart
unfolding texts_compute
no_such_hart = refl

pub two_spellings : IsRefused (codes "h 0 00\nend\n") 1 BadTurn
unfolding texts_compute
two_spellings = refl

pub goes_on_after_end : IsRefused (codes "end\nx") 2 AfterEnd
unfolding texts_compute
goes_on_after_end = refl

pub no_such_bus : IsRefused (codes "g 4294967295 d\nend\n") 1 NoSuchBus
unfolding texts_compute
no_such_bus = refl

pub line_of_24_bytes : IsRefused (codes "g 999999999 q 4294967295\nend\n") 1 NoSuchBus
unfolding texts_compute
line_of_24_bytes = refl

pub line_of_25_bytes : IsRefused (codes "g 1000000000 q 4294967295\nend\n") 1 BadTurn
unfolding texts_compute
line_of_25_bytes = refl

pub no_such_child : IsRefused (codes "g 0 q 1\nend\n") 1 NoSuchChild
unfolding texts_compute
no_such_child = refl

pub victim_too_large : IsRefused (codes "h 0 256\nend\n") 1 BadTurn
unfolding texts_compute
victim_too_large = refl

pub two_spaces : IsRefused (codes "h  0 0\nend\n") 1 BadTurn
unfolding texts_compute
two_spaces = refl

pub carriage_return : IsRefused (codes "h 0 0\r\nend\n") 1 BadTurn
unfolding texts_compute
carriage_return = refl

pub one_turn_too_many : IsRefusedAfter 1048575 (codes "h 0 0\nh 0 0\nend\n") 2 TooManyTurns
unfolding texts_compute
one_turn_too_many = refl

pub eight_turns_given : Gives eight_turns_text eight_turns
unfolding texts_compute
eight_turns_given = refl

pub eight_turns_written : schedule_text eight_turns ≡ eight_turns_text
unfolding texts_compute
eight_turns_written = refl

-- what a text gives
abbrev Outcome : Type 0
Outcome = Result (List Turn) (ℕ × ScheduleRefusal)

-- what a text of n bytes gives, and what it must give
abbrev cut_at : ℕ → Outcome
cut_at n = schedule_of one_leaf 0 (take n eight_turns_text)

-- what it must give
abbrev unended : ℕ → Outcome
unended n = Err (n / 6 + 1, NoEnd)

cut_everywhere : map cut_at (range_with_len 0 52) ≡ map unended (range_with_len 0 52)
unfolding texts_compute
cut_everywhere = refl

pub refused_where_cut : IsRefusedWhereCut
refused_where_cut n below =
    sym (get_or-map-range_with_len cut_at 0 52 n n (unended 0) below (zero-add n))
    ∙ ap (λ outcomes. get_or outcomes n (unended 0)) cut_everywhere
    ∙ get_or-map-range_with_len unended 0 52 n n (unended 0) below (zero-add n)
