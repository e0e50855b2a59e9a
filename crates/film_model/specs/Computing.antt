-- One name that opens every definition of this crate, and of those that it stands on, that is shut by default.
-- Proofs alone need it.
use Rattle.text_model.specs.Computing.{runs_compute}
use Rattle.film_model.specs.Part.{part_line, key_of, item_key_of, number_text, stamp_text, listed, numbered, valued, changed}
use Rattle.film_model.specs.Leaf.{stopped_text, register_text, entry_words, way_text, buffer_text, request_text}
use Rattle.film_model.specs.Leaf.{slot_text, copy_text, reservation_text, leaf_parts}
use Rattle.film_model.specs.Directory.{hold_text, set_text, note_text, answering_text, dir_item_text, told_stamp}
use Rattle.film_model.specs.Directory.{down_words, down_text, count_text, dir_parts}
use Rattle.film_model.specs.Still.{bus_parts, place_text, place_part, still}
use Rattle.film_model.specs.Film.{tree_line, sizes_line, writable_text, item_line, item_lines, head_of, turn_film, turns_film, film_of}

-- Where a proof says `unfolding films_compute`, films compute.
unfoldable pub films_compute : Unit {0}
unfolding runs_compute part_line key_of item_key_of number_text stamp_text listed numbered valued changed stopped_text
    register_text entry_words way_text buffer_text request_text slot_text copy_text reservation_text leaf_parts hold_text
    set_text note_text answering_text dir_item_text told_stamp down_words down_text count_text dir_parts bus_parts
    place_text place_part still tree_line sizes_line writable_text item_line item_lines head_of turn_film turns_film
    film_of
films_compute = tt
