use Rattle.std.proofs.Common.{refl}
use Rattle.film_model.specs.Computing.{films_compute}
use Rattle.film_model.proofs.examples.small_films.Goals as goal

pub returns-clause-before_any_turn : goal.returns-clause-before_any_turn
unfolding films_compute
returns-clause-before_any_turn c = refl

pub returns-clause-one_read : goal.returns-clause-one_read
unfolding films_compute
returns-clause-one_read c = refl

pub returns-clause-reservation : goal.returns-clause-reservation
unfolding films_compute
returns-clause-reservation c = refl

pub returns-clause-joined_reads : goal.returns-clause-joined_reads
unfolding films_compute
returns-clause-joined_reads c = refl

pub returns-clause-parking : goal.returns-clause-parking
unfolding films_compute
returns-clause-parking c = refl

pub returns-clause-full_buffer : goal.returns-clause-full_buffer
unfolding films_compute
returns-clause-full_buffer c = refl

pub returns-clause-stale_load : goal.returns-clause-stale_load
unfolding films_compute
returns-clause-stale_load c = refl

pub returns-clause-one_byte_of_output : goal.returns-clause-one_byte_of_output
unfolding films_compute
returns-clause-one_byte_of_output c = refl

pub returns-clause-keys : goal.returns-clause-keys
unfolding films_compute
returns-clause-keys c = refl
