-- One name that opens every definition of served runs and all that they stand on.
-- Proofs alone need it.
use Rattle.text_model.specs.Computing.{runs_compute}
use Rattle.serving_model.specs.Serving.{walk_of, walks_of, turns_to_complete, serve_from, serve_of}

-- Where a proof says `unfolding serving_computes`, served runs compute.
unfoldable pub serving_computes : Unit {0}
unfolding runs_compute walk_of walks_of turns_to_complete serve_from serve_of
serving_computes = tt
