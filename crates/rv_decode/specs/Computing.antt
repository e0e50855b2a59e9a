-- One name that opens every definition of this crate that is shut by default.
use Rattle.rv_decode.specs.Table.{table, decode_by, decode_of}

-- Where a proof says `unfolding decode_computes`, the table and what reads it compute.
unfoldable pub decode_computes : Unit {0}
unfolding table decode_by decode_of
decode_computes = tt
