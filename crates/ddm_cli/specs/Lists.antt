-- Lists that are large enough for the turn that goes on to be named.
-- To be believed with the contracts: they speak of it.
use Rattle.std.specs.Prelude.{ℕ, ◌*◌, nat_lt, Option, Some, None, if◌then◌else◌}
use Rattle.ddm_cli.specs.DdmTypes.declared.sizes.TreeSizes.{TreeSizes}
use Rattle.ddm_cli.specs.TreeConfig.declared.refusal.TreeKey.{TreeKey}
use Rattle.ddm_cli.specs.TreeConfig.declared.refusal.TreeKey.TheVariants as key
use Rattle.ddm_words.specs.declared.command.Prints.{Prints}
use Rattle.ddm_words.specs.declared.command.Prints.TheVariants.{Report, Trace, Summary, Unjamming, Checkpoint}

-- the first of the lists that has less than eight places for each of so many items
abbrev pub small_list : TreeSizes → ℕ → Option TreeKey
small_list s items =
    if nat_lt s.down (8 * items) then Some key.Down
    else (if nat_lt s.requests (8 * items) then Some key.Requests
    else (if nat_lt s.replies (8 * items) then Some key.Replies
    else None))

-- which nothing else that is printed asks about
abbrev pub list_refused : Prints → TreeSizes → ℕ → Option TreeKey
list_refused Unjamming s items = small_list s items
list_refused Report s items = None
list_refused Trace s items = None
list_refused Summary s items = None
list_refused Checkpoint s items = None
