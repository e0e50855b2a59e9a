-- What a search found, and the search of the tables that it is.
-- Letters: s is the search.
-- To be believed with the contracts: they speak of it.
use Rattle.std.specs.Prelude.{◌≡◌, length}
use Rattle.search_laws.specs.Search.{first_length, kept}
use Rattle.exploring.specs.SearchModel.Explored.{MachineSearch, first_lost, lost_states}
use Rattle.exploring.specs.StateKeys.Same.{same_state}
use Rattle.exploring.specs.declared.finding.Findings.{Findings}

pub record AreFindings (s : MachineSearch) (findings : Findings) : Type 0 where
  pub found : findings.search.found ≡ s.found
  pub jams : findings.search.jams ≡ s.jams
  pub full : findings.search.full ≡ s.full
  pub states : length findings.search.schedules ≡ length (kept s)
  pub turns : findings.turns ≡ first_length s.waiting
  pub lost_count : findings.lost_count ≡ length (lost_states same_state s)
  pub lost : findings.lost.items ≡ first_lost same_state (lost_states same_state s)
