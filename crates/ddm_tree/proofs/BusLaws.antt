-- Of `bus_laws`, what this crate and those above it name.
pub use Rattle.state_judging.proofs.BusLaws.FoundExists
pub use Rattle.state_judging.proofs.BusLaws.HartChanges
pub use Rattle.state_judging.proofs.BusLaws.HartFacts
pub use Rattle.state_judging.proofs.BusLaws.StartLevels
pub use Rattle.state_judging.proofs.BusLaws.StartNodes
pub use Rattle.state_judging.proofs.BusLaws.TreeKept
