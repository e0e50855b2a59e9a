-- Of `jam_laws`, what this crate and those above it name.
pub use Rattle.no_jam.proofs.JamLaws.LargeLists
