-- Of `any_runs`, what this crate and those above it name.
pub use Rattle.film.specs.AnyRuns.Run
