-- Definitions of libraries below that proofs of this crate open.
unfoldable pub use Rattle.report.specs.DdmText.Hex.{hex2, hex8}
