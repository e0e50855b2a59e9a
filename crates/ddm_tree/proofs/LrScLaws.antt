-- Of `lr_sc_laws`, what this crate and those above it name.
pub use Rattle.leaf_protocol.proofs.LrScLaws.Failing
