-- Of `lr_sc_laws`, what those above this crate name.
pub use Rattle.lr_sc_laws.specs.Failing
