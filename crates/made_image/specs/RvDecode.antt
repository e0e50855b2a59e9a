-- Of `rv_decode`, what this crate and those above it name.
pub use Rattle.text_model.specs.RvDecode.Encode
pub use Rattle.text_model.specs.RvDecode.Valid
pub use Rattle.text_model.specs.RvDecode.declared
