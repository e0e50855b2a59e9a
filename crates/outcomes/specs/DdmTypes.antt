-- Of `ddm_types`, what this crate and those above it name.
pub use Rattle.outcome_model.specs.DdmTypes.ItemTable
pub use Rattle.outcome_model.specs.DdmTypes.Keys
pub use Rattle.outcome_model.specs.DdmTypes.declared
