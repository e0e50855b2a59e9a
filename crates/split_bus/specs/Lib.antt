pub mod DdmTypes
pub mod ItemStates
pub mod TreeModel
pub mod Children
pub mod Outcomes
pub mod StaysRuled
