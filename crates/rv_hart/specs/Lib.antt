pub mod DdmTypes
pub mod FlatModel
pub mod RvDecode
pub mod HartState
pub mod Steps
pub mod FlatStep
