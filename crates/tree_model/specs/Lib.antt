pub mod DdmTypes
pub mod FlatModel
pub mod RvDecode
pub mod State
pub mod Turns
pub mod Start
pub mod Computing
pub mod Laws
