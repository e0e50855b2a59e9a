pub mod DdmTypes
pub mod RvDecode
pub mod TreeModel
pub mod MadeImage
pub mod Rounds
pub mod Accepted
pub mod Computing
pub mod MadeExample
