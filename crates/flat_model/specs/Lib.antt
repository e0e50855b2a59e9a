pub mod DdmTypes
pub mod RvDecode
pub mod Hart
pub mod Flat
pub mod Legal
pub mod Examples
pub mod Computing
