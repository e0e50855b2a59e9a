pub mod DdmTypes
pub mod Members
pub mod Orders
pub mod PlacesMoved
