pub mod DdmTypes
pub mod Pushed
pub mod SameMoment
pub mod Taken
