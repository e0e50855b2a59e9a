pub mod FileLaws
pub mod OrderLaws
pub mod OrderLists
pub mod TreeModel
pub mod Printed
pub mod OfFiles
