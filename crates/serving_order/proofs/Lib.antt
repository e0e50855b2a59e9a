pub mod NoEnds
pub mod Rising
pub mod Served
