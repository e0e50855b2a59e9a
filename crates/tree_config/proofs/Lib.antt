pub mod Widths
pub mod Counts
pub mod Scans
pub mod GrammarScans
pub mod TreeScans
pub mod Even
pub mod ShapeReading
pub mod Shapes
pub mod UnknownKeys
pub mod Files
pub mod OnLiterals
mod Examples
