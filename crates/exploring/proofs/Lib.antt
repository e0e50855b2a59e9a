pub mod SearchFindings
