pub mod HeadlineCrate
