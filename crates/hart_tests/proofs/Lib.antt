pub mod RvHart
