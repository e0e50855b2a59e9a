pub mod DdmOutside
