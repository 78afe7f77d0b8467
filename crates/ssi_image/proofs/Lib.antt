pub mod Packing
pub mod Naming
pub mod NewNames
pub mod Tabling
pub mod Pins
pub mod Tabled
pub mod Found
