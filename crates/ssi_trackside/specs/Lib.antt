pub mod Kinds
pub mod Module
pub mod Points
pub mod Shelf
