pub mod Inputs
pub mod ReadInputs
pub mod InputRules
