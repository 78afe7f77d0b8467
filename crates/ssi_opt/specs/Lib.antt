pub mod Outputs
pub mod ReadOutputs
pub mod OutputRules
