pub mod CondRules
pub mod BodyRules
pub mod FileHeaders
pub mod Deepening
pub mod Endings
pub mod IdentityFiles
