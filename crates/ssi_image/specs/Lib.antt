pub mod Places
pub mod Packed
pub mod Shown
pub mod OneCode
pub mod OnePlan
pub mod Tables
