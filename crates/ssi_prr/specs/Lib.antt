pub mod Requests
pub mod ReadRequests
pub mod RequestRules
