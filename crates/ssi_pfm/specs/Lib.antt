pub mod Rules
pub mod ReadRules
pub mod RuleLaws
