pub mod Statements
pub mod ReadStatements
pub mod StatementRules
