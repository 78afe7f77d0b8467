pub mod StatementFiles
