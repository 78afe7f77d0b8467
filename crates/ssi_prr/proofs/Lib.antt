pub mod RequestFiles
