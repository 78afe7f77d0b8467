pub mod InputFiles
