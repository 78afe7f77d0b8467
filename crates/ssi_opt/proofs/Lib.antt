pub mod OutputFiles
