pub mod ChainFiles
