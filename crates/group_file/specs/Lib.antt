pub mod Catalogues
pub mod GroupFile
pub mod Repeats
