pub mod Mails
pub mod Blocks
