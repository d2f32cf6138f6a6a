pub mod Mailbox
pub mod Peers
pub mod Versions
pub mod Copy
pub mod Names
pub mod Node
