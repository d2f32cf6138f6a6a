pub mod Commands
pub mod InCode
pub mod Parser
