pub mod Grammar
pub mod Reading
pub mod Answering
pub mod Writing
pub mod Deciding
pub mod Standing
pub mod Saving
pub mod Loading
