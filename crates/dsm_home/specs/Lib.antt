pub mod LockStates
pub mod HomeStates
pub mod Homes
