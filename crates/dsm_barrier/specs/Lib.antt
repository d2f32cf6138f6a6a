pub mod Joined
pub mod BarrierStates
pub mod Histories
pub mod Barriers
pub mod Managers
