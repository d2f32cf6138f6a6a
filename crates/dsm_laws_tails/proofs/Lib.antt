pub mod Places
pub mod Late
pub mod Shuffles
pub mod Fronts
pub mod Histories
pub mod Tails
pub mod OlderParts
pub mod Copies
pub mod NewerAlike
mod Example
mod Worked
mod Checks
mod Pairs
mod Premises
mod TailPremises
