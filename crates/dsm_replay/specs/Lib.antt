pub mod Places
pub mod Merging
pub mod Kept
pub mod Reports
pub mod Inputs
pub mod Newest
pub mod Gathering
pub mod Replays
