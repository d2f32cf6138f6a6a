pub mod Thread
pub mod Laws
pub mod Crossing
pub mod CrossingLaws
