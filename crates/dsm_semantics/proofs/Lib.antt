pub mod Falls
pub mod Waiting
pub mod Asking
pub mod Within
pub mod Accepted
pub mod Finishing
pub mod Endings
pub mod Next
