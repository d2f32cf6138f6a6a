pub mod Instructions
pub mod Programs
pub mod Machine
pub mod Valid
pub mod Typed
pub mod Finished
pub mod Prints
