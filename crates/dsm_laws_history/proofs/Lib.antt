pub mod Lines
pub mod Marks
pub mod BarrierLines
pub mod BarrierMarks
pub mod Truth
pub mod Effects
pub mod OwnParts
pub mod Labels
pub mod Reached
pub mod PlainTurns
pub mod Told
pub mod Histories
pub mod Agreement
pub mod Printing
pub mod Handled
pub mod Arrivals
pub mod InPlace
mod Example
mod Crossed
pub mod Grants
pub mod Order
