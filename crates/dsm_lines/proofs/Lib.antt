pub mod Ranges
pub mod Pieces
pub mod Tabling
pub mod WordBits
pub mod Marking
pub mod Cells
pub mod Paging
pub mod Spanning
