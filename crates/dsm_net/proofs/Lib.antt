mod Crossing
mod HandOver
mod Readers
mod ShippedLine
mod Worked
