mod Turns
mod Rounds
