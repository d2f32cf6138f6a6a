pub mod Three
