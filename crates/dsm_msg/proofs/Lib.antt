pub mod Layers
pub mod Grammar
pub mod Bodies
pub mod Answering
