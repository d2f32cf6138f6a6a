pub mod Families
pub mod StepsSettle
pub mod Tops
pub mod Setups
pub mod BigEndian
