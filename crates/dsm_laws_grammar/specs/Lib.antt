pub mod Grammar
pub mod Programs
pub mod Refusals
pub mod Expressions
pub mod Statements
pub mod Items
pub mod TextPrograms
