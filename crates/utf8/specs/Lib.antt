pub mod Characters
pub mod Grammar
