pub mod Fields
pub mod Rules
