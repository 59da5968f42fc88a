pub mod Types
pub mod Tokens
