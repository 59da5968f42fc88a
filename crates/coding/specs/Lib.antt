pub mod Placing
pub mod Coding
