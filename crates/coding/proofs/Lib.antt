pub mod Moving
pub mod Gathering
pub mod Orders
pub mod Fives
pub mod Checking
