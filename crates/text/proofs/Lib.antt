pub mod Counting
pub mod Starts
pub mod Walking
pub mod Placing
pub mod Changing
pub mod Measuring
pub mod Lawful
