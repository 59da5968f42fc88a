mod Steps
mod Bodies
mod Back
pub mod Names
