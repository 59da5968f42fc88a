pub mod Telling
pub mod Words
pub mod Back
pub mod Only
