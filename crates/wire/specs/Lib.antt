pub mod Headers
pub mod Words
pub mod Frames
