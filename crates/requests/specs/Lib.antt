pub mod Messages
pub mod Bodies
pub mod Frames
