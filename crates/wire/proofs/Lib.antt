pub mod Overs
pub mod Announcing
pub mod Starting
pub mod Fields
pub mod Framing
pub mod Wording
