pub mod Places
pub mod Lines
pub mod Units
pub mod Columns
pub mod Positions
pub mod Laws
