pub mod Pieces
pub mod Runs
pub mod Leads
pub mod Scan
