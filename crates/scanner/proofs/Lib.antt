pub mod Contents
pub mod Classes
pub mod Steps
pub mod Laws
pub mod Firsts
