pub mod Chars
pub mod Texts
pub mod Syntax
pub mod Firsts
