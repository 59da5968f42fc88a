pub mod Encodings
pub mod Names
pub mod Numbers
pub mod ScriptLines
pub mod Texts
