mod Views
mod Typing
