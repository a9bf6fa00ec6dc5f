pub mod Better
mod OtherWords
