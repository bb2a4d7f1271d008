pub mod Cipher
pub mod Words
pub mod OnWords
pub mod Blocks
