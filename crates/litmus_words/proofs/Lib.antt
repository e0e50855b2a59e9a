pub mod Digits
pub mod Tables
pub mod ThreadWords
pub mod TakenLetters
pub mod Places
