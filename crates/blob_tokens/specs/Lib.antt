pub mod Digits
pub mod Forms
pub mod Pairs
pub mod Tokens
