pub mod Debts
pub mod History
pub mod Recreated
