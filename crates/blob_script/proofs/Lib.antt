pub mod HexFields
pub mod OtherWords
pub mod Readers
pub mod SaidLines
pub mod Through
pub mod WordLists
pub mod WorkedLines
