pub mod Decimals
pub mod HexDigits
pub mod HexLanes
pub mod HexParts
pub mod Numbers
pub mod Tokens
