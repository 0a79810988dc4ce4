pub mod ChoiceTrees
pub mod Traversals
pub mod Trees
pub mod WordsLeft
