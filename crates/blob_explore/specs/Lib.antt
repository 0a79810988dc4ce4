pub mod SharedCalls
pub mod Explorations
pub mod Outcomes
pub mod RefusedLines
pub mod ScriptTexts
