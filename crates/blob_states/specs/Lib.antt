pub mod Recorded
pub mod Crashed
pub mod CrashStates
pub mod ScriptTexts
pub mod Printed
pub mod Streams
