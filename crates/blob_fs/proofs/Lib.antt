pub mod Below
mod Drawing
pub mod Calls
pub mod Growing
pub mod Truncating
pub mod Cutting
pub mod Crashed
pub mod Recovering
pub mod Counting
pub mod Renaming
pub mod Settling
pub mod Walking
pub mod Synced
pub mod Fixed
pub mod States
pub mod Standing
pub mod Naming
pub mod Named
pub mod Tracked
pub mod Unreached
pub mod Syncing
pub mod Fixing
pub mod PlaceMaps
pub mod CrashWrites
pub mod WriteNumbers
pub mod PendingLists
pub mod WritePlaces
pub mod CrashRows
pub mod Sizing
pub mod Errors
pub mod Performing
pub mod Numbered
pub mod Noting
mod Reading
mod Zeroing
pub mod Forked
