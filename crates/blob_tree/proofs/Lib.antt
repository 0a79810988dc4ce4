pub mod Asking
pub mod ChoiceVisits
pub mod Turning
pub mod Visits
