pub mod HoldLaws
pub mod WordLaws
pub mod DownLaws
