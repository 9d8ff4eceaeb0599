pub mod Rows
pub mod Map
pub mod Cells
pub mod Rise
pub mod Units
pub mod Adding
pub mod Below
