pub mod Promise
pub mod Ends
