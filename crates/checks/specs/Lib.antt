-- what the private functions ask and give
pub mod Brought
pub mod Rows
