-- what the private functions give
pub mod Code
