-- what the private functions ask and give
pub mod Code
