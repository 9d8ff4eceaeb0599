pub mod Printout
-- what the private functions ask
pub mod Code
