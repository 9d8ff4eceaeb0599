pub mod Text
-- what the private functions ask
pub mod Code
