-- what the promises rest on
pub mod Session
pub mod Opening
-- what the private functions ask and give
pub mod Code
-- what a session means
pub mod Reached
