-- the definitions that the promises rest on
pub mod Rises
-- what the private functions ask and give
pub mod Code
