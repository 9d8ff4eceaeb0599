-- what read and write promise
pub mod Promise
-- what find promises
pub mod Find
-- what the code's own types stand for
pub mod View
