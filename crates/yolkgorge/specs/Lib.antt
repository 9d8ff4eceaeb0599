-- answers as numbers
pub mod Number
-- a session in a byte area
pub mod SessionBytes
-- bounds in a byte area
pub mod Limits
-- what the entries promise
pub mod Entries
pub mod Sessions
