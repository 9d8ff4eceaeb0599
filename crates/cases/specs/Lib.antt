-- what a case says
pub mod Case
-- the cases
pub mod Table
