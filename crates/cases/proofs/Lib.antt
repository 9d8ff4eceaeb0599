-- facts of all cases, and the records read
pub mod AllFacts
pub mod Read
-- how planning can end: of every record, along one order, and over the rows of a table
pub mod Planning
pub mod Tests
pub mod OneOrder
pub mod Ladders
pub mod Prices
pub mod Tables
-- how a brought plan can go
pub mod BroughtPlans
-- the theorem
pub mod CasesHold
