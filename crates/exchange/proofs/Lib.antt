-- bounds, safe states and the bridge to the working form
pub mod Int
pub mod BoundLaws
pub mod Bridge
pub mod Clipped
pub mod TableLaws
pub mod FormLaws
-- the code's tests
pub mod Machine
pub mod CoinLaws
pub mod TestLaws
-- planning along a given order, choosing an order of units, and planning over the rows of a table
pub mod GivenOrder
pub mod Objectives
pub mod Choice
pub mod TablePlan
pub mod PlanInLaws
