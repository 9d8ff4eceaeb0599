-- the definitions that promises rest on
pub mod Bounds
pub mod Deal
pub mod Forms
pub mod Rule
pub mod Arrival
pub mod Possible
pub mod Chosen
pub mod Fewest
pub mod Objectives
pub mod Clipped
pub mod Test
pub mod PlanIn
pub mod Named
-- the working form of the theory
pub mod Work
pub mod Choice
pub mod Search
