-- what the promises rest on, to be read in this order
pub mod Deals
pub mod Order
pub mod Areas
pub mod Answer
pub mod Promise
pub mod OneAnswer
pub mod Bounds
pub mod Check
-- a contract that was read
pub mod Stands
pub mod Terms
pub mod Found
