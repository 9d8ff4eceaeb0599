-- a contract that was read, and its terms by its form
pub mod ReadLaws
pub mod TermsLaws
-- an order of items as segments
pub mod SegmentJoin
pub mod NamedOrder
pub mod AlongOrder
-- from what the planners below answer to the promise
pub mod LinePlan
pub mod Outcome
pub mod Room
pub mod LadderFound
pub mod LadderPlan
pub mod PricesPlan
pub mod TablePlan
pub mod FormRising
-- from a contract to its record
pub mod Records
-- our plan beside one that is brought
pub mod Rivals
-- nothing is left free
pub mod OrderBytes
pub mod SameOutcome
pub mod SomeOutcome
pub mod OneAnswer
