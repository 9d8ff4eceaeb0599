-- from the answers of the planners below to the promise
pub mod PlanLaws
