-- the promise by the form of the contract
pub mod PlanLaws
