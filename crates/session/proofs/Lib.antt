-- the plan in two areas, state by state
pub mod PlanLaws
-- what the code's tests say of a step and of a session
pub mod CodeLaws
-- what opening answers
pub mod OpenLaws
-- which sessions reports lead to
pub mod Reachable
-- what a report that is taken moves
pub mod TakenLaws
-- the end of a deal
pub mod EndLaws
-- every session of a safe plan is in a safe state, and finished exactly at the end
pub mod SafeSession
