-- a ladder as a line of segments with one unit each
pub mod RiseLaws
-- the scan for a gap, and where a delivery stops
pub mod PlanLaws
