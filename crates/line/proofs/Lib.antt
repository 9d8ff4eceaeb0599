-- sums along segments, which segments fit, and the cursor
pub mod SegmentLaws
-- the deal along segments, by the code's numbers
pub mod DealLaws
-- the rule's steps in the areas
pub mod RunLaws
-- a first step before them
pub mod FirstLaws
pub mod OpeningLaws
-- the bounds of a place
pub mod PlaceLaws
-- a brought plan followed step by step
pub mod CheckLaws
