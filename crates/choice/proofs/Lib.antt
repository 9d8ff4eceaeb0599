-- the running sums and the choice of one item
pub mod ItemLaws
-- placing items from one end, and joining both ends
pub mod PlaceLaws
pub mod JoinLaws
