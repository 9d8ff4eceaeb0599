-- the room in the areas
pub mod RoomLaws
-- the answers along an order
pub mod AnswerLaws
-- the promise, for a ladder and for unit prices
pub mod PlanLaws
