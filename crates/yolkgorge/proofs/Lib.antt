-- what planning answers, as a number
pub mod NumberLaws
-- sessions in a byte area
pub mod SessionLaws
-- what the entries on sessions answer and leave
pub mod ReplyLaws
-- bounds in a byte area
pub mod LimitLaws
