-- the reader
pub mod Laws
pub mod AnswerLaws
pub mod SegmentLaws
pub mod LadderLaws
pub mod FindLaws
pub mod FindOne
pub mod TableLaws
pub mod CellLaws
-- the writer; the laws of amounts within the limit serve both
pub mod PutLaws
pub mod TestLaws
pub mod CountLaws
pub mod WriteLaws
pub mod ReadBack
