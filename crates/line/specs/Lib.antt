-- the definitions that the promise rests on
pub mod Segments
pub mod Promise
-- what the private functions ask and give
pub mod Code
pub mod OpeningCode
-- what the bounds of a place and the check of a plan promise
pub mod BoundsPromise
pub mod CheckPromise
-- what their private functions ask and give
pub mod CheckCode
-- a line of segments as one value
pub mod Course
