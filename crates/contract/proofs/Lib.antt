pub mod FirstEntry
pub mod Lengths
pub mod RoundTrip
pub mod ParsedValid
pub mod Canonical
pub mod Cases
pub mod Refusals
pub mod FromHeader
