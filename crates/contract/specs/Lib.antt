pub mod Res
pub mod Contract
pub mod Field
pub mod Segments
pub mod Table
pub mod Parse
pub mod Valid
pub mod Serialize
