pub mod Words
pub mod Down
