pub mod MapLaws
pub mod Laws
pub mod NamedLaws
pub mod FirstEight
