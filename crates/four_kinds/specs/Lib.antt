pub mod FourKinds
pub mod FourLaws
