pub mod Each
pub mod KindLaws
