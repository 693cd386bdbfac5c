pub mod PageLaws
pub mod CutLaws
