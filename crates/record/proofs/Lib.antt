pub mod RawLaws
pub mod Records
