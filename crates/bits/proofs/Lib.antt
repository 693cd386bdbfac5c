pub mod ProtectionLaws
pub mod BitLaws
pub mod PackLaws
pub mod ScanLaws
pub mod CountLaws
