pub mod SettingLemmas
pub mod KeyLemmas
pub mod FileLemmas
pub mod PackLemmas
