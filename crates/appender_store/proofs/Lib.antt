pub mod Appends
pub mod Contents
pub mod MemoryCallLemmas
pub mod MemoryEntryLemmas
pub mod MemorySoundness
pub mod NameLaws
pub mod Rising
