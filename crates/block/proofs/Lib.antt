pub mod Past
pub mod Facts
pub mod Sessions
pub mod Empty
pub mod Gone
pub mod Sound
pub mod Told
