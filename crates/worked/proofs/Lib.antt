pub mod Chains
pub mod Pedal
pub mod Settling
pub mod Stages
pub mod Examples
