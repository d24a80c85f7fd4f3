pub mod Mapped
pub mod Shapes
pub mod Fitting
pub mod Outcome
