pub mod GatherLaws
pub mod TimeLaws
pub mod WalkLaws
pub mod RowLaws
pub mod SweepLaws
pub mod TurnLaws
pub mod GapLaws
pub mod laws
