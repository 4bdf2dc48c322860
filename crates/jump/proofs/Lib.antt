-- What a jump rests on, and the theorems about jumps.
pub mod Targets
pub mod Landing
pub mod JumpLaws
pub mod CodeLaws
