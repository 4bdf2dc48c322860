-- What the replay's functions rest on: codes, products, and a run's record taken a call at a time.
pub mod Coding
pub mod Walk
pub mod Outcome
