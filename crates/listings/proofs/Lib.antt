-- The laws of listings: how lists built by cases, images and products of lists keep their order, and where things stand in them.
pub mod AscendingRules
pub mod ChoiceRules
pub mod ChoicePlaces
pub mod FirstLetters
pub mod JoinedRule
pub mod KeptRule
pub mod LoehrRules
pub mod Members
pub mod OrderFacts
pub mod PlaceRules
pub mod Ranks
pub mod SameBytes
pub mod Uniqueness
pub mod Standing
pub mod Demand
pub mod Walks
pub mod Stepping
