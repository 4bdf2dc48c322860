-- The theorems about families: that each listing is the listing, its count, what the questions ask, how calls go through a listing, and demand 3.
pub mod QuestionLaws
pub mod RowsHold
pub mod FamilyFacts
pub mod Dispatch
pub mod CountAnswers
pub mod Verdicts
pub mod Responses
pub mod Passing
pub mod Going
pub mod Refusals
pub mod Answered
pub mod Edges
pub mod Floors
pub mod Editions
pub mod Demand
pub mod Cases
pub mod CodeLaws
