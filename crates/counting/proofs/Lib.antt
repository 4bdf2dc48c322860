-- The laws of the answers: what an answer tells of a count, and which answer a count has; tables of counts; and the product of binomials.
pub mod Answers
pub mod Tables
pub mod Products
