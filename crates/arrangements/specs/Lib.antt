-- What a reader must believe of the exported calls: which number stands for which answer.
pub mod Told
