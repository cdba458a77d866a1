-- What words ask for, what that gives, and how a run of the program ends.
pub mod Forms
pub mod Generator
pub mod Texts
pub mod Keeping
pub mod Endings
pub mod Answers
pub mod Threaded
pub mod Traced
pub mod SharedCounts
pub mod Numbers
