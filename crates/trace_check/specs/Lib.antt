-- Traces, the histories that they tell, and where they break.
pub mod Traces
pub mod Steps
pub mod Breaks
pub mod Cursors
pub mod Progress
pub mod Texts
pub mod Making
pub mod Reading
