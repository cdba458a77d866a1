-- Lemmas of this crate.
pub mod StillKnown
pub mod MovedViews
pub mod MetSpaces
pub mod Logging
pub mod StoredFields
pub mod FieldsLoaded
