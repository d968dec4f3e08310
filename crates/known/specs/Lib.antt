-- The known tables of document 01, as statements.
pub mod KnownTables
pub mod Preferring
