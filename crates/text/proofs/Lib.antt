-- decimal numbers
pub mod Decimal
-- fields and lines put one after the other
pub mod Fields
-- the requirements' own output
pub mod CaseA
