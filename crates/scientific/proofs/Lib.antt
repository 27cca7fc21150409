-- Laws of the exponent form.
pub mod Tens
pub mod Round
pub mod Fixed
pub mod Short
pub mod Text
pub mod Steps
pub mod Demand
pub mod Order
pub mod Canonical
pub mod Examples
