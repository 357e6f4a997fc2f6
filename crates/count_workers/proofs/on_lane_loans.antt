pub mod Walking
pub mod Lending
