-- What only the contracts of private functions cite.
pub mod Notes
pub mod Tallies
pub mod Rows
pub mod Census
pub mod RollingCode
pub mod NumberingCode
pub mod PartnersCode
pub mod RecoverCode
pub mod PairsCode
