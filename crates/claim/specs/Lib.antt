pub mod Claim
pub mod Facts
