mod Common
mod Gone
mod Lines
mod Listings
mod Printing
mod Problems
mod Telling
