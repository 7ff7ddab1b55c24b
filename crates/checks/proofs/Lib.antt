mod Common
mod Members
mod Parts
