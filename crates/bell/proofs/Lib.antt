pub mod Common
pub mod RingerSteps
pub mod SleeperSteps
pub mod AllTails
