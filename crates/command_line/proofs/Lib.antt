mod CommandLines
mod Common
mod Words
