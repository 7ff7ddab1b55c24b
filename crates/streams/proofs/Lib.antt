mod ReadIn
mod WrittenOut
