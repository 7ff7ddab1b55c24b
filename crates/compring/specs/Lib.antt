pub mod Posts
