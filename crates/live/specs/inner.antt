pub mod Thinned
