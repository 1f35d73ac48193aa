pub mod Portable
