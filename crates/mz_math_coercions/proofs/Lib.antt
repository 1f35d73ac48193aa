mod Backwards
mod Cells
mod Clashes
mod Leading
mod Naming
mod Terms
mod Walks
