pub mod Described
mod Held
mod Readable
