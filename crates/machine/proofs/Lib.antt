pub mod Unique
pub mod Tables
pub mod FoundAgain
pub mod Runs
pub mod Answered
pub mod Sound
pub mod SoundBoots
pub mod SoundRuns
