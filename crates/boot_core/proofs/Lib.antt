pub mod Records
pub mod Concluding
pub mod Fronts
mod Described
mod Readable
mod Stops
mod Masks
mod Raised
mod SwapSizes
pub mod Again
pub mod Stopping
pub mod Texts
pub mod Given
mod NotReady
mod Wholes
pub mod Steps
pub mod CutEvents
mod Afresh
mod FirstHeld
mod Resting
mod Trials
mod Trying
mod Keeping
mod OnMap
mod Looked
mod Moves
mod Passed
mod Booted
mod Undecided
mod Upgrades
pub mod Measured
mod Begun
mod Reverts
pub mod Wears
mod Taken
mod Pieces
mod Finished
mod Opening
mod Repeats
mod Asking
