mod Agreeing
mod Fails
mod Handed
mod Happening
pub mod Keeping
mod Numbered
mod Opened
mod Places
mod Queues
mod Requests
pub mod Retained
mod Retrying
mod Scanned
mod Sent
mod Serves
pub mod Slots
mod Snapshots
mod Sorting
mod Supplied
mod Turns
mod Wanted
mod Rulings
mod Verdicts
mod Settled
