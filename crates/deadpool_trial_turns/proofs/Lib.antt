-- What the law stands on.
mod AllMoves
mod Parties
mod Runs
mod Waiting
