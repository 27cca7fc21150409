-- Laws of twelve parts in memory, for walks by hand.
mod Twelve
