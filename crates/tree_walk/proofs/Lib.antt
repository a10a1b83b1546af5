mod Dropped
mod Fronts
mod Ways
mod Begins
