mod Between
mod CommonKeys
mod Nearby
mod Popped
mod SameKeys
mod Turns
