mod InOrder
mod Merging
mod Nodes
mod Parted
mod Scattered
