mod Costs
mod Owned
mod Taking
mod Sides
mod Changed
mod HandedOut
mod PutNodes
mod DelNodes
