mod Lists
mod OutcomeLaws
mod RunLaws
mod KeptOrder
mod Merging
mod Endings
