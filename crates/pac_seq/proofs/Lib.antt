mod Backs
mod Carried
mod Fronts
mod Passes
mod Past
mod Runs
mod Spans
