mod Halves
mod Turns
mod Puts
