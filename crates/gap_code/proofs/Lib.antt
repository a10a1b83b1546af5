mod Numbers
mod Codes
mod Places
mod Builds
