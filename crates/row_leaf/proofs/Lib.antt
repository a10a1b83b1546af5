mod Cells
mod Falling
mod Seeks
mod Views
