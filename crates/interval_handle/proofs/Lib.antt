mod Asked
mod Kind
mod Writing
