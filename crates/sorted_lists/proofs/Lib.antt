mod Batches
mod FrontPairs
mod KeySets
