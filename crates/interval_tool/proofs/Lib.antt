pub mod IntervalFacts
