pub mod FirstRound
pub mod HaveRuns
pub mod OneRound
pub mod UnderWay
