pub mod Ranks
pub mod RankSets
pub mod RankLists
