pub mod Digits
pub mod Sets
pub mod RankSets
pub mod RankLists
