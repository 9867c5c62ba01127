pub mod Rule
pub mod Verdict
pub mod Combining
pub mod EntryOrder
pub mod ExclusiveLaws
pub mod CommonLaws
pub mod PriorityLaws
pub mod SumLaws
