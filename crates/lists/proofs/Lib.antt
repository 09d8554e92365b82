-- What the proofs of all crates use.
pub mod TestLaws
pub mod ListLaws
pub mod SortLaws
pub mod RangeLaws
pub mod CountLaws
pub mod NthLaws
pub mod NameLaws
pub mod PartLaws
