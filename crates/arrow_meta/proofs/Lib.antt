mod Worked
pub mod Lengths
pub mod CollectLaws
pub mod ColumnLaws
pub mod BackLaws
pub mod MessageBack
pub mod FooterBack
