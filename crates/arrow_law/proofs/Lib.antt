mod Worked
pub mod Options
pub mod PackedBits
pub mod Slots
pub mod Pieces
pub mod Validity
pub mod Numbers
pub mod Texts
pub mod ColumnBack
pub mod BodyBack
pub mod RowsBack
pub mod BatchBack
pub mod Ends
pub mod Sizes
pub mod BlocksBack
pub mod HeadBack
pub mod Law
