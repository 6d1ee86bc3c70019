pub mod BareLaws
pub mod RowLaws
pub mod AcceptedLaws
pub mod DoneLaws
pub mod ReceiptLaws
