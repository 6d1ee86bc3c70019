mod BodyLaws
pub mod FlowLaws
mod ReceiptLaws
