mod ErrorLaws
mod OpenLaws
mod ReadyLaws
mod ReceiptLaws
mod SoFarLaws
