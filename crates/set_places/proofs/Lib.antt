pub mod TimesLaws
pub mod CountLaws
pub mod MarkLaws
pub mod OperationLaws
