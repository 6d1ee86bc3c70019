pub mod SoughtLaws
pub mod KernelLaws
pub mod JoinedLaws
