pub mod Rising
pub mod Truths
pub mod Numbers
pub mod Total
pub mod Until
pub mod Arith
