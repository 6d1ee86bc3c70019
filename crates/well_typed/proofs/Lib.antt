pub mod Made
pub mod MadeRel
pub mod ValidColumns
pub mod ValidKinds
