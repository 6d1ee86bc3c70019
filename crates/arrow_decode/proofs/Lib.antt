pub mod BufferLaws
pub mod NumberLaws
pub mod ListLaws
pub mod TextLaws
pub mod IndexLaws
pub mod InKindLaws
pub mod LengthLaws
pub mod ChunkLaws
pub mod CharacterLaws
pub mod NullLaws
mod ShortLaws
