-- Which kinds are cast to which (Substrait `Cast`).
pub use Rattle.well_typed.specs.Casts.{is_whole, is_cast_of_whole, is_cast_of, can_cast}
