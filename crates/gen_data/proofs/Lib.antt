mod TableLaws
mod RegionLaws
mod ColumnLaws
