mod KeyLaws
mod MatchLaws
mod SameLaws
mod WrittenLaws
