pub mod UntilLaws
