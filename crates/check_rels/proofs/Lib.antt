pub mod MadeLaws
