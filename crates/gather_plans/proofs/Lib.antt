mod FileLaws
mod CloseLaws
