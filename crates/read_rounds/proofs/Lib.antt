mod FileLaws
mod HeldLaws
mod OpenLaws
mod PlaceLaws
