mod FileLaws
mod HeldLaws
