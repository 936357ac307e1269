-- That the lines of a text are the text.
pub mod Cut
