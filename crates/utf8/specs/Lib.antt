-- `Utf8`: what the functions answer, and what the standard says: scalar values and their bytes.
pub mod Utf8
