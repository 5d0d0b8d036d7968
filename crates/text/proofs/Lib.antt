-- `Numbered`: the digits of a number at the end of a line.
mod Numbered
