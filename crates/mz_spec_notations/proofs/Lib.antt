mod Noted
mod Numerals
mod Sizes
mod Spans
