mod Classes
mod Numerals
mod Lexemes
mod Readings
mod Shapes
mod Cuts
