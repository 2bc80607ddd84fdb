mod Digits
mod Rounding
