mod Bits
mod Names
mod Printing
mod ReadBack
mod Reading
mod Styles
