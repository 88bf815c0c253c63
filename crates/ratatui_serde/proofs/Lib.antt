mod Words
mod Sending
mod ReadBack
