mod Loosed
mod Handled
