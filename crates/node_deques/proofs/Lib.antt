mod Orders
mod Taken
mod Numbers
mod Steps
