mod Answering
mod Putting
mod Slots
