mod Copies
mod Lines
mod Sources
