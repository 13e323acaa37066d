mod Pushes
mod Stores
mod Wholes
